-- What ops mean: a run of a range of ops, from a state to how it ends (oso text, control ops; the table of operations has what the others compute).
use Rattle.std.specs.Prelude.{ℕ, zero, suc, ◌+◌, nat_eq, nat_lt, Bool, true, false, not, if◌then◌else◌, List, [], ◌∷◌, length, Option, Some, None, slice_get}
use Rattle.osl_value.specs.AnyValue.{AnyValue, numbers_of}
use Rattle.osl_value.specs.Apply.{apply}
use Rattle.osl_value.specs.Geometry.{number_at}
use Rattle.osl_value.specs.Numbers.{is_zero}
use Rattle.oso_code.specs.Steps.{Span, Way, Break, Continue, Return, Exit, Step, Compute, Branch, Loop, Call, Leave}

-- ---- states

-- the values of symbols, the turns of loops that are left, the connected parameters that were read, and the number of ops that were run
pub record State : Type 0 where
  pub values : ℕ → AnyValue
  pub turns : ℕ
  pub reads : ℕ → Bool
  pub ops : ℕ

unfoldable pub put : {X : Type 0} → ℕ → X → (ℕ → X) → ℕ → X
put k x f = λ j. if nat_eq j k then x else f j

abbrev pub write : ℕ → AnyValue → State → State
write k v s = record { values = put k v s.values; turns = s.turns; reads = s.reads; ops = s.ops }

abbrev pub note : ℕ → State → State
note k s = record { values = s.values; turns = s.turns; reads = put k true s.reads; ops = s.ops }

abbrev pub with_turns : ℕ → State → State
with_turns n s = record { values = s.values; turns = n; reads = s.reads; ops = s.ops }

-- one more op
abbrev pub ticked : State → State
ticked s = record { values = s.values; turns = s.turns; reads = s.reads; ops = s.ops + 1 }

-- ---- reading

-- where a symbol's value comes from when it is read
pub data Source : Type 0 where
  -- from the run's own state
  Own : Source
  -- from a connected layer, which may have given nothing
  Wired : Option AnyValue → Source
  -- from what is known of it beforehand: such a read looks at no state and is not noted. A layer's run has none
  Held : AnyValue → Source

abbrev pub Sources : Type 0
Sources = ℕ → Source

pub data Reading : Type 0 where
  Gives : AnyValue → State → Reading
  Spent : State → Reading

abbrev pub read_from : Source → ℕ → State → Reading
read_from Own k s = Gives (s.values k) s
read_from (Wired None) k s = Spent (note k s)
read_from (Wired (Some v)) k s = Gives v (note k s)
read_from (Held v) k s = Gives v s

abbrev pub read : Sources → ℕ → State → Reading
read from k s = read_from (from k) k s

-- ---- ends

-- how a range ends: by its end, by another way, or with the budget spent or a connected value missing
pub data Outcome : Type 0 where
  Next : State → Outcome
  Jumps : Way → State → Outcome
  Spent : State → Outcome

-- the last state
abbrev pub last : Outcome → State
last (Next s) = s
last (Jumps way s) = s
last (Spent s) = s

abbrev pub then_do : Outcome → (State → Outcome) → Outcome
then_do (Next s) go = go s
then_do (Jumps way s) go = Jumps way s
then_do (Spent s) go = Spent s

abbrev pub with_value : Reading → (AnyValue → State → Outcome) → Outcome
with_value (Gives v s) go = go v s
with_value (Spent s) go = Spent s

abbrev pub either : Bool → (State → Outcome) → (State → Outcome) → State → Outcome
either true go other s = go s
either false go other s = other s

-- the arguments of an op, from left to right; the first that is missing ends the run
abbrev pub arguments : Sources → List ℕ → State → (List AnyValue → State → Outcome) → Outcome
arguments from [] s go = go [] s
arguments from (k ∷ ks) s go = with_value (read from k s) (λ v s1. arguments from ks s1 (λ vs s2. go (v ∷ vs) s2))

-- a condition is an int that is not zero
abbrev pub is_so : AnyValue → Bool
is_so v = not (is_zero (number_at (numbers_of v) 0))

-- ---- loops

-- what a loop's test comes to
pub data Tested : Type 0 where
  Holds : State → Tested
  Fails : State → Tested
  Ends : Outcome → Tested

abbrev pub on_test : Tested → (State → Outcome) → Outcome
on_test (Holds s) go = go s
on_test (Fails s) go = Next s
on_test (Ends o) go = o

abbrev pub decide : Reading → Tested
decide (Gives v s) = if is_so v then Holds s else Fails s
decide (Spent s) = Ends (Spent s)

-- a condition is read after its range was run
abbrev pub test_after : Sources → ℕ → Outcome → Tested
test_after from c (Next s) = decide (read from c s)
test_after from c (Jumps way s) = Ends (Jumps way s)
test_after from c (Spent s) = Ends (Spent s)

-- one turn of the budget, if there is one
abbrev pub take_turn : ℕ → State → (State → Outcome) → Outcome
take_turn zero s go = Spent s
take_turn (suc n) s go = go (with_turns n s)

-- `continue` goes on with the loop as the body's end does, and `break` leaves it
abbrev pub after_body : Outcome → (State → Outcome) → Outcome
after_body (Next s) go = go s
after_body (Jumps Break s) go = Next s
after_body (Jumps Continue s) go = go s
after_body (Jumps Return s) go = Jumps Return s
after_body (Jumps Exit s) go = Jumps Exit s
after_body (Spent s) go = Spent s

-- one turn: the body, the step, and then what follows
abbrev pub turn : (State → Outcome) → (State → Outcome) → (State → Outcome) → State → Outcome
turn body step rest s = take_turn s.turns s (λ s1. after_body (body s1) (λ s2. then_do (step s2) rest))

-- a loop from its test on, where n is no less than the turns that are left
unfoldable pub loop : ℕ → (State → Tested) → (State → Outcome) → (State → Outcome) → State → Outcome
loop zero test body step s = on_test (test s) (λ s1. Spent s1)
loop (suc n) test body step s = on_test (test s) (turn body step (loop n test body step))

abbrev pub looped : Bool → (State → Tested) → (State → Outcome) → (State → Outcome) → State → Outcome
looped true test body step s = loop s.turns test body step s
looped false test body step s = turn body step (λ s1. loop s1.turns test body step s1) s

-- ---- calls

-- a call's range is left by a return as by its end; `break` and `continue` do not come there in valid code
abbrev pub call_end : Outcome → Outcome
call_end (Next s) = Next s
call_end (Jumps Break s) = Next s
call_end (Jumps Continue s) = Next s
call_end (Jumps Return s) = Next s
call_end (Jumps Exit s) = Jumps Exit s
call_end (Spent s) = Spent s

-- ---- ops

-- a run from one place up to another
abbrev pub Run : Type 0
Run = ℕ → ℕ → State → Outcome

abbrev pub run_span : Run → Span → State → Outcome
run_span go span s = go span.start span.end s

-- the op at i of a range that ends at e, where `go` runs shorter ranges
abbrev pub act : Sources → Run → Option Step → Run
act from go None i e s = Next s
act from go (Some (Compute name ty target sources)) i e s =
    arguments from sources s (λ vs s1. go (i + 1) e (write target (apply name ty vs) s1))
act from go (Some (Branch c holds fails)) i e s =
    with_value (read from c s) (λ v s1. then_do (either (is_so v) (run_span go holds) (run_span go fails) s1) (go fails.end e))
act from go (Some (Loop tested c test body step)) i e s =
    then_do (looped tested (λ s1. test_after from c (run_span go test s1)) (run_span go body) (run_span go step) s) (go step.end e)
act from go (Some (Call body)) i e s = then_do (call_end (run_span go body s)) (go body.end e)
act from go (Some (Leave way)) i e s = Jumps way s

-- the ops from i up to e, where n is no less than their number. Each op counts once, when the run comes to it from outside its ranges
unfoldable pub run : Sources → List Step → ℕ → Run
run from steps zero i e s = Next s
run from steps (suc n) i e s = either (nat_lt i e) (λ s1. act from (run from steps n) (slice_get steps i) i e (ticked s1)) Next s

-- the ops from i up to e
abbrev pub range : Sources → List Step → Run
range from steps i e s = run from steps (length steps) i e s
