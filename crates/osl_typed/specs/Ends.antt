-- How a statement ends, and loops (OSL specification, sections "Declarations, statements and blocks" and "Iteration"). Entering a loop's body takes one turn of the loop budget.
use Rattle.std.specs.Prelude.{ℕ, zero, suc, Bool, true, false, List, [], ◌∷◌}
use Rattle.osl_value.specs.AnyValue.{AnyValue}
use Rattle.osl_typed.specs.State.{State, with_turns}

-- A statement goes on after its end, or leaves what is round it.
pub data StatementEnd : Type 0 where
  Next : State → StatementEnd
  Breaks : State → StatementEnd
  Continues : State → StatementEnd
  -- with the leaves of the value that is returned
  Returns : List AnyValue → State → StatementEnd
  -- the layer ends
  Exits : State → StatementEnd
  -- the budget is spent, or an input that was read is nothing
  Spent : State → StatementEnd

-- what a statement does, from a state
abbrev pub Doing : Type 0
Doing = State → StatementEnd

abbrev pub then_do : StatementEnd → Doing → StatementEnd
then_do (Next s) go = go s
then_do (Breaks s) go = Breaks s
then_do (Continues s) go = Continues s
then_do (Returns v s) go = Returns v s
then_do (Exits s) go = Exits s
then_do (Spent s) go = Spent s

-- one after the other
unfoldable pub in_turn : List Doing → Doing
in_turn [] s = Next s
in_turn (x ∷ xs) s = then_do (x s) (in_turn xs)

-- ---- loops

-- a condition holds or not, or the run ends in it
pub data Tested : Type 0 where
  Holds : State → Tested
  Fails : State → Tested
  Ends : StatementEnd → Tested

abbrev pub on_test : Tested → Doing → StatementEnd
on_test (Holds s) go = go s
on_test (Fails s) go = Next s
on_test (Ends end) go = end

-- one turn of the budget, if there is one
abbrev pub take_turn : ℕ → State → Doing → StatementEnd
take_turn zero s go = Spent s
take_turn (suc n) s go = go (with_turns n s)

-- `continue` goes on with the loop as the body's end does, and `break` leaves it
abbrev pub after_body : StatementEnd → Doing → StatementEnd
after_body (Next s) go = go s
after_body (Breaks s) go = Next s
after_body (Continues s) go = go s
after_body (Returns v s) go = Returns v s
after_body (Exits s) go = Exits s
after_body (Spent s) go = Spent s

-- one turn: the body, the step, and then what follows
abbrev pub turn : (body step rest : Doing) → Doing
turn body step rest s = take_turn s.turns s (λ s1. after_body (body s1) (λ s2. then_do (step s2) rest))

-- a loop from its test on, where n is no less than the turns that are left
unfoldable pub loop : (n : ℕ) → (test : State → Tested) → (body step : Doing) → Doing
loop zero test body step s = on_test (test s) Spent
loop (suc n) test body step s = on_test (test s) (turn body step (loop n test body step))

-- a loop that tests before its first turn, or after it
abbrev pub looped : (tested_first : Bool) → (test : State → Tested) → (body step : Doing) → Doing
looped true test body step s = loop s.turns test body step s
looped false test body step s = turn body step (λ s1. loop s1.turns test body step s1) s
