-- What all but writes keep lasts where the ops that write keep it, for every part of a run.
use Rattle.std.proofs.Common.{◌≡◌, ℕ, zero, suc, ◌+◌, List, [], ◌∷◌, length, Option, Some, None, Bool, true, false, refl}
use Rattle.std.specs.Prelude.{slice_get, nat_lt, if◌then◌else◌}
use Rattle.osl_value.specs.declared.op_name.OpName.{OpName}
use Rattle.osl_value.specs.declared.types.Ty.{Ty}
use Rattle.osl_value.specs.AnyValue.{AnyValue}
use Rattle.osl_value.specs.Apply.{apply}
use Rattle.oso_code.specs.Lasting.{Stays, Keeps, KeepsTest, last_tested}
use Rattle.oso_code.specs.Run.{State, write, note, ticked, with_turns, Source, Own, Wired, Held, Sources, read_from, Outcome, Next, Jumps, Spent, last, then_do, with_value, either, arguments, is_so, Tested, Holds, Fails, Ends, on_test, decide, test_after, take_turn, after_body, turn, loop, looped, call_end, Run, run_span, act, run, range}
use Rattle.oso_code.specs.Steps.{Break, Continue, Return, Exit, Step, Compute, Branch, Loop, Call, Leave}

module _ (P : State → Type 0) (keeps : Stays P) where
  pub value_stays : (i : Source) (k : ℕ) (s : State) (go : AnyValue → State → Outcome) → P s → ((v : AnyValue) → Keeps P (go v)) → P (last (with_value (read_from i k s) go))
  value_stays Own k s go p h = h (s.values k) s p
  value_stays (Wired None) k s go p h = keeps.notes k s p
  value_stays (Wired (Some v)) k s go p h = h v (note k s) (keeps.notes k s p)
  value_stays (Held v) k s go p h = h v s p

  pub then_stays : (o : Outcome) (go : State → Outcome) → P (last o) → Keeps P go → P (last (then_do o go))
  then_stays (Next s) go p h = h s p
  then_stays (Jumps way s) go p h = p
  then_stays (Spent s) go p h = p

  pub after_stays : (o : Outcome) (go : State → Outcome) → P (last o) → Keeps P go → P (last (after_body o go))
  after_stays (Next s) go p h = h s p
  after_stays (Jumps Break s) go p h = p
  after_stays (Jumps Continue s) go p h = h s p
  after_stays (Jumps Return s) go p h = p
  after_stays (Jumps Exit s) go p h = p
  after_stays (Spent s) go p h = p

  pub call_stays : (o : Outcome) → P (last o) → P (last (call_end o))
  call_stays (Next s) p = p
  call_stays (Jumps Break s) p = p
  call_stays (Jumps Continue s) p = p
  call_stays (Jumps Return s) p = p
  call_stays (Jumps Exit s) p = p
  call_stays (Spent s) p = p

  pub on_stays : (t : Tested) (go : State → Outcome) → P (last_tested t) → Keeps P go → P (last (on_test t go))
  on_stays (Holds s) go p h = h s p
  on_stays (Fails s) go p h = p
  on_stays (Ends o) go p h = p

  take_stays : (n : ℕ) (s : State) (go : State → Outcome) → s.turns ≡ n → P s → Keeps P go → P (last (take_turn n s go))
  take_stays zero s go is p h = p
  take_stays (suc n) s go is p h = h (with_turns n s) (keeps.turns n s p is)

  pub turn_stays : (body step rest : State → Outcome) → Keeps P body → Keeps P step → Keeps P rest → Keeps P (turn body step rest)
  turn_stays body step rest hb hs hr s p =
      take_stays s.turns s (λ s1. after_body (body s1) (λ s2. then_do (step s2) rest)) refl p (λ s1 p1. after_stays (body s1) (λ s2. then_do (step s2) rest) (hb s1 p1) (λ s2 p2. then_stays (step s2) rest (hs s2 p2) hr))

  pub loop_stays : (n : ℕ) (test : State → Tested) (body step : State → Outcome) → KeepsTest P test → Keeps P body → Keeps P step → Keeps P (loop n test body step)
  unfolding loop
  loop_stays zero test body step ht hb hs s p = on_stays (test s) (λ s1. Spent s1) (ht s p) (λ s1 p1. p1)
  loop_stays (suc n) test body step ht hb hs s p =
      on_stays (test s) (turn body step (loop n test body step)) (ht s p) (turn_stays body step (loop n test body step) hb hs (λ s1 p1. loop_stays n test body step ht hb hs s1 p1))

  pub looped_stays : (tested : Bool) (test : State → Tested) (body step : State → Outcome) → KeepsTest P test → Keeps P body → Keeps P step → Keeps P (looped tested test body step)
  looped_stays true test body step ht hb hs s p = loop_stays s.turns test body step ht hb hs s p
  looped_stays false test body step ht hb hs s p =
      turn_stays body step (λ s1. loop s1.turns test body step s1) hb hs (λ s1 p1. loop_stays s1.turns test body step ht hb hs s1 p1) s p

  choice_stays : (b : Bool) (s : State) → P s → P (last_tested (if b then Holds s else Fails s))
  choice_stays true s p = p
  choice_stays false s p = p

  pub either_stays : (b : Bool) (go other : State → Outcome) → Keeps P go → Keeps P other → Keeps P (either b go other)
  either_stays true go other h g s p = h s p
  either_stays false go other h g s p = g s p

  pub decide_stays : (i : Source) (c : ℕ) (s : State) → P s → P (last_tested (decide (read_from i c s)))
  decide_stays Own c s p = choice_stays (is_so (s.values c)) s p
  decide_stays (Wired None) c s p = keeps.notes c s p
  decide_stays (Wired (Some v)) c s p = choice_stays (is_so v) (note c s) (keeps.notes c s p)
  decide_stays (Held v) c s p = choice_stays (is_so v) s p

  pub test_stays : (from : Sources) (c : ℕ) (o : Outcome) → P (last o) → P (last_tested (test_after from c o))
  test_stays from c (Next s) p = decide_stays (from c) c s p
  test_stays from c (Jumps way s) p = p
  test_stays from c (Spent s) p = p

  module _ (from : Sources) (steps : List Step) where
    pub args_stay : (ks : List ℕ) (s : State) (go : List AnyValue → State → Outcome) → P s → ((vs : List AnyValue) → Keeps P (go vs)) → P (last (arguments from ks s go))
    args_stay [] s go p h = h [] s p
    args_stay (k ∷ ks) s go p h =
        value_stays (from k) k s (λ v s1. arguments from ks s1 (λ vs s2. go (v ∷ vs) s2)) p (λ v t q. args_stay ks t (λ vs s2. go (v ∷ vs) s2) q (λ vs. h (v ∷ vs)))

    -- an op that writes keeps the fact, however the run goes on
    abbrev pub KeepsWriting : Option Step → Type 0
    KeepsWriting o =
        (name : OpName) (ty : Ty) (target : ℕ) (sources : List ℕ) → o ≡ Some (Compute name ty target sources) → (go : State → Outcome) → Keeps P go
        → Keeps P (λ s. arguments from sources s (λ vs s1. go (write target (apply name ty vs) s1)))

    pub act_stays : (go : Run) → ((i e : ℕ) → Keeps P (go i e)) → (o : Option Step) → KeepsWriting o → (i e : ℕ) → Keeps P (act from go o i e)
    act_stays go h None w i e s p = p
    act_stays go h (Some (Compute name ty target sources)) w i e s p = w name ty target sources refl (go (i + 1) e) (h (i + 1) e) s p
    act_stays go h (Some (Branch c holds fails)) w i e s p =
        value_stays (from c) c s (λ v s1. then_do (either (is_so v) (run_span go holds) (run_span go fails) s1) (go fails.end e)) p (λ v t q. then_stays (either (is_so v) (run_span go holds) (run_span go fails) t) (go fails.end e) (either_stays (is_so v) (run_span go holds) (run_span go fails) (h holds.start holds.end) (h fails.start fails.end) t q) (h fails.end e))
    act_stays go h (Some (Loop tested c test body step)) w i e s p =
        then_stays (looped tested (λ s1. test_after from c (run_span go test s1)) (run_span go body) (run_span go step) s) (go step.end e) (looped_stays tested (λ s1. test_after from c (run_span go test s1)) (run_span go body) (run_span go step) (λ t q. test_stays from c (run_span go test t) (h test.start test.end t q)) (h body.start body.end) (h step.start step.end) s p) (h step.end e)
    act_stays go h (Some (Call body)) w i e s p =
        then_stays (call_end (run_span go body s)) (go body.end e) (call_stays (run_span go body s) (h body.start body.end s p)) (h body.end e)
    act_stays go h (Some (Leave way)) w i e s p = p

    module _ (writing : (k : ℕ) → KeepsWriting (slice_get steps k)) where
      pub run_stays : (n i e : ℕ) → Keeps P (run from steps n i e)
      unfolding run
      run_stays zero i e s p = p
      run_stays (suc n) i e s p =
          either_stays (nat_lt i e) (λ s1. act from (run from steps n) (slice_get steps i) i e (ticked s1)) Next (λ s1 p1. act_stays (run from steps n) (λ x y. run_stays n x y) (slice_get steps i) (writing i) i e (ticked s1) (keeps.ticks s1 p1)) (λ s1 p1. p1) s p

      pub range_stays : (i e : ℕ) → Keeps P (range from steps i e)
      range_stays i e = run_stays (length steps) i e
