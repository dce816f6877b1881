-- No run gains turns, so the bound of a loop does not matter, once it is enough: what a loop's first turn does.
use Rattle.std.proofs.Common.{◌≡◌, ℕ, zero, suc, ◌<◌, ◌≤◌, List, true, refl, sym, ◌∙◌, arith}
use Rattle.oso_code.specs.Lasting.{Keeps, KeepsTest, last_tested}
use Rattle.oso_code.specs.Run.{State, with_turns, Sources, Outcome, Next, Jumps, Spent, last, then_do, Tested, Holds, Fails, Ends, on_test, test_after, take_turn, after_body, turn, loop, looped, run}
use Rattle.oso_code.specs.Steps.{Break, Continue, Return, Exit, Step}
use Rattle.oso_code.proofs.Lasting.{test_lasts, run_lasts, turns_last}

-- a way to go on, and a test, that gain no turns
abbrev pub Gainless : (State → Outcome) → Type 0
Gainless go = (n : ℕ) → Keeps (λ s. s.turns ≤ n) go

abbrev pub GainlessTest : (State → Tested) → Type 0
GainlessTest test = (n : ℕ) → KeepsTest (λ s. s.turns ≤ n) test

pub test_gainless : (from : Sources) (c : ℕ) (go : State → Outcome) → Gainless go → GainlessTest (λ s. test_after from c (go s))
test_gainless from c go h n s le = test_lasts (λ s. s.turns ≤ n) (turns_last n) from c (go s) (h n s le)

pub run_gainless : (from : Sources) (steps : List Step) (f i e : ℕ) → Gainless (run from steps f i e)
run_gainless from steps f i e n s le = run_lasts (λ s. s.turns ≤ n) (turns_last n) from steps f i e s le

-- two ways to go on that agree on states with at most n turns
abbrev SameWithin : ℕ → (State → Outcome) → (State → Outcome) → Type 0
SameWithin n go go' = (s : State) → s.turns ≤ n → go s ≡ go' s

on_same : (n : ℕ) (t : Tested) (go go' : State → Outcome) → (last_tested t).turns ≤ n → SameWithin n go go' → on_test t go ≡ on_test t go'
on_same n (Holds s) go go' le h = h s le
on_same n (Fails s) go go' le h = refl
on_same n (Ends o) go go' le h = refl

then_same : (n : ℕ) (o : Outcome) (go go' : State → Outcome) → (last o).turns ≤ n → SameWithin n go go' → then_do o go ≡ then_do o go'
then_same n (Next s) go go' le h = h s le
then_same n (Jumps way s) go go' le h = refl
then_same n (Spent s) go go' le h = refl

after_same : (n : ℕ) (o : Outcome) (go go' : State → Outcome) → (last o).turns ≤ n → SameWithin n go go' → after_body o go ≡ after_body o go'
after_same n (Next s) go go' le h = h s le
after_same n (Jumps Break s) go go' le h = refl
after_same n (Jumps Continue s) go go' le h = h s le
after_same n (Jumps Return s) go go' le h = refl
after_same n (Jumps Exit s) go go' le h = refl
after_same n (Spent s) go go' le h = refl

-- with no turn left there is none
turn_none : (t : ℕ) (s : State) (go : State → Outcome) → t ≤ 0 → take_turn t s go ≡ Spent s
turn_none zero s go le = refl
turn_none (suc t) s go le = absurd (omega arith)

module _ (test : State → Tested) (body step : State → Outcome) (ht : GainlessTest test) (hb : Gainless body) (hs : Gainless step) where
  take_same : (t : ℕ) (s : State) (rest rest' : State → Outcome) → ((u : State) → u.turns < t → rest u ≡ rest' u) → take_turn t s (λ s1. after_body (body s1) (λ s2. then_do (step s2) rest)) ≡ take_turn t s (λ s1. after_body (body s1) (λ s2. then_do (step s2) rest'))
  take_same zero s rest rest' h = refl
  take_same (suc t) s rest rest' h =
      after_same t (body (with_turns t s)) (λ s2. then_do (step s2) rest) (λ s2. then_do (step s2) rest') (hb t (with_turns t s) (omega arith)) (λ u le. then_same t (step u) rest rest' (hs t u le) (λ w lw. h w (omega arith)))

  -- a turn asks of what follows it only what that does with fewer turns
  pub turn_same : (s : State) (rest rest' : State → Outcome) → ((u : State) → u.turns < s.turns → rest u ≡ rest' u) → turn body step rest s ≡ turn body step rest' s
  turn_same s rest rest' h = take_same s.turns s rest rest' h

  pub loop_steady : (m n : ℕ) (s : State) → s.turns ≤ m → s.turns ≤ n → loop m test body step s ≡ loop n test body step s
  unfolding loop
  loop_steady zero zero s lm ln = refl
  loop_steady zero (suc n) s lm ln =
      on_same 0 (test s) (λ s1. Spent s1) (turn body step (loop n test body step)) (ht 0 s lm) (λ s1 l. sym (turn_none s1.turns s1 (λ s2. after_body (body s2) (λ s3. then_do (step s3) (loop n test body step))) l))
  loop_steady (suc m) zero s lm ln =
      on_same 0 (test s) (turn body step (loop m test body step)) (λ s1. Spent s1) (ht 0 s ln) (λ s1 l. turn_none s1.turns s1 (λ s2. after_body (body s2) (λ s3. then_do (step s3) (loop m test body step))) l)
  loop_steady (suc m) (suc n) s lm ln =
      on_same s.turns (test s) (turn body step (loop m test body step)) (turn body step (loop n test body step)) (ht s.turns s (omega arith)) (λ s1 l. turn_same s1 (loop m test body step) (loop n test body step) (λ u lu. loop_steady m n u (omega arith) (omega arith)))

  loop_opened : (n : ℕ) (s : State) → loop (suc n) test body step s ≡ on_test (test s) (turn body step (loop n test body step))
  unfolding loop
  loop_opened n s = refl

  -- a loop, by its first turn
  pub loop_first : (s : State) → looped true test body step s ≡ on_test (test s) (turn body step (looped true test body step))
  loop_first s =
      loop_steady s.turns (suc s.turns) s (omega arith) (omega arith)
      ∙ loop_opened s.turns s
      ∙ on_same s.turns (test s) (turn body step (loop s.turns test body step)) (turn body step (looped true test body step)) (ht s.turns s (omega arith)) (λ s1 l. turn_same s1 (loop s.turns test body step) (looped true test body step) (λ u lu. loop_steady s.turns u.turns u (omega arith) (omega arith)))
