-- The loop of the source and the loop of the code: where tests, bodies and steps agree, the loops do.
use Rattle.std.proofs.Common.{◌≡◌, ℕ, zero, suc, List, Bool, true, false, refl, ap, ◌∙◌}
use Rattle.osl_value.specs.AnyValue.{AnyValue}
use Rattle.oso_code.specs.Run as R
use Rattle.oso_code.specs.Steps.{Break, Continue, Return, Exit}
use Rattle.osl_typed.specs.State.{State, with_turns}
use Rattle.osl_typed.specs.Ends.{StatementEnd, Doing, Next, Breaks, Continues, Returns, Exits, Spent, then_do, Tested, Holds, Fails, Ends, on_test, take_turn, after_body, turn, loop, looped}

-- I ties the states of the two runs, J those at a return, and p says which bounds are enough
module _ (I : State → R.State → Type 0) (J : List AnyValue → State → R.State → Type 0) (p : ℕ → Type 0) where
  abbrev pub Same : StatementEnd → (ℕ → R.Outcome) → Type 0
  Same (Next s) o = (b : R.State) × ((g : ℕ) → p g → o g ≡ R.Next b) × I s b
  Same (Breaks s) o = (b : R.State) × ((g : ℕ) → p g → o g ≡ R.Jumps Break b) × I s b
  Same (Continues s) o = (b : R.State) × ((g : ℕ) → p g → o g ≡ R.Jumps Continue b) × I s b
  Same (Returns v s) o = (b : R.State) × ((g : ℕ) → p g → o g ≡ R.Jumps Return b) × J v s b
  Same (Exits s) o = (b : R.State) × ((g : ℕ) → p g → o g ≡ R.Jumps Exit b) × I s b
  Same (Spent s) o = (b : R.State) × ((g : ℕ) → p g → o g ≡ R.Spent b) × (b.reads ≡ s.reads)

  abbrev pub SameTest : Tested → (ℕ → R.Tested) → Type 0
  SameTest (Holds s) t = (b : R.State) × ((g : ℕ) → p g → t g ≡ R.Holds b) × I s b
  SameTest (Fails s) t = (b : R.State) × ((g : ℕ) → p g → t g ≡ R.Fails b) × I s b
  SameTest (Ends o) t = (c : ℕ → R.Outcome) × ((g : ℕ) → p g → t g ≡ R.Ends (c g)) × Same o c

  -- two ways to go on from states that are tied
  abbrev pub SameGo : Doing → (ℕ → R.State → R.Outcome) → Type 0
  SameGo go goc = (s : State) (b : R.State) → I s b → Same (go s) (λ g. goc g b)

  pub same_by : (o : StatementEnd) (c d : ℕ → R.Outcome) → ((g : ℕ) → p g → d g ≡ c g) → Same o c → Same o d
  same_by (Next s) c d e (b, h, i) = (b, λ g l. e g l ∙ h g l, i)
  same_by (Breaks s) c d e (b, h, i) = (b, λ g l. e g l ∙ h g l, i)
  same_by (Continues s) c d e (b, h, i) = (b, λ g l. e g l ∙ h g l, i)
  same_by (Returns v s) c d e (b, h, i) = (b, λ g l. e g l ∙ h g l, i)
  same_by (Exits s) c d e (b, h, i) = (b, λ g l. e g l ∙ h g l, i)
  same_by (Spent s) c d e (b, h, i) = (b, λ g l. e g l ∙ h g l, i)

  on_test_same : (t : Tested) (tc : ℕ → R.Tested) (go : Doing) (goc : ℕ → R.State → R.Outcome) → SameTest t tc → SameGo go goc → Same (on_test t go) (λ g. R.on_test (tc g) (goc g))
  on_test_same (Holds s) tc go goc (b, h, i) next =
      same_by (go s) (λ g. goc g b) (λ g. R.on_test (tc g) (goc g)) (λ g l. ap (λ x. R.on_test x (goc g)) (h g l)) (next s b i)
  on_test_same (Fails s) tc go goc (b, h, i) next = (b, λ g l. ap (λ x. R.on_test x (goc g)) (h g l), i)
  on_test_same (Ends o) tc go goc (c, h, same) next =
      same_by o c (λ g. R.on_test (tc g) (goc g)) (λ g l. ap (λ x. R.on_test x (goc g)) (h g l)) same

  pub then_same : (o : StatementEnd) (oc : ℕ → R.Outcome) (go : Doing) (goc : ℕ → R.State → R.Outcome) → Same o oc → SameGo go goc → Same (then_do o go) (λ g. R.then_do (oc g) (goc g))
  then_same (Next s) oc go goc (b, h, i) next =
      same_by (go s) (λ g. goc g b) (λ g. R.then_do (oc g) (goc g)) (λ g l. ap (λ x. R.then_do x (goc g)) (h g l)) (next s b i)
  then_same (Breaks s) oc go goc (b, h, i) next = (b, λ g l. ap (λ x. R.then_do x (goc g)) (h g l), i)
  then_same (Continues s) oc go goc (b, h, i) next = (b, λ g l. ap (λ x. R.then_do x (goc g)) (h g l), i)
  then_same (Returns v s) oc go goc (b, h, i) next = (b, λ g l. ap (λ x. R.then_do x (goc g)) (h g l), i)
  then_same (Exits s) oc go goc (b, h, i) next = (b, λ g l. ap (λ x. R.then_do x (goc g)) (h g l), i)
  then_same (Spent s) oc go goc (b, h, i) next = (b, λ g l. ap (λ x. R.then_do x (goc g)) (h g l), i)

  after_same : (o : StatementEnd) (oc : ℕ → R.Outcome) (go : Doing) (goc : ℕ → R.State → R.Outcome) → Same o oc → SameGo go goc → Same (after_body o go) (λ g. R.after_body (oc g) (goc g))
  after_same (Next s) oc go goc (b, h, i) next =
      same_by (go s) (λ g. goc g b) (λ g. R.after_body (oc g) (goc g)) (λ g l. ap (λ x. R.after_body x (goc g)) (h g l)) (next s b i)
  after_same (Continues s) oc go goc (b, h, i) next =
      same_by (go s) (λ g. goc g b) (λ g. R.after_body (oc g) (goc g)) (λ g l. ap (λ x. R.after_body x (goc g)) (h g l)) (next s b i)
  after_same (Breaks s) oc go goc (b, h, i) next = (b, λ g l. ap (λ x. R.after_body x (goc g)) (h g l), i)
  after_same (Returns v s) oc go goc (b, h, i) next = (b, λ g l. ap (λ x. R.after_body x (goc g)) (h g l), i)
  after_same (Exits s) oc go goc (b, h, i) next = (b, λ g l. ap (λ x. R.after_body x (goc g)) (h g l), i)
  after_same (Spent s) oc go goc (b, h, i) next = (b, λ g l. ap (λ x. R.after_body x (goc g)) (h g l), i)

  module _ (turns : (s : State) (b : R.State) → I s b → b.turns ≡ s.turns) (reads : (s : State) (b : R.State) → I s b → b.reads ≡ s.reads) (set : (t : ℕ) (s : State) (b : R.State) → I s b → I (with_turns t s) (R.with_turns t b)) where
    take_same : (t : ℕ) (s : State) (b : R.State) (go : Doing) (goc : ℕ → R.State → R.Outcome) → I s b → SameGo go goc → Same (take_turn t s go) (λ g. R.take_turn t b (goc g))
    take_same zero s b go goc i next = (b, λ g l. refl, reads s b i)
    take_same (suc t) s b go goc i next = next (with_turns t s) (R.with_turns t b) (set t s b i)

    turn_same : (body step rest : Doing) (bodyc stepc restc : ℕ → R.State → R.Outcome) → SameGo body bodyc → SameGo step stepc → SameGo rest restc → SameGo (turn body step rest) (λ g. R.turn (bodyc g) (stepc g) (restc g))
    turn_same body step rest bodyc stepc restc hb hs hr s b i =
        let goc : ℕ → R.State → R.Outcome = λ g s1. R.after_body (bodyc g s1) (λ s2. R.then_do (stepc g s2) (restc g)) in
        same_by (turn body step rest s) (λ g. R.take_turn s.turns b (goc g)) (λ g. R.take_turn b.turns b (goc g)) (λ g l. ap (λ z. R.take_turn z b (goc g)) (turns s b i)) (
        take_same s.turns s b (λ s1. after_body (body s1) (λ s2. then_do (step s2) rest)) goc i (λ u w k.
        after_same (body u) (λ g. bodyc g w) (λ s2. then_do (step s2) rest) (λ g s2. R.then_do (stepc g s2) (restc g)) (hb u w k) (λ u2 w2 k2.
        then_same (step u2) (λ g. stepc g w2) rest restc (hs u2 w2 k2) hr)))

    module _ (test : State → Tested) (testc : ℕ → R.State → R.Tested) (body step : Doing) (bodyc stepc : ℕ → R.State → R.Outcome) (ht : (s : State) (b : R.State) → I s b → SameTest (test s) (λ g. testc g b)) (hb : SameGo body bodyc) (hs : SameGo step stepc) where
      pub loop_same : (n : ℕ) → SameGo (loop n test body step) (λ g. R.loop n (testc g) (bodyc g) (stepc g))
      unfolding loop R.loop
      loop_same zero s b i = on_test_same (test s) (λ g. testc g b) Spent (λ g s1. R.Spent s1) (ht s b i) (λ x y j. (y, λ g l. refl, reads x y j))
      loop_same (suc n) s b i =
          on_test_same (test s) (λ g. testc g b) (turn body step (loop n test body step)) (λ g. R.turn (bodyc g) (stepc g) (R.loop n (testc g) (bodyc g) (stepc g))) (ht s b i) (turn_same body step (loop n test body step) bodyc stepc (λ g. R.loop n (testc g) (bodyc g) (stepc g)) hb hs (loop_same n))

      -- by the turns that are left
      from_turns : SameGo (λ s. loop s.turns test body step s) (λ g b. R.loop b.turns (testc g) (bodyc g) (stepc g) b)
      from_turns s b i =
          same_by (loop s.turns test body step s) (λ g. R.loop s.turns (testc g) (bodyc g) (stepc g) b) (λ g. R.loop b.turns (testc g) (bodyc g) (stepc g) b) (λ g l. ap (λ z. R.loop z (testc g) (bodyc g) (stepc g) b) (turns s b i)) (loop_same s.turns s b i)

      pub looped_same : (first : Bool) → SameGo (looped first test body step) (λ g. R.looped first (testc g) (bodyc g) (stepc g))
      looped_same true s b i = from_turns s b i
      looped_same false s b i = turn_same body step (λ s1. loop s1.turns test body step s1) bodyc stepc (λ g b1. R.loop b1.turns (testc g) (bodyc g) (stepc g) b1) hb hs from_turns s b i
