-- The sums of what the seats added, and who set the mark.
use Rattle.std.proofs.Common.{◌≡◌, ℕ, ◌+◌, ◌<◌, ◌≤◌, ◌≢◌, ◌⊎◌, inl, inr, ⊎_elim, Bool, true, false, ◌||◌, List, length, set, sym, refl, ap, ◌∙◌, subst, arith, Option, Some, None, sum_by, is_some}
use mathlib.Core.Option as maybe
use lib.ListN.{get_elem?}
use Rattle.atomic_table.proofs.Lists.{at_set}
use Rattle.osl_turnlock.specs.declared.board.Origin.{Origin}
use Rattle.osl_turnlock.specs.declared.board.Known.{Known}
use Rattle.osl_turnlock.specs.Growth.{came, KeepsMark}
use Rattle.osl_turnlock.specs.Views.{weight, own_of, set_of, parts_of}
use Rattle.osl_turnlock.specs.Rule.{Summed}
use Rattle.osl_turnlock.proofs.Totals.{sum_set, sum_at, sum_only}

pub weight_most : (b : Bool) → weight b ≤ 1
weight_most true = omega arith
weight_most false = omega arith

came_step : (first m m' : Option ℕ) → KeepsMark first m → KeepsMark m m' → weight (came first m') ≡ weight (came first m) + weight (came m m')
came_step None None None p q = refl
came_step None None (Some y) p q = refl
came_step None (Some x) m' p q = ap (λ (z : Option ℕ). weight (came None z)) q
came_step (Some k) None m' p q = absurd (cc (p))
came_step (Some k) (Some x) m' p q = refl

pub or_step : (a b : Bool) → weight a + weight b ≤ 1 → weight (a || b) ≡ weight a + weight b
or_step true true h = absurd (omega arith)
or_step true false h = refl
or_step false true h = refl
or_step false false h = refl

pub some_kept : {A : Type 0} (m m' : Option A) → KeepsMark m m' → is_some m ≡ true → is_some m' ≡ true
some_kept None m' p q = absurd (cc (q))
some_kept (Some x) m' p q = ap is_some p

some_came : {A : Type 0} (m m' : Option A) → came m m' ≡ true → is_some m' ≡ true
some_came None (Some y) p = refl
some_came None None p = absurd (cc (p))
some_came (Some x) m' p = absurd (cc (p))

marks : (first m all : Option ℕ) (b : Bool) → KeepsMark first m → KeepsMark m all → weight b ≡ weight (came first all) → (b ≡ true → is_some m ≡ true) → all ≡ m
marks first (Some x) all b p q s on = q
marks first None None b p q s on = refl
marks (Some k) None (Some y) b p q s on = absurd (cc (p))
marks None None (Some y) true p q s on = absurd (cc (on refl))
marks None None (Some y) false p q s on = absurd (omega arith)

unset : (first m all : Option ℕ) → KeepsMark m all → 0 ≡ weight (came first all) → first ≡ None → m ≡ None
unset first None all q s e = refl
unset (Some k) (Some x) all q s e = absurd (cc (e))
unset None (Some x) all q s e = let none : Option ℕ = None in let p : weight (came none all) ≡ 1 = ap (λ (z : Option ℕ). weight (came none z)) q in absurd (omega arith)

pub either_true : (a b : Bool) → (a || b) ≡ true → (a ≡ true) ⊎ (b ≡ true)
either_true true b p = inl refl
either_true false b p = inr p

module _ {E B : Type 0} (origin : Origin B) (log : List E) (mark : Option ℕ) (views : List (Known E B)) (r : Summed origin log mark views) (id : ℕ) (v w : Known E B) (at : get_elem? views id ≡ maybe.some v) (live : 0 < v.parts) (parts : w.parts ≡ v.parts) where
  nones : (j : ℕ) (u : Known E B) → get_elem? (set views id w) j ≡ maybe.some u → u.parts ≡ 0 → (u.own ≡ 0) × (u.set ≡ false)
  nones j u e none = ⊎_elim (λ t. let p : w.parts ≡ u.parts = ap parts_of t.1 in absurd (omega arith)) (λ t. r.nothing j u t.1 none) (at_set views id j w u e)

  -- a step that adds nothing
  pub keeps_sums : w.own ≡ v.own → w.set ≡ v.set → (w.set ≡ true → is_some w.mark ≡ true) → Summed origin log mark (set views id w)
  keeps_sums own_same set_same marks = record {
    added = let s : sum_by own_of (set views id w) + v.own ≡ sum_by own_of views + w.own = sum_set own_of views id v w at in let a = r.added in omega arith;
    sets = let s : sum_by set_of (set views id w) + weight v.set ≡ sum_by set_of views + weight w.set = sum_set set_of views id v w at in let e : weight w.set ≡ weight v.set = ap weight set_same in let a = r.sets in omega arith;
    setter = λ j u e is. ⊎_elim (λ t. subst (λ (z : Known E B). z.set ≡ true → is_some z.mark ≡ true) t.1 marks is) (λ t. r.setter j u t.1 is) (at_set views id j w u e);
    nothing = nones;
  }

  -- the seat adds to the log, and may set the mark
  pub grows_sums : (log' : List E) (mark' : Option ℕ) (k : ℕ) → length log' ≡ length log + k → w.own ≡ v.own + k → w.set ≡ (v.set || came mark mark') → w.mark ≡ mark' → KeepsMark origin.mark mark → KeepsMark mark mark' → v.mark ≡ mark
      → Summed origin log' mark' (set views id w)
  grows_sums log' mark' k longer own_is set_is mark_is first keeps was =
      let step : weight (came origin.mark mark') ≡ weight (came origin.mark mark) + weight (came mark mark') = came_step origin.mark mark mark' first keeps in
      let most : weight (came origin.mark mark') ≤ 1 = weight_most (came origin.mark mark') in
      let mine : weight v.set ≤ sum_by set_of views = sum_at set_of views id v at in
      let all = r.sets in
      let or : weight (v.set || came mark mark') ≡ weight v.set + weight (came mark mark') = or_step v.set (came mark mark') (omega arith) in
      let now : weight w.set ≡ weight v.set + weight (came mark mark') = ap weight set_is ∙ or in record {
        added = let s : sum_by own_of (set views id w) + v.own ≡ sum_by own_of views + w.own = sum_set own_of views id v w at in let a = r.added in omega arith;
        sets = let s : sum_by set_of (set views id w) + weight v.set ≡ sum_by set_of views + weight w.set = sum_set set_of views id v w at in omega arith;
        setter = λ j u e is. ⊎_elim
            (λ t. subst (λ (z : Known E B). z.set ≡ true → is_some z.mark ≡ true) t.1
            (λ on. subst (λ (m : Option ℕ). is_some m ≡ true) (sym mark_is)
            (⊎_elim (λ a. some_kept mark mark' keeps (subst (λ (m : Option ℕ). is_some m ≡ true) was (r.setter id v at a))) (λ b. some_came mark mark' b) (either_true v.set (came mark mark') (sym set_is ∙ on)))) is)
            (λ t. r.setter j u t.1 is) (at_set views id j w u e);
        nothing = nones;
      }

module _ {E B : Type 0} (origin : Origin B) (log : List E) (mark : Option ℕ) (views : List (Known E B)) (r : Summed origin log mark views) (id : ℕ) (v : Known E B) (at : get_elem? views id ≡ maybe.some v) (only : (j : ℕ) (u : Known E B) → j ≢ id → get_elem? views j ≡ maybe.some u → u.parts ≡ 0) where
  -- a seat that is alone has added all
  pub alone_own : v.own + origin.start ≡ length log
  alone_own = let s : sum_by own_of views ≡ v.own = sum_only own_of views id v at (λ j u n e. (r.nothing j u e (only j u n e)).0) in let a = r.added in omega arith

  alone_set : weight v.set ≡ weight (came origin.mark mark)
  alone_set = sym (sum_only set_of views id v at (λ j u n e. ap weight (r.nothing j u e (only j u n e)).1)) ∙ r.sets

  -- and a mark that it lacks there is not
  pub alone_mark : KeepsMark origin.mark v.mark → KeepsMark v.mark mark → mark ≡ v.mark
  alone_mark first keeps = marks origin.mark v.mark mark v.set first keeps alone_set (r.setter id v at)

  -- and where it did not set the mark there is none but that of the start
  pub alone_unset : KeepsMark v.mark mark → v.set ≡ false → origin.mark ≡ None → v.mark ≡ None
  alone_unset keeps off none = unset origin.mark v.mark mark keeps (ap weight (sym off) ∙ alone_set) none
