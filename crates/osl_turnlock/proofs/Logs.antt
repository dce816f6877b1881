-- The facts on lists and marks.
use Rattle.std.proofs.Common.{◌≡◌, ℕ, zero, suc, ◌^◌, ◌<◌, ◌≢◌, ◌⊎◌, ⊎_elim, List, [], ◌∷◌, length, set, sym, refl, ap, ◌∙◌, subst, arith, Option, Some, None}
use mathlib.Core.Option as maybe
use mathlib.Core.List.{IsPrefix}
use mathlib.Core.Logic.{dite}
use native.Mathlib.Decide.{ℕ_discrete}
use lib.ListN.{get_elem?}
use Rattle.atomic_table.proofs.Lists.{at_set, set_else}
use Rattle.osl_turnlock.specs.declared.board.Origin.{Origin}
use Rattle.osl_turnlock.specs.declared.board.Known.{Known}
use Rattle.osl_turnlock.specs.declared.board.Stage.TheVariants.{Inside, Leaving}
use Rattle.osl_turnlock.specs.Growth.{KeepsMark}
use Rattle.osl_turnlock.specs.Views.{carries, stage_of}
use Rattle.osl_turnlock.specs.Rule.{Homes, home, away, Listed}
use Rattle.osl_turnlock.proofs.Stages.{not_inside}
use Rattle.osl_turnlock.proofs.Prefixes.{prefix_self, prefix_trans}

pub set_at : {A : Type 0} (l : List A) (i : ℕ) (v w : A) → get_elem? l i ≡ maybe.some v → get_elem? (set l i w) i ≡ maybe.some w
set_at [] i v w e = absurd (maybe.some-ne-none v (sym e))
set_at (x ∷ xs) zero v w e = refl
set_at (x ∷ xs) (suc i) v w e = set_at xs i v w e

pub keeps_trans : {A : Type 0} (a b c : Option A) → KeepsMark a b → KeepsMark b c → KeepsMark a c
keeps_trans None b c p q = tt
keeps_trans {A = A} (Some x) b c p q = subst (λ (z : Option A). KeepsMark z c) p q

pub keeps_self : {A : Type 0} (a : Option A) → KeepsMark a a
keeps_self None = tt
keeps_self (Some x) = refl

-- the slot at home has one value
pub one_home : {T : Type 0} (x y : T) → home x ≡ home y → x ≡ y
one_home x y p = cc (p)

pub home_not_away : {T : Type 0} (x : T) → (away {T = T}) ≡ home x → ⊥
home_not_away x p = cc (p)

module _ {T E B : Type 0} (log_of : T → List E) (mark_of : T → Option ℕ) (base_of : T → B) (origin : Origin B) (log : List E) (mark : Option ℕ) (count : ℕ) (homes : Homes T) (views : List (Known E B)) (r : Listed log_of mark_of base_of origin log mark count homes views) (id : ℕ) (v w : Known E B) (at : get_elem? views id ≡ maybe.some v) (live : 0 < v.parts) (parts : w.parts ≡ v.parts) (opening : w.origin ≡ v.origin) where
  opens : (j : ℕ) (u : Known E B) → get_elem? (set views id w) j ≡ maybe.some u → 0 < u.parts → u.origin ≡ origin
  opens j u e some = ⊎_elim (λ t. ap (λ (z : Known E B). z.origin) (sym t.1) ∙ (opening ∙ r.opened id v at live)) (λ t. r.opened j u t.1 some) (at_set views id j w u e)

  -- a step that changes neither the log nor the mark
  pub keeps_log : IsPrefix w.list log → KeepsMark w.mark mark → KeepsMark origin.mark w.mark → (w.list ≡ v.list) ⊎ (w.list ≡ log) → (w.stage ≡ Inside → (w.list ≡ log) × (w.mark ≡ mark))
      → IsPrefix w.beside log × KeepsMark w.beside_mark mark → (homes' : Homes T) → ((x : T) → homes' ≡ home x → homes ≡ home x) → Listed log_of mark_of base_of origin log mark count homes' (set views id w)
  keeps_log begins keeps_mark keeps_first known holds by homes' same_home = record {
    counted = r.counted;
    short = r.short;
    opened = opens;
    seen = λ j u e some. ⊎_elim (λ t. subst (λ (z : Known E B). IsPrefix z.list log × KeepsMark z.mark mark) t.1 (begins, keeps_mark)) (λ t. r.seen j u t.1 some) (at_set views id j w u e);
    aside = λ j u e some. ⊎_elim (λ t. subst (λ (z : Known E B). IsPrefix z.beside log × KeepsMark z.beside_mark mark) t.1 by) (λ t. r.aside j u t.1 some) (at_set views id j w u e);
    newest = dite (ℕ_discrete r.newest.0 id)
        (λ mine.
        let is : v ≡ r.newest.1 = maybe.some-injective v r.newest.1 (sym at ∙ (ap (λ k. get_elem? views k) (sym mine) ∙ r.newest.2)) in
        let all : v.list ≡ log = ap (λ (z : Known E B). z.list) is ∙ r.newest.4 in
        (id, w, set_at views id v w at, omega arith, ⊎_elim (λ p. p ∙ all) (λ p. p) known))
        (λ other. (r.newest.0, r.newest.1, set_else views id r.newest.0 w other ∙ r.newest.2, r.newest.3, r.newest.4));
    marked = λ j u e some. ⊎_elim (λ t. subst (λ (z : Known E B). KeepsMark origin.mark z.mark) t.1 keeps_first) (λ t. r.marked j u t.1 some) (at_set views id j w u e);
    at_home = λ x e. r.at_home x (same_home x e);
    held = λ j u e inside. ⊎_elim (λ t. subst (λ (z : Known E B). z.stage ≡ Inside → (z.list ≡ log) × (z.mark ≡ mark)) t.1 holds inside) (λ t. r.held j u t.1 inside) (at_set views id j w u e);
  }

  -- the seat that has the slot gives it back with a log that goes on
  pub grows_log : (x : T) (count' : ℕ) → v.stage ≡ Inside → w.stage ≡ Leaving → w.list ≡ log_of x → w.mark ≡ mark_of x → w.beside ≡ v.beside → w.beside_mark ≡ v.beside_mark → IsPrefix v.list (log_of x) → KeepsMark v.mark (mark_of x) → Some (base_of x) ≡ v.origin.base
      → length (log_of x) < 2 ^ 64 → count' ≡ length (log_of x) → ((j : ℕ) (u : Known E B) → j ≢ id → get_elem? views j ≡ maybe.some u → u.stage ≡ Inside → ⊥)
      → Listed log_of mark_of base_of origin (log_of x) (mark_of x) count' (home x) (set views id w)
  grows_log x count' inside leaving list_is mark_is by by_mark longer keeps based short counts alone =
      let was = r.held id v at inside in
      let goes_on : IsPrefix log (log_of x) = subst (λ (l : List E). IsPrefix l (log_of x)) was.0 longer in
      let keeps' : KeepsMark mark (mark_of x) = subst (λ (m : Option ℕ). KeepsMark m (mark_of x)) was.1 keeps in record {
        counted = counts;
        short = short;
        opened = opens;
        seen = λ j u e some. ⊎_elim
            (λ t. subst (λ (z : Known E B). IsPrefix z.list (log_of x) × KeepsMark z.mark (mark_of x)) t.1
            (subst (λ (l : List E). IsPrefix l (log_of x)) (sym list_is) (prefix_self (log_of x)), subst (λ (m : Option ℕ). KeepsMark m (mark_of x)) (sym mark_is) (keeps_self (mark_of x))))
            (λ t. let s = r.seen j u t.1 some in (prefix_trans u.list log (log_of x) s.0 goes_on, keeps_trans u.mark mark (mark_of x) s.1 keeps')) (at_set views id j w u e);
        aside = λ j u e some. ⊎_elim
            (λ t. let s = r.aside id v at live in subst (λ (z : Known E B). IsPrefix z.beside (log_of x) × KeepsMark z.beside_mark (mark_of x)) t.1
            (subst (λ (l : List E). IsPrefix l (log_of x)) (sym by) (prefix_trans v.beside log (log_of x) s.0 goes_on), subst (λ (m : Option ℕ). KeepsMark m (mark_of x)) (sym by_mark) (keeps_trans v.beside_mark mark (mark_of x) s.1 keeps')))
            (λ t. let s = r.aside j u t.1 some in (prefix_trans u.beside log (log_of x) s.0 goes_on, keeps_trans u.beside_mark mark (mark_of x) s.1 keeps')) (at_set views id j w u e);
        newest = (id, w, set_at views id v w at, omega arith, list_is);
        marked = λ j u e some. ⊎_elim
            (λ t. subst (λ (z : Known E B). KeepsMark origin.mark z.mark) t.1
            (subst (λ (m : Option ℕ). KeepsMark origin.mark m) (sym mark_is) (keeps_trans origin.mark v.mark (mark_of x) (r.marked id v at live) keeps)))
            (λ t. r.marked j u t.1 some) (at_set views id j w u e);
        at_home = λ y e. let same : x ≡ y = one_home x y e in
            (ap log_of (sym same), ap mark_of (sym same), ap (λ z. Some (base_of z)) (sym same) ∙ (based ∙ ap (λ (o : Origin B). o.base) (r.opened id v at live)));
        held = λ j u e hers. ⊎_elim (λ t. absurd (not_inside w.stage (ap carries leaving) (ap stage_of t.1 ∙ hers))) (λ t. absurd (alone j u t.0 t.1 hers)) (at_set views id j w u e);
      }
