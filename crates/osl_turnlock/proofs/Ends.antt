-- The rule holds at the start, and tells the value at the end.
use Rattle.std.proofs.Common.{◌≡◌, ℕ, zero, suc, ◌+◌, ◌^◌, ◌<◌, ◌≤◌, inr, ⊎_elim, true, false, List, [], ◌∷◌, length, Option, Some, None, sym, refl, ap, ◌∙◌, subst, arith, sum_by, is_some}
use mathlib.Core.Option as maybe
use mathlib.Core.List.{IsPrefix}
use mathlib.Core.Logic.{dite}
use native.Mathlib.Decide.{ℕ_discrete}
use lib.ListN.{get_elem?}
use Rattle.atomic_table.specs.Table.{State, opening, Final, Seen}
use Rattle.osl_turnlock.specs.declared.board.Origin.{Origin}
use Rattle.osl_turnlock.specs.declared.board.Known.{Known}
use Rattle.osl_turnlock.specs.declared.board.Opening.{Opening}
use Rattle.osl_turnlock.specs.declared.board.Stage.TheVariants.{Idle, Inside}
use Rattle.osl_turnlock.specs.Growth.{came, KeepsMark}
use Rattle.osl_turnlock.specs.Views.{carries, has, carries_of, weight}
use Rattle.osl_turnlock.specs.Rule.{Homes, Served, home, Kept, origin_of, first_known}
use Rattle.osl_turnlock.proofs.Totals.{sum_none}
use Rattle.osl_turnlock.proofs.Prefixes.{prefix_self}
use Rattle.osl_turnlock.proofs.Numbers.{has_none}
use Rattle.osl_turnlock.proofs.Logs.{keeps_self, one_home}
use Rattle.osl_turnlock.proofs.Whole.{others, whole_list, whole_mark, is_whole}

-- what holds of the one view holds of each
single : {A : Type 0} (P : A → Type 0) (a : A) → P a → (id : ℕ) (v : A) → get_elem? (a ∷ []) id ≡ maybe.some v → P v
single P a p zero v e = subst P (maybe.some-injective a v e) p
single P a p (suc id) v e = absurd (maybe.some-ne-none v (sym e))

came_none : (m : Option ℕ) → weight (came m m) ≡ 0
came_none None = refl
came_none (Some x) = refl

no_set : false ≡ true → ⊥
no_set e = cc (e)

module _ {T E B : Type 0} (log_of : T → List E) (mark_of : T → Option ℕ) (base_of : T → B) (key : Opening T) where
  pub opens : (count : ℕ) → 0 < key.seats → key.seats ≤ 1024 → key.start ≡ length (log_of key.value.value) → key.mark ≡ mark_of key.value.value → count ≡ length (log_of key.value.value) → length (log_of key.value.value) < 2 ^ 64
      → Kept log_of mark_of base_of key (opening (0 ∷ 0 ∷ count ∷ []) (Some key.value.value ∷ []) (first_known log_of mark_of base_of key))
  opens count some few start mark counts short =
      let x : T = key.value.value in
      let v : Known E B = first_known log_of mark_of base_of key in
      let empty : (n : ℕ) → sum_by (has n) (v ∷ []) ≡ 0 = λ n. let h = has_none n v refl in omega arith in record {
        turn = 0;
        waits = 0;
        count = count;
        log = log_of x;
        mark = mark_of x;
        words = refl;
        numbers = record {
          below = λ n lt. empty n;
          within = λ n le lt. absurd (omega arith);
          above = λ n le. empty n;
          waiting = refl;
          shared = omega arith;
          few = few;
          served = single (λ u. Served 0 u.number u.stage) v tt;
          resting = single (λ u. u.parts ≡ 0 → u.stage ≡ Idle) v (λ _. refl);
          slot = inr (x, refl, refl);
        };
        lists = record {
          counted = counts;
          short = short;
          opened = single (λ u. 0 < u.parts → u.origin ≡ origin_of log_of mark_of base_of key) v (λ _. refl);
          seen = single (λ u. 0 < u.parts → IsPrefix u.list (log_of x) × KeepsMark u.mark (mark_of x)) v (λ _. (prefix_self (log_of x), keeps_self (mark_of x)));
          aside = single (λ u. 0 < u.parts → IsPrefix u.beside (log_of x) × KeepsMark u.beside_mark (mark_of x)) v (λ _. ((log_of x, refl), tt));
          newest = (0, v, refl, some, refl);
          marked = single (λ u. 0 < u.parts → KeepsMark key.mark u.mark) v (λ _. subst (λ (m : Option ℕ). KeepsMark m (mark_of x)) (sym mark) (keeps_self (mark_of x)));
          at_home = λ y e. let same : x ≡ y = one_home x y e in (ap log_of (sym same), ap mark_of (sym same), ap (λ z. Some (base_of z)) (sym same));
          held = single (λ u. u.stage ≡ Inside → (u.list ≡ log_of x) × (u.mark ≡ mark_of x)) v (λ e. (refl, refl));
        };
        sums = record {
          added = let s = start in omega arith;
          sets = sym (ap (λ (m : Option ℕ). weight (came m (mark_of x))) mark ∙ came_none (mark_of x));
          setter = single (λ u. u.set ≡ true → is_some u.mark ≡ true) v (λ e. absurd (no_set e));
          nothing = single (λ u. u.parts ≡ 0 → (u.own ≡ 0) × (u.set ≡ false)) v (λ e. (refl, refl));
        };
      }

  pub closes : (id : ℕ) (v : Known E B) (words : List ℕ) (slots : List (Option T)) → Final (Seen (Kept log_of mark_of base_of key) id v) words slots → v.stage ≡ Idle → 0 < v.parts → v.parts ≡ v.origin.seats
      → (x : T) × (get_elem? slots 0 ≡ maybe.some (Some x)) × (log_of x ≡ v.list) × (mark_of x ≡ v.mark) × (Some (base_of x) ≡ v.origin.base) × (length v.list ≡ v.origin.start + v.own)
  closes id v words slots final idle live whole =
      let s : State (Option T) (Known E B) = final.0 in
      let k = final.1.0 in
      let at = final.1.1 in
      let only = others log_of mark_of base_of key s k id v at live whole in
      let none : sum_by carries_of s.views ≡ 0 = sum_none carries_of s.views
      (λ j u e. dite (ℕ_discrete j id) (λ mine. ap (λ (z : Known E B). carries z.stage) (maybe.some-injective u v (sym e ∙ (ap (λ i. get_elem? s.views i) mine ∙ at))) ∙ ap carries idle)
      (λ other. ap carries (k.numbers.resting j u e (only j u other e)))) in
      let there : (x : T) × (s.homes ≡ home x) × (sum_by carries_of s.views ≡ 0) = ⊎_elim (λ out. let one : sum_by carries_of s.views ≡ 1 = out.1 in absurd (omega arith)) (λ i. i) k.numbers.slot in
      let x : T = there.0 in
      let value = k.lists.at_home x there.1 in
      let is = is_whole log_of mark_of base_of key s k id v at live whole in (
        x,
        final.4 0 (Some x) (ap (λ (h : Homes T). get_elem? h 0) there.1),
        value.0 ∙ sym (whole_list log_of mark_of base_of key s k id v at live whole),
        value.1 ∙ whole_mark log_of mark_of base_of key s k id v at live whole,
        value.2 ∙ ap (λ (o : Origin B). o.base) (sym (k.lists.opened id v at live)),
        is.0,
      )
