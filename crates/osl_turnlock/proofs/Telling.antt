-- The steps that tell keep the rule: a count, a look, a split and a join.
use Rattle.std.proofs.Common.{◌≡◌, ℕ, ◌+◌, ◌-◌, ◌<◌, ◌≤◌, ◌⊎◌, inl, inr, ⊎_elim, ◌||◌, List, [], ◌∷◌, ◌++◌, set, slice_index, slice_set, Option, sym, refl, ap, ◌∙◌, subst, arith, sum_by}
use mathlib.Core.Option as maybe
use mathlib.Core.Logic.{dite}
use native.Mathlib.Decide.{ℕ_discrete}
use lib.ListN.{get_elem?}
use Rattle.atomic_table.specs.Table.{State, step, Allows, Splits, Joins, keeps}
use Rattle.atomic_table.proofs.Lists.{at_set, at_snoc, at_longer, set_else}
use Rattle.osl_turnlock.specs.declared.board.Origin.{Origin}
use Rattle.osl_turnlock.specs.declared.board.Known.{Known}
use Rattle.osl_turnlock.specs.declared.board.Opening.{Opening}
use Rattle.osl_turnlock.specs.declared.board.Stage.TheVariants.{Idle}
use Rattle.osl_turnlock.specs.Growth.{came}
use Rattle.osl_turnlock.specs.Views.{busy, carries, has, weight, busy_of, carries_of, parts_of, own_of, set_of, told, giver, taker, both, spent}
use Rattle.osl_turnlock.specs.Rule.{Lies, Kept, origin_of}
use Rattle.osl_turnlock.specs.Steps.{Sat, counted, learned}
use Rattle.std.proofs.lemmas.List.Sums.{sum_by_push}
use Rattle.osl_turnlock.proofs.Totals.{sum_set, sum_at, sum_two}
use Rattle.osl_turnlock.proofs.Prefixes.{prefix_self}
use Rattle.osl_turnlock.proofs.Stages.{not_inside}
use Rattle.osl_turnlock.proofs.Numbers.{has_none, keeps_number}
use Rattle.osl_turnlock.proofs.Logs.{keeps_log, set_at}
use Rattle.osl_turnlock.proofs.Sums.{keeps_sums, or_step, either_true, weight_most}
use Rattle.osl_turnlock.proofs.Whole.{is_whole}
use Rattle.osl_turnlock.proofs.Moves.{unchanged}
use Rattle.osl_turnlock.proofs.Retold.{longer_begins, longer_whole, or_keeps, first_keeps, or_some, retold_numbers, retold_lists, retold_sums, Tells, tells, Owns, owns}

module _ {T E B : Type 0} (log_of : T → List E) (mark_of : T → Option ℕ) (base_of : T → B) (key : Opening T) (slots id : ℕ) (me : Sat T E B) where
  abbrev Rule : State (Option T) (Known E B) → Type 0
  Rule = Kept log_of mark_of base_of key

  abbrev first : Origin B
  first = origin_of log_of mark_of base_of key

  pub counts : me.0.stage ≡ Idle → 0 < me.0.parts → Allows Rule slots id me 2 (λ n. n) (counted (step slots 2 0 0 maybe.none) me)
  counts idle live s k len at small =
      let w : Known E B = told k.log me.0 in
      let seen = k.lists.seen id me.0 at live in (
        w,
        keeps,
        tt,
        record {
          turn = k.turn;
          waits = k.waits;
          count = k.count;
          log = k.log;
          mark = k.mark;
          words = ap (λ ws. slice_set ws 2 (slice_index ws 2)) k.words;
          numbers = keeps_number key.seats k.turn k.waits s.homes s.views k.numbers id me.0 w at live refl refl refl (k.numbers.served id me.0 at) s.homes
              (subst (λ (n : ℕ). Lies s.homes n) (let t : sum_by carries_of (set s.views id w) + carries me.0.stage ≡ sum_by carries_of s.views + carries me.0.stage = sum_set carries_of s.views id me.0 w at in omega arith) k.numbers.slot);
          lists = keeps_log log_of mark_of base_of first k.log k.mark k.count s.homes s.views k.lists id me.0 w at live refl refl (prefix_self k.log) seen.1 (k.lists.marked id me.0 at live) (inr refl)
              (λ inside. absurd (not_inside me.0.stage (ap carries idle) inside)) (k.lists.aside id me.0 at live) s.homes (λ x e. e);
          sums = keeps_sums first k.log k.mark s.views k.sums id me.0 w at live refl refl refl (k.sums.setter id me.0 at);
        },
        (k.log, seen.0, sym k.lists.counted ∙ sym (ap (λ ws. slice_index ws 2) k.words), refl),
      )

  pub learns : 0 < me.0.parts → Allows Rule slots id me 2 (λ n. n) (learned (step slots 2 0 0 maybe.none) me)
  learns live s k len at small =
      let seen = k.lists.seen id me.0 at live in
      let aside = k.lists.aside id me.0 at live in
      let mine = sum_at parts_of s.views id me.0 at in
      let shared = k.numbers.shared in
      let few = k.numbers.few in (
        me.0,
        keeps,
        tt,
        unchanged log_of mark_of base_of key slots id me s k at live _ (ap (λ ws. slice_set ws 2 (slice_index ws 2)) k.words),
        (
          refl,
          record {
            few = omega arith;
            lists = (k.log, seen.0, aside.0);
            marks = (k.mark, seen.1, aside.1);
            alone = λ all. is_whole log_of mark_of base_of key s k id me.0 at live all;
          },
        ),
      )

module _ {T E B : Type 0} (log_of : T → List E) (mark_of : T → Option ℕ) (base_of : T → B) (key : Opening T) (id : ℕ) (v : Known E B) where
  pub splits : (give : ℕ) → v.stage ≡ Idle → give + 1 < v.parts → Splits (Kept log_of mark_of base_of key) id v (giver give v) (taker give v)
  splits give idle room s k at =
      let l : Known E B = giver give v in
      let r : Known E B = taker give v in
      let origin = origin_of log_of mark_of base_of key in
      let views : List (Known E B) = set s.views id l ++ r ∷ [] in
      let no : busy v.stage ≡ 0 = ap busy idle in
      let sum : (f : Known E B → ℕ) → sum_by f views + f v ≡ sum_by f s.views + f l + f r = λ f. let a = sum_set f s.views id v l at in let b = sum_by_push f (set s.views id l) r in omega arith in
      let each : (P : Known E B → Type 0) (j : ℕ) (u : Known E B) → get_elem? views j ≡ maybe.some u → P l → P r → (get_elem? s.views j ≡ maybe.some u → P u) → P u =
      λ P j u e mine hers old. ⊎_elim (λ a. ⊎_elim (λ t. subst P t.1 mine) (λ t. old t.1) (at_set s.views id j l u a)) (λ b. subst P b hers) (at_snoc (set s.views id l) r u j e) in
      let was = tells log_of mark_of base_of origin k.log k.mark k.count s.homes s.views s.views k.lists id v at (omega arith) in
      let from = owns origin k.log k.mark s.views s.views k.sums id v at in
      let fresh : (j : ℕ) (u : Known E B) → get_elem? views j ≡ maybe.some u → (u.stage ≡ Idle) ⊎ (get_elem? s.views j ≡ maybe.some u) =
      λ j u e. each (λ z. (z.stage ≡ Idle) ⊎ (get_elem? s.views j ≡ maybe.some z)) j u e (inl idle) (inl refl) inr in
      let newest = k.lists.newest in record {
        turn = k.turn;
        waits = k.waits;
        count = k.count;
        log = k.log;
        mark = k.mark;
        words = k.words;
        numbers = retold_numbers key.seats k.turn k.waits s.homes s.views views k.numbers
            (λ n. let t = sum (has n) in let a = has_none n v no in let b = has_none n l no in let c = has_none n r refl in omega arith)
            (let t : sum_by busy_of views + busy v.stage ≡ sum_by busy_of s.views + busy v.stage + 0 = sum busy_of in omega arith)
            (let t : sum_by carries_of views + carries v.stage ≡ sum_by carries_of s.views + carries v.stage + 0 = sum carries_of in omega arith)
            (let t : sum_by parts_of views + v.parts ≡ sum_by parts_of s.views + (v.parts - (give + 1)) + (give + 1) = sum parts_of in omega arith) fresh;
        lists = retold_lists log_of mark_of base_of origin k.log k.mark k.count s.homes s.views views k.lists
            (λ j u e some. each (λ z. 0 < z.parts → Tells origin k.log k.mark z) j u e (λ _. record { origin_is = was.origin_is; seen = was.seen; aside = was.aside; marked = was.marked })
            (λ _. record { origin_is = was.origin_is; seen = was.seen; aside = was.aside; marked = was.marked }) (λ o some'. tells log_of mark_of base_of origin k.log k.mark k.count s.homes s.views s.views k.lists j u o some') some)
            (dite (ℕ_discrete newest.0 id)
            (λ mine. (id, l, at_longer (set s.views id l) (r ∷ []) id l (set_at s.views id v l at), omega arith, ap (λ (z : Known E B). z.list) (maybe.some-injective v newest.1 (sym at ∙ (ap (λ j. get_elem? s.views j) (sym mine) ∙ newest.2))) ∙ newest.4))
            (λ other. (newest.0, newest.1, at_longer (set s.views id l) (r ∷ []) newest.0 newest.1 (set_else s.views id newest.0 l other ∙ newest.2), newest.3, newest.4))) fresh;
        sums = retold_sums origin k.log k.mark s.views views k.sums (let t : sum_by own_of views + v.own ≡ sum_by own_of s.views + v.own + 0 = sum own_of in omega arith)
            (let t : sum_by set_of views + weight v.set ≡ sum_by set_of s.views + weight v.set + 0 = sum set_of in omega arith)
            (λ j u e. each Owns j u e (record { setter = from.setter; nothing = λ none. absurd (omega arith) }) (record { setter = λ on. absurd (cc (on)); nothing = λ none. (refl, refl) }) (λ o. owns origin k.log k.mark s.views s.views k.sums j u o));
      }

  pub merges : (other : ℕ) (w : Known E B) → v.stage ≡ Idle → w.stage ≡ Idle → 0 < v.parts → 0 < w.parts → Joins (Kept log_of mark_of base_of key) id v other w (both v w) spent
  merges other w idle hers live some s k at apart there =
      let b : Known E B = both v w in
      let x : Known E B = spent in
      let origin = origin_of log_of mark_of base_of key in
      let first : List (Known E B) = set s.views id b in
      let views : List (Known E B) = set first other x in
      let at' : get_elem? s.views other ≡ maybe.some w = sym (set_else s.views id other b apart) ∙ there in
      let no : busy v.stage ≡ 0 = ap busy idle in
      let none : busy w.stage ≡ 0 = ap busy hers in
      let out : carries v.stage ≡ 0 = ap carries idle in
      let out' : carries w.stage ≡ 0 = ap carries hers in
      let sum : (f : Known E B → ℕ) → sum_by f views + f v + f w ≡ sum_by f s.views + f b + f x = λ f. let a = sum_set f s.views id v b at in let c = sum_set f first other w x there in omega arith in
      let each : (P : Known E B → Type 0) (j : ℕ) (u : Known E B) → get_elem? views j ≡ maybe.some u → P b → P x → (get_elem? s.views j ≡ maybe.some u → P u) → P u =
      λ P j u e mine gone old. ⊎_elim (λ t. subst P t.1 gone) (λ t. ⊎_elim (λ t'. subst P t'.1 mine) (λ t'. old t'.1) (at_set s.views id j b u t.1)) (at_set first other j x u e) in
      let a1 = tells log_of mark_of base_of origin k.log k.mark k.count s.homes s.views s.views k.lists id v at live in
      let a2 = tells log_of mark_of base_of origin k.log k.mark k.count s.homes s.views s.views k.lists other w at' some in
      let o1 = owns origin k.log k.mark s.views s.views k.sums id v at in
      let o2 = owns origin k.log k.mark s.views s.views k.sums other w at' in
      let begins = longer_begins v.list w.list k.log a1.seen.0 a2.seen.0 in
      let fresh : (j : ℕ) (u : Known E B) → get_elem? views j ≡ maybe.some u → (u.stage ≡ Idle) ⊎ (get_elem? s.views j ≡ maybe.some u) =
      λ j u e. each (λ z. (z.stage ≡ Idle) ⊎ (get_elem? s.views j ≡ maybe.some z)) j u e (inl idle) (inl refl) inr in
      let newest = k.lists.newest in
      let here : get_elem? views id ≡ maybe.some b = set_else first other id x (λ p. apart (sym p)) ∙ set_at s.views id v b at in
      let at_newest : (i : ℕ) (z : Known E B) → get_elem? s.views i ≡ maybe.some z → newest.0 ≡ i → z.list ≡ k.log =
      λ i z there' is. ap (λ (y : Known E B). y.list) (maybe.some-injective z newest.1 (sym there' ∙ (ap (λ j. get_elem? s.views j) (sym is) ∙ newest.2))) ∙ newest.4 in
      let two : weight v.set + weight w.set ≤ sum_by set_of s.views = sum_two set_of s.views id other v w (λ p. apart (sym p)) at at' in
      let one : weight (came origin.mark k.mark) ≤ 1 = weight_most (came origin.mark k.mark) in
      let all = k.sums.sets in record {
        turn = k.turn;
        waits = k.waits;
        count = k.count;
        log = k.log;
        mark = k.mark;
        words = k.words;
        numbers = retold_numbers key.seats k.turn k.waits s.homes s.views views k.numbers
            (λ n. let t = sum (has n) in let a = has_none n v no in let c = has_none n w none in let d = has_none n b no in let e = has_none n x refl in omega arith)
            (let t : sum_by busy_of views + busy v.stage + busy w.stage ≡ sum_by busy_of s.views + busy v.stage + 0 = sum busy_of in omega arith)
            (let t : sum_by carries_of views + carries v.stage + carries w.stage ≡ sum_by carries_of s.views + carries v.stage + 0 = sum carries_of in omega arith)
            (let t : sum_by parts_of views + v.parts + w.parts ≡ sum_by parts_of s.views + (v.parts + w.parts) + 0 = sum parts_of in omega arith) fresh;
        lists = retold_lists log_of mark_of base_of origin k.log k.mark k.count s.homes s.views views k.lists
            (λ j u e has_part. each (λ z. 0 < z.parts → Tells origin k.log k.mark z) j u e
            (λ _. record {
              origin_is = a1.origin_is;
              seen = (begins.0, or_keeps v.mark w.mark k.mark a1.seen.1 a2.seen.1);
              aside = (begins.1, or_keeps w.mark v.mark k.mark a2.seen.1 a1.seen.1);
              marked = first_keeps origin.mark v.mark w.mark a1.marked;
            })
            (λ h. absurd (omega arith)) (λ o some'. tells log_of mark_of base_of origin k.log k.mark k.count s.homes s.views s.views k.lists j u o some') has_part)
            (dite (ℕ_discrete newest.0 id) (λ mine. (id, b, here, omega arith, longer_whole v.list w.list k.log a1.seen.0 a2.seen.0 (inl (at_newest id v at mine))))
            (λ not_mine. dite (ℕ_discrete newest.0 other) (λ theirs. (id, b, here, omega arith, longer_whole v.list w.list k.log a1.seen.0 a2.seen.0 (inr (at_newest other w at' theirs))))
            (λ not_theirs. (newest.0, newest.1, set_else first other newest.0 x not_theirs ∙ (set_else s.views id newest.0 b not_mine ∙ newest.2), newest.3, newest.4)))) fresh;
        sums = retold_sums origin k.log k.mark s.views views k.sums (let t : sum_by own_of views + v.own + w.own ≡ sum_by own_of s.views + (v.own + w.own) + 0 = sum own_of in omega arith)
            (let t : sum_by set_of views + weight v.set + weight w.set ≡ sum_by set_of s.views + weight (v.set || w.set) + 0 = sum set_of in
            let o : weight (v.set || w.set) ≡ weight v.set + weight w.set = or_step v.set w.set (omega arith) in omega arith)
            (λ j u e. each Owns j u e
            (record {
              setter = λ on. or_some v.mark w.mark (⊎_elim (λ p. inl (o1.setter p)) (λ p. inr (o2.setter p)) (either_true v.set w.set on));
              nothing = λ empty. absurd (omega arith);
            })
            (record { setter = λ on. absurd (cc (on)); nothing = λ _. (refl, refl) }) (λ o. owns origin k.log k.mark s.views s.views k.sums j u o));
      }
