-- Each step of the lock keeps its rule.
use Rattle.std.proofs.Common.{◌≡◌, ℕ, ◌+◌, ◌-◌, ◌%◌, ◌^◌, ◌<◌, inl, inr, List, [], ◌∷◌, length, set, slice_index, slice_set, Option, Some, sym, refl, ap, ◌∙◌, subst, arith, true, ◌||◌, is_some}
use mathlib.Core.Option as maybe
use mathlib.Core.List.{IsPrefix}
use mathlib.Core.Logic.{dite}
use native.Mathlib.Decide.{ℕ_discrete, dec_lt}
use lib.ListN.{get_elem?}
use Rattle.atomic_table.specs.Table.{State, step, Allows, keeps, takes, gives as give_back, put_back, rest}
use Rattle.atomic_table.proofs.Lists.{set_again, one_turn}
use Rattle.osl_turnlock.specs.declared.board.Origin.{Origin}
use Rattle.osl_turnlock.specs.declared.board.Known.{Known}
use Rattle.osl_turnlock.specs.declared.board.Opening.{Opening}
use Rattle.osl_turnlock.specs.declared.board.Stage.TheVariants.{Idle, Waiting, Inside, Leaving}
use Rattle.osl_turnlock.specs.Growth.{came, KeepsMark}
use Rattle.osl_turnlock.specs.Views.{busy, has, waiting, entered, left, idle}
use Rattle.osl_turnlock.specs.Rule.{Homes, home, away, Numbered, Listed, Summed, Kept, origin_of}
use Rattle.osl_turnlock.specs.Steps.{Sat, drawn, awaited, gave, ended}
use Rattle.osl_turnlock.proofs.Totals.{sum_at}
use Rattle.osl_turnlock.proofs.Prefixes.{prefix_self}
use Rattle.osl_turnlock.proofs.Stages.{not_inside}
use Rattle.osl_turnlock.proofs.Whole.{whole_list, whole_mark}
use Rattle.osl_turnlock.proofs.Numbers.{has_hit, few_waits, draws_number, at_home, takes_slot, gives_slot, ends_number, one_inside}
use Rattle.osl_turnlock.proofs.Logs.{keeps_log, grows_log, home_not_away, keeps_trans, keeps_self}
use Rattle.osl_turnlock.proofs.Sums.{keeps_sums, grows_sums, some_kept}

module _ {T E B : Type 0} (log_of : T → List E) (mark_of : T → Option ℕ) (base_of : T → B) (key : Opening T) (slots id : ℕ) (me : Sat T E B) where
  abbrev Rule : State (Option T) (Known E B) → Type 0
  Rule = Kept log_of mark_of base_of key

  abbrev first : Origin B
  first = origin_of log_of mark_of base_of key

  module _ (s : State (Option T) (Known E B)) (k : Rule s) (at : get_elem? s.views id ≡ maybe.some me.0) (live : 0 < me.0.parts) where
    -- a view that has the list and the mark that it had
    same_lists : (w : Known E B) → w.parts ≡ me.0.parts → w.origin ≡ me.0.origin → w.list ≡ me.0.list → w.mark ≡ me.0.mark → w.beside ≡ me.0.beside → w.beside_mark ≡ me.0.beside_mark → (w.stage ≡ Inside → ⊥)
        → Listed log_of mark_of base_of first k.log k.mark k.count s.homes (set s.views id w)
    same_lists w parts opening list mark by by_mark outside =
        let seen = k.lists.seen id me.0 at live in
        keeps_log log_of mark_of base_of first k.log k.mark k.count s.homes s.views k.lists id me.0 w at live parts opening (subst (λ (l : List E). IsPrefix l k.log) (sym list) seen.0)
        (subst (λ (m : Option ℕ). KeepsMark m k.mark) (sym mark) seen.1) (subst (λ (m : Option ℕ). KeepsMark first.mark m) (sym mark) (k.lists.marked id me.0 at live)) (inl list) (λ inside. absurd (outside inside))
        (let a = k.lists.aside id me.0 at live in (subst (λ (l : List E). IsPrefix l k.log) (sym by) a.0, subst (λ (m : Option ℕ). KeepsMark m k.mark) (sym by_mark) a.1)) s.homes (λ x e. e)

    same_sums : (w : Known E B) → w.parts ≡ me.0.parts → w.own ≡ me.0.own → w.set ≡ me.0.set → w.mark ≡ me.0.mark → Summed first k.log k.mark (set s.views id w)
    same_sums w parts own set mark =
        keeps_sums first k.log k.mark s.views k.sums id me.0 w at live parts own set (λ on. subst (λ (m : Option ℕ). is_some m ≡ true) (sym mark) (k.sums.setter id me.0 at (sym set ∙ on)))

    -- a seat that waits, at the number that is served modulo 2^64, has the number that is served
    is_served : me.0.stage ≡ Waiting → k.turn % 2 ^ 64 ≡ me.0.number % 2 ^ 64 → me.0.number ≡ k.turn
    is_served waits same =
        let r = k.numbers in
        let n : ℕ = me.0.number in
        let one : has n me.0 ≡ 1 = has_hit n me.0 refl ∙ ap busy waits in
        let some = sum_at (has n) s.views id me.0 at in
        let few = few_waits key.seats k.turn k.waits s.homes s.views r in
        dite (dec_lt n k.turn) (λ low. let z = r.below n low in absurd (omega arith))
        (λ not_low. dite (dec_lt n (k.turn + k.waits)) (λ high. sym (one_turn k.turn n (2 ^ 64) (omega arith) (omega arith) same)) (λ not_high. let z = r.above n (omega arith) in absurd (omega arith)))

    -- a step that changes nothing
    pub unchanged : (words : List ℕ) → words ≡ (k.turn + k.waits) % 2 ^ 64 ∷ k.turn % 2 ^ 64 ∷ k.count ∷ [] → Rule record { words = words; homes = s.homes; views = set s.views id me.0 }
    unchanged words same = record {
      turn = k.turn;
      waits = k.waits;
      count = k.count;
      log = k.log;
      mark = k.mark;
      words = same;
      numbers = subst (λ (vs : List (Known E B)). Numbered key.seats k.turn k.waits s.homes vs) (sym (set_again s.views id me.0 at)) k.numbers;
      lists = subst (λ (vs : List (Known E B)). Listed log_of mark_of base_of first k.log k.mark k.count s.homes vs) (sym (set_again s.views id me.0 at)) k.lists;
      sums = subst (λ (vs : List (Known E B)). Summed first k.log k.mark vs) (sym (set_again s.views id me.0 at)) k.sums;
    }

  pub draws : me.0.stage ≡ Idle → 0 < me.0.parts → Allows Rule slots id me 0 (λ n. (n + 1) % 2 ^ 64) (drawn (step slots 0 1 0 maybe.none) me)
  draws idle live s k len at small =
      let n : ℕ = k.turn + k.waits in let w : Known E B = waiting n me.0 in (
        w,
        keeps,
        tt,
        record {
          turn = k.turn;
          waits = k.waits + 1;
          count = k.count;
          log = k.log;
          mark = k.mark;
          words = ap (λ ws. slice_set ws 0 ((slice_index ws 0 + 1) % 2 ^ 64)) k.words ∙ ap (λ (z : ℕ). z ∷ k.turn % 2 ^ 64 ∷ k.count ∷ []) (omega arith);
          numbers = draws_number key.seats k.turn k.waits s.homes s.views k.numbers id me.0 w at live refl idle refl refl;
          lists = same_lists s k at live w refl refl refl refl refl refl (λ e. not_inside Waiting refl e);
          sums = same_sums s k at live w refl refl refl refl;
        },
        (n, ap (λ ws. slice_index ws 0) k.words, refl),
      )

  pub awaits : me.0.stage ≡ Waiting → me.1 ≡ [] → 0 < me.0.parts → Allows Rule slots id me 1 (λ n. n) (awaited log_of mark_of base_of (step slots 1 0 0 maybe.none) me)
  awaits waits bare live s k len at small =
      let served : slice_index s.words 1 ≡ k.turn % 2 ^ 64 = ap (λ ws. slice_index ws 1) k.words in
      let words : slice_set s.words 1 (slice_index s.words 1) ≡ (k.turn + k.waits) % 2 ^ 64 ∷ k.turn % 2 ^ 64 ∷ k.count ∷ [] = ap (λ ws. slice_set ws 1 (slice_index ws 1)) k.words in
      dite (ℕ_discrete (slice_index s.words 1) (me.0.number % 2 ^ 64))
      (λ hit.
      let mine : me.0.number ≡ k.turn = is_served s k at live waits (sym served ∙ hit) in
      let there = at_home key.seats k.turn k.waits s.homes s.views k.numbers id me.0 me.0 at live refl waits mine in
      let x : T = there.0 in
      let w : Known E B = entered (log_of x) (mark_of x) me.0 in
      let homes : slice_set s.homes 0 maybe.none ≡ away {T = T} = ap (λ h. slice_set h 0 maybe.none) there.1 in
      let value = k.lists.at_home x there.1 in
      let seen = k.lists.seen id me.0 at live in
      let opening = k.lists.opened id me.0 at live in (
        w,
        takes 0 (Some x),
        ap (λ h. get_elem? h 0) there.1,
        record {
          turn = k.turn;
          waits = k.waits;
          count = k.count;
          log = k.log;
          mark = k.mark;
          words = words;
          numbers = subst (λ (h : Homes T). Numbered key.seats k.turn k.waits h (set s.views id w)) (sym homes)
              (takes_slot key.seats k.turn k.waits s.homes s.views k.numbers id me.0 w at live refl waits mine refl refl);
          lists = keeps_log log_of mark_of base_of first k.log k.mark k.count s.homes s.views k.lists id me.0 w at live refl refl (subst (λ (l : List E). IsPrefix l k.log) (sym value.0) (prefix_self k.log))
              (subst (λ (m : Option ℕ). KeepsMark m k.mark) (sym value.1) (keeps_self k.mark))
              (subst (λ (m : Option ℕ). KeepsMark first.mark m) (sym value.1) (keeps_trans first.mark me.0.mark k.mark (k.lists.marked id me.0 at live) seen.1)) (inr value.0) (λ _. (value.0, value.1)) (k.lists.aside id me.0 at live)
              (slice_set s.homes 0 maybe.none) (λ y e. absurd (home_not_away y (sym homes ∙ e)));
          sums = keeps_sums first k.log k.mark s.views k.sums id me.0 w at live refl refl refl
              (λ on. subst (λ (m : Option ℕ). is_some m ≡ true) (sym value.1) (some_kept me.0.mark k.mark seen.1 (k.sums.setter id me.0 at on)));
        },
        (
          (λ _. (
            x,
            record {
              log = subst (λ (l : List E). IsPrefix me.0.list l) (sym value.0) seen.0;
              mark = subst (λ (m : Option ℕ). KeepsMark me.0.mark m) (sym value.1) seen.1;
              base = value.2 ∙ ap (λ (o : Origin B). o.base) (sym opening);
              alone = λ all. (value.0 ∙ sym (whole_list log_of mark_of base_of key s k id me.0 at live all), value.1 ∙ whole_mark log_of mark_of base_of key s k id me.0 at live all);
            },
            refl,
          )),
          λ other. absurd (other hit),
        ),
      ))
      (λ miss. (
        me.0,
        keeps,
        tt,
        unchanged s k at live _ words,
        ((λ hit. absurd (miss hit)), λ _. refl),
      ))

  pub gives : (x : T) (added : ℕ) → me.0.stage ≡ Inside → me.1 ≡ (0, Some x) ∷ [] → 0 < me.0.parts → IsPrefix me.0.list (log_of x) → KeepsMark me.0.mark (mark_of x) → Some (base_of x) ≡ me.0.origin.base
      → added + length me.0.list ≡ length (log_of x) → length (log_of x) < 2 ^ 64 → Allows Rule slots id me 2 (λ n. (n + added) % 2 ^ 64) (gave log_of mark_of base_of (step slots 2 added 0 maybe.none) me)
  gives x added inside carried live grows kept based adds short s k len at small =
      let w : Known E B = left (log_of x) (mark_of x) added me.0 in
      let out = gives_slot key.seats k.turn k.waits s.homes s.views k.numbers id me.0 w at live refl x inside refl refl in
      let homes : put_back s.homes me.1 ≡ home x = (λ i. put_back (out.0 i) (carried i)) in
      let was = k.lists.held id me.0 at inside in
      let long : length me.0.list ≡ length k.log = ap length was.0 in
      let all = k.lists.counted in
      let counts : (k.count + added) % 2 ^ 64 ≡ length (log_of x) = omega arith in (
        w,
        give_back,
        tt,
        record {
          turn = k.turn;
          waits = k.waits;
          count = (k.count + added) % 2 ^ 64;
          log = log_of x;
          mark = mark_of x;
          words = ap (λ ws. slice_set ws 2 ((slice_index ws 2 + added) % 2 ^ 64)) k.words;
          numbers = subst (λ (h : Homes T). Numbered key.seats k.turn k.waits h (set s.views id w)) (sym homes) out.1;
          lists = subst (λ (h : Homes T). Listed log_of mark_of base_of first (log_of x) (mark_of x) ((k.count + added) % 2 ^ 64) h (set s.views id w)) (sym homes)
              (grows_log log_of mark_of base_of first k.log k.mark k.count s.homes s.views k.lists id me.0 w at live refl refl x ((k.count + added) % 2 ^ 64) inside refl refl refl refl refl grows kept based short counts
              (λ j u apart there hers. one_inside key.seats k.turn k.waits s.homes s.views k.numbers id j me.0 u at inside (λ p. apart (sym p)) there hers));
          sums = grows_sums first k.log k.mark s.views k.sums id me.0 w at live refl (log_of x) (mark_of x) added (omega arith) refl (ap (λ (m : Option ℕ). me.0.set || came m (mark_of x)) was.1) refl
              (subst (λ (m : Option ℕ). KeepsMark first.mark m) was.1 (k.lists.marked id me.0 at live)) (subst (λ (m : Option ℕ). KeepsMark m (mark_of x)) was.1 kept) was.1;
        },
        (λ y e.
            let same : x ≡ y = cc (e) in
            let P : T → Type 0 = λ z. ◌≡◌ {A = Sat T E B} (w, rest me.1) (left (log_of z) (mark_of z) added me.0, []) in
            subst P same (λ i. (w, rest (carried i)))),
      )

  pub ends : me.0.stage ≡ Leaving → 0 < me.0.parts → Allows Rule slots id me 1 (λ n. (n + 1) % 2 ^ 64) (ended (step slots 1 1 0 maybe.none) me)
  ends leaving live s k len at small =
      let w : Known E B = idle me.0 in
      let next = ends_number key.seats k.turn k.waits s.homes s.views k.numbers id me.0 w at live refl leaving refl in
      let some = next.0 in
      let front : (k.turn + k.waits) % 2 ^ 64 ≡ (k.turn + 1 + (k.waits - 1)) % 2 ^ 64 = ap (λ (z : ℕ). z % 2 ^ 64) (omega arith) in
      let back : (k.turn % 2 ^ 64 + 1) % 2 ^ 64 ≡ (k.turn + 1) % 2 ^ 64 = omega arith in (
        w,
        keeps,
        tt,
        record {
          turn = k.turn + 1;
          waits = k.waits - 1;
          count = k.count;
          log = k.log;
          mark = k.mark;
          words = ap (λ ws. slice_set ws 1 ((slice_index ws 1 + 1) % 2 ^ 64)) k.words ∙ (λ i. front i ∷ back i ∷ k.count ∷ []);
          numbers = next.1;
          lists = same_lists s k at live w refl refl refl refl refl refl (λ e. not_inside Idle refl e);
          sums = same_sums s k at live w refl refl refl refl;
        },
        refl,
      )
