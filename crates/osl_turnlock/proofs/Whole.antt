-- A seat that has all parts has seen all: its list is the log, and its mark is the value's.
use Rattle.std.proofs.Common.{◌≡◌, ℕ, ◌+◌, ◌<◌, ◌≢◌, length, Option, List, sym, ap, ◌∙◌, arith}
use mathlib.Core.Option as maybe
use mathlib.Core.Logic.{dite}
use native.Mathlib.Decide.{ℕ_discrete}
use lib.ListN.{get_elem?}
use Rattle.atomic_table.specs.Table.{State}
use Rattle.osl_turnlock.specs.declared.board.Origin.{Origin}
use Rattle.osl_turnlock.specs.declared.board.Known.{Known}
use Rattle.osl_turnlock.specs.declared.board.Opening.{Opening}
use Rattle.osl_turnlock.specs.Rule.{Kept, origin_of}
use Rattle.osl_turnlock.specs.Steps.{HasAllParts, IsWhole}
use Rattle.osl_turnlock.proofs.Numbers.{others_spent}
use Rattle.osl_turnlock.proofs.Sums.{alone_own, alone_mark, alone_unset}

module _ {T E B : Type 0} (log_of : T → List E) (mark_of : T → Option ℕ) (base_of : T → B) (key : Opening T) (s : State (Option T) (Known E B)) (k : Kept log_of mark_of base_of key s) (id : ℕ) (v : Known E B) (at : get_elem? s.views id ≡ maybe.some v) (live : 0 < v.parts) (all : HasAllParts v) where
  abbrev first : Origin B
  first = origin_of log_of mark_of base_of key

  opening : v.origin ≡ first
  opening = k.lists.opened id v at live

  pub others : (j : ℕ) (u : Known E B) → j ≢ id → get_elem? s.views j ≡ maybe.some u → u.parts ≡ 0
  others j u apart there = others_spent key.seats k.turn k.waits s.homes s.views k.numbers id j v u at (all ∙ ap (λ (o : Origin B). o.seats) opening) apart there

  pub whole_list : v.list ≡ k.log
  whole_list =
      let newest = k.lists.newest in
      dite (ℕ_discrete newest.0 id)
      (λ mine. ap (λ (z : Known E B). z.list) (maybe.some-injective v newest.1 (sym at ∙ (ap (λ j. get_elem? s.views j) (sym mine) ∙ newest.2))) ∙ newest.4)
      (λ other. let none = others newest.0 newest.1 other newest.2 in let some = newest.3 in absurd (omega arith))

  pub whole_mark : k.mark ≡ v.mark
  whole_mark = alone_mark first k.log k.mark s.views k.sums id v at others (k.lists.marked id v at live) (k.lists.seen id v at live).1

  pub is_whole : IsWhole v
  is_whole =
      let own : v.own + first.start ≡ length k.log = alone_own first k.log k.mark s.views k.sums id v at others in
      let long : length v.list ≡ length k.log = ap length whole_list in
      let start : v.origin.start ≡ first.start = ap (λ (o : Origin B). o.start) opening in (
        omega arith,
        λ off none. alone_unset first k.log k.mark s.views k.sums id v at others (k.lists.seen id v at live).1 off (sym (ap (λ (o : Origin B). o.mark) opening) ∙ none),
      )
