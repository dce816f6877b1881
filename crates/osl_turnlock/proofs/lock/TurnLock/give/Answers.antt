use Rattle.std.proofs.Common.{rules, ◌≡◌, [], ◌∷◌, Some, ap, ◌∙◌, arith}
use Rattle.atomic_table.specs.Table.{rest}
use Rattle.osl_turnlock.proofs.Prefixes.{prefix_length}
use Rattle.osl_turnlock.proofs.Moves.{gives, ends}
use Rattle.osl_turnlock.proofs.lock.TurnLock.give.Goals as goal

pub fetch_add-requires : goal.fetch_add-requires
fetch_add-requires g c =
    let m = c.exchange-gap.ensures.3 in let same = ap (λ m. m.0) m in (
      search rules,
      search rules,
      gives g.T.Held.log g.T.Held.mark g.T.Held.base _ _ _ _ c.args.value _ (ap (λ v. v.stage) same ∙ c.requires.seat.1.0) (ap (λ m. m.1) m ∙ ap (λ l. (0, Some c.args.value) ∷ rest l) c.requires.seat.1.1)
          (rw same (omega (arith, c.args.seat.now.spare_is))) (rw same c.requires.log) (rw same c.requires.mark) (rw same c.requires.base)
          (rw same (let longer = prefix_length _ _ c.requires.log in let is = c.count-seen.ensures in let was = c.args.seat.now.seen_is in omega arith)) (rw (← c.count-seen.ensures) (search rules)),
    )

pub fetch_add-requires-2 : goal.fetch_add-requires-2
fetch_add-requires-2 g c =
    let m = c.exchange-gap.ensures.3 in let same = ap (λ m. m.0.parts) m in
    let carried : c.exchange-gap.new.seat.me.1 ≡ (0, Some c.args.value) ∷ [] = ap (λ m. m.1) m ∙ ap (λ l. (0, Some c.args.value) ∷ rest l) c.requires.seat.1.1 in
    let w = c.fetch_add.ensures.2 c.args.value carried in let parts = ap (λ m. m.0.parts) w in (
      search rules,
      search rules,
      ends g.T.Held.log g.T.Held.mark g.T.Held.base _ _ _ _ (ap (λ m. m.0.stage) w) (rw (parts, same) (omega (arith, c.args.seat.now.spare_is))),
    )
