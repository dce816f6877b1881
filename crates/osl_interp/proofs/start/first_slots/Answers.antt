use Rattle.std.proofs.Common.{◌+◌, length, refl, sym, subst, arith}
use Rattle.std.proofs.lemmas.Option.{slice_get_read}
use Rattle.osl_interp.proofs.Starting.{FirstTo, first_is, first_more, first_all}
use Rattle.osl_interp.proofs.start.first_slots.Goals as goal

pub loop-k-preserved : goal.loop-k-preserved
loop-k-preserved c =
    let symbols = c.args.symbols.now in let wired = c.args.wired.now in let fixed = c.args.fixed.now in
    let symbol = c.index-symbols-k.result in
    let here = slice_get_read symbols (length symbols) c.loop-k.k symbol refl c.loop-k-test.true c.index-symbols-k.is in
    let value = first_is symbol _ _ _ _ c.args.point.now c.in_ok-slot.slot c.wired_at-is_wired.ensures c.fixed_at.ensures c.in_ok-slot.ensures in
    subst (λ items. FirstTo symbols wired fixed c.args.point.now items (c.loop-k.k + 1)) (sym c.in_ok-push.ensures.items)
    (first_more symbols wired fixed c.args.point.now c.loop-k.slots.items c.loop-k.k symbol c.in_ok-slot.slot c.loop-k.invariant here value)

pub returns : goal.returns
returns c =
    first_all c.args.symbols.now c.args.wired.now c.args.fixed.now c.args.point.now c.loop-k.slots.items c.loop-k.k (omega (arith, c.loop-k-test.false, c.loop-k.auto.k-end)) c.loop-k.invariant
