use Rattle.std.proofs.Common.{◌+◌, set, ap, ◌∙◌, arith}
use Rattle.std.proofs.lemmas.List.Edits.{paste_more}
use Rattle.osl_apply.proofs.elements.write_floats.Goals as goal

pub loop-k-preserved : goal.loop-k-preserved
loop-k-preserved c =
    let d = c.args.value.now.nums in
    let xs = c.args.floats.now in
    let k = c.loop-k.k in
    let within = c.requires.within in
    let below = c.loop-k-test.true in
    let x = c.index-floats-k.result in
    let nums = ap (λ v. set v.nums (c.args.from + k) x) c.loop-k.invariant
    ∙ ap (set _ (c.args.from + k)) c.index-floats-k.is
    ∙ paste_more d c.args.from xs k x (omega (arith, within, below)) below in
    c.set_float.ensures ∙ λ i. record { ty = (c.loop-k.invariant i).ty; nums = nums i; texts = (c.loop-k.invariant i).texts }
