use Rattle.std.proofs.Common.{◌≡◌, ◌∙◌, ap, sym, refl, option_and_then, length, slice_get, Some}
use Rattle.std.proofs.lemmas.Option.{slice_get_read}
use Rattle.osl_overload.specs.declared.signature.Signature.{Signature}
use Rattle.osl_overload.specs.Cost.{total}
use Rattle.osl_overload.specs.Choice.{cost_at}
use Rattle.osl_overload.proofs.Least.{says_first, says_more}
use Rattle.osl_overload.proofs.choice.choose.Goals as goal

pub loop-i-init : goal.loop-i-init
loop-i-init c = says_first (cost_at c.args.candidates.now c.args.args.now)

pub loop-i-preserved : goal.loop-i-preserved
loop-i-preserved c =
    let candidates = c.args.candidates.now in
    let args = c.args.args.now in
    let here : slice_get candidates c.loop-i.i ≡ Some c.index-candidates-i.result =
    slice_get_read candidates (length candidates) c.loop-i.i c.index-candidates-i.result refl c.loop-i-test.true c.index-candidates-i.is in
    let costs : cost_at candidates args c.loop-i.i ≡ c.total.result =
    ap (option_and_then (λ (candidate : Signature). total candidate.params args)) here
    ∙ sym (c.total.ensures ∙ ap (λ formals. total formals args) c.as_slice.ensures) in
    rw c.stands-standing.ensures (says_more (cost_at candidates args) c.loop-i.i c.total.result c.loop-i.standing costs c.loop-i.invariant)
