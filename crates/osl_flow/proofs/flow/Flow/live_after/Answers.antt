use Rattle.std.proofs.Common.{◌<◌, [], length, get_or, arith, ap, ◌∙◌, subst}
use Rattle.std.proofs.lemmas.List.{get_or_read}
use Rattle.osl_flow.specs.Flow.{View, IsFlow}
use Rattle.osl_flow.proofs.Exact.{live_exact}
use Rattle.osl_flow.proofs.flow.Flow.live_after.Goals as goal

pub returns-clause-exact : goal.returns-clause-exact
returns-clause-exact c =
    let view = c.args.self.now in
    let long = c.self.invariant.are_live.long in
    let e = ap (λ (v : View). length v.code.ops) c.self.view_is in
    let w = c.requires in
    let lt : c.args.op < length c.self.inside.live.items = omega (arith, long, e, w) in
    live_exact view c.args.op c.index.result.now (subst IsFlow c.self.view_is c.self.invariant) c.requires
    (get_or_read c.self.inside.live.items c.args.op c.index.result.now lt c.index.ensures [] ∙ ap (λ (v : View). get_or v.live c.args.op []) c.self.view_is)
