use Rattle.std.proofs.Common.{◌≡◌, ◌+◌, None, drop, ap, ◌∙◌, arith}
use Rattle.std.proofs.lemmas.Grind.{common_steps}
use Rattle.osl_typed.specs.FileTyping.{param_added, params_added}
use Rattle.osl_check.specs.Above.{sight_of}
use Rattle.osl_check.proofs.FileWalks.{params_gathered}
use Rattle.osl_check.proofs.Walks.{behind, gather_more, gather_stops, gather_ends}
use Rattle.osl_check.proofs.params.add_params.Goals as goal

pub returns-in_err-one : goal.returns-in_err-one
returns-in_err-one c =
    let stops : param_added (sight_of c.args.sight.now) c.param-item.result c.loop-param.scope ≡ None → params_added (sight_of c.args.sight.now) c.args.params.now c.args.scope.now ≡ None =
    gather_stops _ _ (params_gathered (sight_of c.args.sight.now)) c.args.params.now c.loop-param.param-index c.param-item.result c.loop-param.all c.loop-param.scope _ c.loop-param-test.true c.param-item.is c.loop-param.invariant in
    grind (arith, common_steps, stops)

pub loop-param-preserved : goal.loop-param-preserved
loop-param-preserved c =
    ap (λ front. behind front (params_added (sight_of c.args.sight.now) (drop (c.loop-param.param-index + 1) c.args.params.now) c.add_param.new.scope)) c.in_ok-push.ensures.ok
    ∙ gather_more _ _ (params_gathered (sight_of c.args.sight.now)) c.args.params.now c.loop-param.param-index c.param-item.result c.loop-param.all c.in_ok-one.one c.loop-param.scope c.add_param.new.scope _ c.loop-param-test.true c.param-item.is c.in_ok-one.ensures c.loop-param.invariant

pub returns : goal.returns
returns c = gather_ends _ _ (params_gathered (sight_of c.args.sight.now)) c.args.params.now c.loop-param.param-index c.loop-param.all c.loop-param.scope _ c.loop-param-test.false c.loop-param.invariant
