use Rattle.std.proofs.Common.{◌≡◌, ◌+◌, None, drop, map, ap, ◌∙◌, arith}
use Rattle.std.proofs.lemmas.Grind.{common_steps}
use Rattle.osl_typed.specs.FileTyping.{datum_typed, metadata_typed}
use Rattle.osl_typed.specs.Typing.{sequence}
use Rattle.osl_check.specs.Above.{sight_of}
use Rattle.osl_check.proofs.Walks.{before, list_more, list_stops, list_ends}
use Rattle.osl_check.proofs.metadata.metadata.Goals as goal

pub returns-in_err-one : goal.returns-in_err-one
returns-in_err-one c =
    let stops : datum_typed (sight_of c.args.sight.now) c.args.scope.now c.x-item.result ≡ None → metadata_typed (sight_of c.args.sight.now) c.args.scope.now c.args.list.now ≡ None =
    list_stops (datum_typed (sight_of c.args.sight.now) c.args.scope.now) c.args.list.now c.loop-x.x-index c.x-item.result c.loop-x.all _ c.loop-x-test.true c.x-item.is c.loop-x.invariant in
    grind (arith, common_steps, stops)

pub loop-x-preserved : goal.loop-x-preserved
loop-x-preserved c =
    ap (λ front. before front (sequence (map (datum_typed (sight_of c.args.sight.now) c.args.scope.now) (drop (c.loop-x.x-index + 1) c.args.list.now)))) c.in_ok-push.ensures.ok
    ∙ list_more (datum_typed (sight_of c.args.sight.now) c.args.scope.now) c.args.list.now c.loop-x.x-index c.x-item.result c.loop-x.all c.in_ok-one.one _ c.loop-x-test.true c.x-item.is c.in_ok-one.ensures c.loop-x.invariant

pub returns : goal.returns
returns c = list_ends (datum_typed (sight_of c.args.sight.now) c.args.scope.now) c.args.list.now c.loop-x.x-index c.loop-x.all _ c.loop-x-test.false c.loop-x.invariant
