use Rattle.std.proofs.Common.{◌≡◌, ◌+◌, None, drop, ap, ◌∙◌, arith}
use Rattle.std.proofs.lemmas.Grind.{common_steps}
use Rattle.osl_check.specs.Above.{sight_of}
use Rattle.osl_check.specs.BodyParts.{item_at, placed}
use Rattle.osl_check.proofs.Listing.{placed_more, placed_stops, placed_ends}
use Rattle.osl_check.proofs.Walks.{before}
use Rattle.osl_check.proofs.declarations.placed.Goals as goal

pub returns-in_err-one : goal.returns-in_err-one
returns-in_err-one c =
    let stops : item_at (sight_of c.args.sight.now) c.args.scope.now c.args.kind c.loop-place.place c.index-items-place.result ≡ None → placed (sight_of c.args.sight.now) c.args.scope.now c.args.kind 0 c.args.items.now ≡ None =
    placed_stops (sight_of c.args.sight.now) c.args.scope.now c.args.kind c.args.items.now c.loop-place.place c.index-items-place.result c.loop-place.all _ c.loop-place-test.true c.index-items-place.is c.loop-place.invariant in
    grind (arith, common_steps, stops)

pub loop-place-preserved : goal.loop-place-preserved
loop-place-preserved c =
    ap (λ front. before front (placed (sight_of c.args.sight.now) c.args.scope.now c.args.kind (c.loop-place.place + 1) (drop (c.loop-place.place + 1) c.args.items.now))) c.in_ok-push.ensures.ok
    ∙ placed_more (sight_of c.args.sight.now) c.args.scope.now c.args.kind c.args.items.now c.loop-place.place c.index-items-place.result c.loop-place.all c.in_ok-one.one _ c.loop-place-test.true c.index-items-place.is c.in_ok-one.ensures c.loop-place.invariant

pub returns : goal.returns
returns c = placed_ends (sight_of c.args.sight.now) c.args.scope.now c.args.kind c.args.items.now c.loop-place.place c.loop-place.all _ c.loop-place-test.false c.loop-place.invariant
