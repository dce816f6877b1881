use Rattle.std.proofs.Common.{◌≡◌, ◌+◌, None, drop, map, ap, ◌∙◌, arith}
use Rattle.std.proofs.lemmas.Grind.{common_steps}
use Rattle.osl_names.proofs.Keeping.{keeps_on}
use Rattle.osl_typed.specs.BodyTyping.{all_typed, going}
use Rattle.osl_check.specs.Above.{sight_of}
use Rattle.osl_check.specs.BodyParts.{around}
use Rattle.osl_check.proofs.Goings.{statements_gathered, left_keeps, for_says}
use Rattle.osl_check.proofs.Walks.{behind, gather_more, gather_stops, gather_ends}
use Rattle.osl_check.proofs.statements.+going.Goals as goal

pub all_typed-returns-in_err-one-clause-typed : goal.all_typed-returns-in_err-one-clause-typed
all_typed-returns-in_err-one-clause-typed t c =
    let stops : going (around (sight_of c.args.sight.now) c.args.kind) c.s-item.result c.args.in_loop c.loop-s.scope ≡ None → all_typed (map (going (around (sight_of c.args.sight.now) c.args.kind)) c.args.statements.now) c.args.in_loop c.args.scope.now ≡ None =
    gather_stops _ _ (statements_gathered (around (sight_of c.args.sight.now) c.args.kind) c.args.in_loop) c.args.statements.now c.loop-s.s-index c.s-item.result c.loop-s.all c.loop-s.scope _ c.loop-s-test.true c.s-item.is c.loop-s.invariant.typed in
    grind (arith, common_steps, stops)

pub all_typed-loop-s-preserved : goal.all_typed-loop-s-preserved
all_typed-loop-s-preserved t c = record {
  typed =
      ap (λ front. behind front (all_typed (map (going (around (sight_of c.args.sight.now) c.args.kind)) (drop (c.loop-s.s-index + 1) c.args.statements.now)) c.args.in_loop c.going.new.scope)) c.in_ok-push.ensures.ok
      ∙ gather_more _ _ (statements_gathered (around (sight_of c.args.sight.now) c.args.kind) c.args.in_loop) c.args.statements.now c.loop-s.s-index c.s-item.result c.loop-s.all c.in_ok-one.one c.loop-s.scope c.going.new.scope _ c.loop-s-test.true c.s-item.is c.in_ok-one.ensures.typed c.loop-s.invariant.typed;
  keeps = keeps_on _ _ _ c.loop-s.invariant.keeps c.in_ok-one.ensures.keeps;
}

pub all_typed-returns-clause-typed : goal.all_typed-returns-clause-typed
all_typed-returns-clause-typed t c = gather_ends _ _ (statements_gathered (around (sight_of c.args.sight.now) c.args.kind) c.args.in_loop) c.args.statements.now c.loop-s.s-index c.loop-s.all c.loop-s.scope _ c.loop-s-test.false c.loop-s.invariant.typed

pub going-returns-in_ok-s-in-For-clause-typed : goal.going-returns-in_ok-s-in-For-clause-typed
going-returns-in_ok-s-in-For-clause-typed t c =
    for_says (around (sight_of c.args.sight.now) c.args.kind) c.args.s.now c.in-For.first c.in-For.test c.in-For.step c.in-For.a c.get-in-For.result.now c.args.in_loop
    c.args.scope.now c.enter.new.self c.heading.new.scope c.repeated.new.scope c.leave.new.self c.in_ok-head-in-For.head c.in_ok-s-in-For.s c.count-count.result
    c.in-For.is c.get-in-For.ensures c.in_ok-enter-in-For.ensures.entered c.count-count.ensures
    c.in_ok-head-in-For.ensures.typed c.in_ok-head-in-For.ensures.keeps c.in_ok-s-in-For.ensures.typed c.in_ok-s-in-For.ensures.keeps c.leave.ensures

pub going-returns-in_ok-s-in-For-clause-keeps : goal.going-returns-in_ok-s-in-For-clause-keeps
going-returns-in_ok-s-in-For-clause-keeps t c =
    left_keeps c.args.scope.now c.enter.new.self c.repeated.new.scope c.leave.new.self c.count-count.result c.in_ok-enter-in-For.ensures.entered c.count-count.ensures
    (keeps_on _ _ _ c.in_ok-head-in-For.ensures.keeps c.in_ok-s-in-For.ensures.keeps) c.leave.ensures
