use Rattle.std.proofs.Common.{◌≡◌, ◌+◌, None, drop, map, ap, ◌∙◌, arith}
use Rattle.std.proofs.lemmas.Grind.{common_steps}
use Rattle.osl_typed.specs.Typing.{sequence, found_form}
use Rattle.osl_check.specs.Above.{sight_of}
use Rattle.osl_check.proofs.TypingLaws.{called}
use Rattle.osl_check.proofs.Walks.{before, list_more, list_stops, list_ends}
use Rattle.osl_check.proofs.expr.+typing.Goals as goal

pub found_form-returns-in_ok-args-in-Call : goal.found_form-returns-in_ok-args-in-Call
found_form-returns-in_ok-args-in-Call t c =
    called (sight_of c.args.sight.now) c.args.scope.now.bindings c.args.a.now c.in-Call.word c.as_slice-in-Call-2.result.now c.in-Call.args c.as_slice-in-Call.result.now c.in_ok-args-in-Call.args.items c.call.result
    c.in-Call.is c.as_slice-in-Call-2.ensures c.as_slice-in-Call.ensures c.in_ok-args-in-Call.ensures (c.call.ensures c.args.sight.now.structures)

pub arguments-returns-in_err-arg : goal.arguments-returns-in_err-arg
arguments-returns-in_err-arg t c =
    let stops : found_form (sight_of c.args.sight.now) c.args.scope.now.bindings c.arg-item.result ≡ None → sequence (map (found_form (sight_of c.args.sight.now) c.args.scope.now.bindings) c.args.args.now) ≡ None =
    list_stops (found_form (sight_of c.args.sight.now) c.args.scope.now.bindings) c.args.args.now c.loop-arg.arg-index c.arg-item.result c.loop-arg.found.items _ c.loop-arg-test.true c.arg-item.is c.loop-arg.invariant in
    grind (arith, common_steps, stops)

pub arguments-loop-arg-preserved : goal.arguments-loop-arg-preserved
arguments-loop-arg-preserved t c =
    ap (λ front. before front (sequence (map (found_form (sight_of c.args.sight.now) c.args.scope.now.bindings) (drop (c.loop-arg.arg-index + 1) c.args.args.now)))) c.in-Ok.ensures.items
    ∙ list_more (found_form (sight_of c.args.sight.now) c.args.scope.now.bindings) c.args.args.now c.loop-arg.arg-index c.arg-item.result c.loop-arg.found.items c.in_ok-arg.arg _ c.loop-arg-test.true c.arg-item.is c.in_ok-arg.ensures c.loop-arg.invariant

pub arguments-returns : goal.arguments-returns
arguments-returns t c = list_ends (found_form (sight_of c.args.sight.now) c.args.scope.now.bindings) c.args.args.now c.loop-arg.arg-index c.loop-arg.found.items _ c.loop-arg-test.false c.loop-arg.invariant
