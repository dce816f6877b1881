use Rattle.std.proofs.Common.{sym, ap, ◌∙◌}
use Rattle.oso_code.specs.Steps as S
use Rattle.oso_step.specs.Decoded.{seen_span, seen_step}
use Rattle.osl_interp.proofs.Acting.{step_read, op_there}
use Rattle.osl_interp.proofs.ops.op_step.Goals as goal

pub bounds-as_slice-m : goal.bounds-as_slice-m
bounds-as_slice-m c = op_there c.args.m.now.code.now c.args.m.now.at c.args.m.now.end c.as_slice.result.now c.as_slice.ensures c.requires.inside c.requires.ready.here.within

pub compute-requires-clause-op : goal.compute-requires-clause-op
compute-requires-clause-op c = step_read c.args.m.now.code.now c.args.m.now.at c.as_slice.result.now c.index-as_slice-m.result _ c.as_slice.ensures (op_there c.args.m.now.code.now c.args.m.now.at c.args.m.now.end c.as_slice.result.now c.as_slice.ensures c.requires.inside c.requires.ready.here.within) c.index-as_slice-m.is (sym (sym (c.decode.ensures c.args.m.now.code.now.symbols) ∙ ap (seen_step c.args.m.now.code.now.symbols) c.in-Compute.is))

pub branch-m-requires-clause-op : goal.branch-m-requires-clause-op
branch-m-requires-clause-op c = step_read c.args.m.now.code.now c.args.m.now.at c.as_slice.result.now c.index-as_slice-m.result _ c.as_slice.ensures (op_there c.args.m.now.code.now c.args.m.now.at c.args.m.now.end c.as_slice.result.now c.as_slice.ensures c.requires.inside c.requires.ready.here.within) c.index-as_slice-m.is (sym (sym (c.decode.ensures c.args.m.now.code.now.symbols) ∙ ap (seen_step c.args.m.now.code.now.symbols) c.in-Branch.is))

pub test_first-requires-clause-op : goal.test_first-requires-clause-op
test_first-requires-clause-op c = step_read c.args.m.now.code.now c.args.m.now.at c.as_slice.result.now c.index-as_slice-m.result _ c.as_slice.ensures (op_there c.args.m.now.code.now c.args.m.now.at c.args.m.now.end c.as_slice.result.now c.as_slice.ensures c.requires.inside c.requires.ready.here.within) c.index-as_slice-m.is (sym (sym (c.decode.ensures c.args.m.now.code.now.symbols) ∙ ap (seen_step c.args.m.now.code.now.symbols) c.in-Loop-true-default.is ∙ ap (λ b. S.Loop b c.in-Loop-true-default.repeat.condition (seen_span c.in-Loop-true-default.repeat.test) (seen_span c.in-Loop-true-default.repeat.body) (seen_span c.in-Loop-true-default.repeat.step)) c.in-Loop-true-default.field-0-test))

pub turn_first-requires-clause-op : goal.turn_first-requires-clause-op
turn_first-requires-clause-op c = step_read c.args.m.now.code.now c.args.m.now.at c.as_slice.result.now c.index-as_slice-m.result _ c.as_slice.ensures (op_there c.args.m.now.code.now c.args.m.now.at c.args.m.now.end c.as_slice.result.now c.as_slice.ensures c.requires.inside c.requires.ready.here.within) c.index-as_slice-m.is (sym (sym (c.decode.ensures c.args.m.now.code.now.symbols) ∙ ap (seen_step c.args.m.now.code.now.symbols) c.in-Loop-false-default.is ∙ ap (λ b. S.Loop b c.in-Loop-false-default.repeat.condition (seen_span c.in-Loop-false-default.repeat.test) (seen_span c.in-Loop-false-default.repeat.body) (seen_span c.in-Loop-false-default.repeat.step)) c.in-Loop-false-default.field-0-test))

pub call-requires-clause-op : goal.call-requires-clause-op
call-requires-clause-op c = step_read c.args.m.now.code.now c.args.m.now.at c.as_slice.result.now c.index-as_slice-m.result _ c.as_slice.ensures (op_there c.args.m.now.code.now c.args.m.now.at c.args.m.now.end c.as_slice.result.now c.as_slice.ensures c.requires.inside c.requires.ready.here.within) c.index-as_slice-m.is (sym (sym (c.decode.ensures c.args.m.now.code.now.symbols) ∙ ap (seen_step c.args.m.now.code.now.symbols) c.in-Call.is))

pub leave_by-requires-clause-op : goal.leave_by-requires-clause-op
leave_by-requires-clause-op c = step_read c.args.m.now.code.now c.args.m.now.at c.as_slice.result.now c.index-as_slice-m.result _ c.as_slice.ensures (op_there c.args.m.now.code.now c.args.m.now.at c.args.m.now.end c.as_slice.result.now c.as_slice.ensures c.requires.inside c.requires.ready.here.within) c.index-as_slice-m.is (sym (sym (c.decode.ensures c.args.m.now.code.now.symbols) ∙ ap (seen_step c.args.m.now.code.now.symbols) c.in-Leave.is))
