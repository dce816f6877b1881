use Rattle.osl_job.proofs.Ops.{body_none, body_more, body_all}
use Rattle.osl_job.proofs.code.append_body.Goals as goal

pub loop-assignment-init : goal.loop-assignment-init
loop-assignment-init c = body_none c.args.body.now c.args.ops.now.items

pub loop-assignment-preserved : goal.loop-assignment-preserved
loop-assignment-preserved c =
    body_more c.args.body.now c.loop-assignment.assignment-index c.assignment-item.result _ c.loop-assignment.ops.items _ c.loop-assignment-test.true c.assignment-item.is
    c.loop-assignment.invariant c.in_ok-append_store.ensures

pub returns : goal.returns
returns c = body_all c.args.body.now c.loop-assignment.assignment-index _ c.loop-assignment.ops.items c.loop-assignment-test.false c.loop-assignment.invariant
