use Rattle.std.proofs.Common.{◌∙◌}
use Rattle.osl_job.specs.Code.{start}
use Rattle.osl_job.proofs.Ops.{machine_after}
use Rattle.osl_job.proofs.code.run.Goals as goal

pub loop-op-preserved : goal.loop-op-preserved
loop-op-preserved c = record {
  count = c.in_ok-act.ensures.count ∙ c.loop-op.invariant.count;
  is = machine_after c.args.ops.now c.loop-op.op-index c.op-item.result start c.loop-op.state c.act.new.state c.loop-op-test.true c.op-item.is c.in_ok-act.ensures c.loop-op.invariant.is;
}
