use Rattle.osl_job.proofs.Ops.{defaults_none, defaults_more, defaults_all}
use Rattle.osl_job.proofs.code.append_defaults.Goals as goal

pub loop-number-init : goal.loop-number-init
loop-number-init c = defaults_none c.args.params.now c.args.ops.now.items

pub loop-number-preserved : goal.loop-number-preserved
loop-number-preserved c =
    defaults_more c.args.params.now c.loop-number.number c.index-params-number.result _ c.loop-number.ops.items _ c.loop-number-test.true c.index-params-number.is
    c.loop-number.invariant c.in_ok-append_store.ensures

pub returns : goal.returns
returns c = defaults_all c.args.params.now c.loop-number.number _ c.loop-number.ops.items c.loop-number-test.false c.loop-number.invariant
