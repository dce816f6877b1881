use Rattle.osl_interp.specs.Advances.{no_op}
use Rattle.osl_interp.specs.Meaning.{configuration}
use Rattle.osl_interp.specs.declared.frame.Frame.TheVariants.{Called}
use Rattle.osl_interp.proofs.Frames.{popped, arrives}
use Rattle.osl_interp.proofs.Leaving.{called_over}
use Rattle.osl_interp.proofs.leave.called_step.Goals as goal

pub returns : goal.returns
returns c =
    let mid = configuration c.take.new.m in
    arrives no_op _ _ _ _ c.take.ensures c.go_on.ensures (called_over mid c.args.rest (popped (configuration c.args.m.now) mid (Called c.args.rest) c.take.ensures c.requires.ready c.requires.past))
