use Rattle.std.proofs.Common.{refl}
use Rattle.osl_interp.specs.Advances.{no_op}
use Rattle.osl_interp.specs.Meaning.{configuration}
use Rattle.osl_interp.specs.declared.frame.Frame.TheVariants.{Rest}
use Rattle.osl_interp.proofs.Frames.{popped, arrives}
use Rattle.osl_interp.proofs.Leaving.{rest_over, rest_passed, not_run}
use Rattle.osl_interp.proofs.leave.rest_step.Goals as goal

pub returns-in-Run : goal.returns-in-Run
returns-in-Run c =
    let mid = configuration c.take.new.m in
    arrives no_op _ _ _ _ c.take.ensures c.go_on.ensures (rest_over mid c.args.rest (popped (configuration c.args.m.now) mid (Rest c.args.rest) c.take.ensures c.requires.ready c.requires.past) c.in-Run.is)

pub returns-in-Break : goal.returns-in-Break
returns-in-Break c =
    let mid = configuration c.take.new.m in
    arrives no_op _ _ _ _ c.take.ensures refl (rest_passed mid c.args.rest (popped (configuration c.args.m.now) mid (Rest c.args.rest) c.take.ensures c.requires.ready c.requires.past) (not_run mid.mode c.in-Break.is))
