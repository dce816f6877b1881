use Rattle.std.proofs.Common.{refl}
use Rattle.osl_interp.specs.Advances.{no_op}
use Rattle.osl_interp.specs.Meaning.{configuration}
use Rattle.osl_interp.specs.declared.frame.Frame.TheVariants.{Test}
use Rattle.osl_interp.proofs.Frames.{popped, arrives}
use Rattle.osl_interp.proofs.Leaving.{test_passed, not_run, mode_of}
use Rattle.osl_interp.proofs.leave.test_step.Goals as goal

pub returns-in-Break : goal.returns-in-Break
returns-in-Break c =
    let m = configuration c.args.m.now in
    let mid = configuration c.take.new.m in
    arrives no_op _ _ _ _ c.take.ensures refl (test_passed mid c.args.repeat c.args.end (popped m mid (Test c.args.repeat c.args.end) c.take.ensures c.requires.ready c.requires.past) (mode_of m mid (Test c.args.repeat c.args.end) c.take.ensures (not_run m.mode c.in-Break.is)))
