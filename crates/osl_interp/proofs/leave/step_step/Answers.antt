use Rattle.std.proofs.Common.{refl, ◌∙◌, ◌++◌, ◌∷◌, []}
use Rattle.osl_interp.specs.Advances.{no_op}
use Rattle.osl_interp.specs.Meaning.{configuration}
use Rattle.osl_interp.specs.declared.frame.Frame.TheVariants.{Step, Test}
use Rattle.osl_interp.proofs.Frames.{popped, arrives}
use Rattle.osl_interp.proofs.Leaving.{step_over, step_passed, not_run}
use Rattle.osl_interp.proofs.leave.step_step.Goals as goal

pub returns-in_ok-enter-in-Run : goal.returns-in_ok-enter-in-Run
returns-in_ok-enter-in-Run c =
    let mid = configuration c.take.new.m in
    arrives no_op _ _ _ _ c.take.ensures (c.in_ok-enter-in-Run.ensures ∙ λ i. record mid { frames = mid.frames ++ Test c.args.repeat c.args.end ∷ []; mode = c.in-Run.is i; at = c.args.repeat.test.start; end = c.args.repeat.test.end }) (step_over mid c.args.repeat c.args.end (popped (configuration c.args.m.now) mid (Step c.args.repeat c.args.end) c.take.ensures c.requires.ready c.requires.past) c.in-Run.is)

pub returns-in-Break : goal.returns-in-Break
returns-in-Break c =
    let mid = configuration c.take.new.m in
    arrives no_op _ _ _ _ c.take.ensures refl (step_passed mid c.args.repeat c.args.end (popped (configuration c.args.m.now) mid (Step c.args.repeat c.args.end) c.take.ensures c.requires.ready c.requires.past) (not_run mid.mode c.in-Break.is))
