use Rattle.std.proofs.Common.{refl, ◌∙◌}
use Rattle.osl_interp.specs.Advances.{no_op}
use Rattle.osl_interp.specs.Meaning.{configuration}
use Rattle.osl_interp.specs.declared.frame.Frame.TheVariants.{Body}
use Rattle.osl_interp.specs.declared.frame.Mode.TheVariants.{Run}
use Rattle.osl_interp.proofs.Frames.{popped, arrives}
use Rattle.osl_interp.proofs.Leaving.{body_over, body_broken, body_passed}
use Rattle.osl_interp.proofs.leave.body_step.Goals as goal

pub returns-in_ok-enter-in-Run : goal.returns-in_ok-enter-in-Run
returns-in_ok-enter-in-Run c =
    let mid = configuration c.take.new.m in
    arrives no_op _ _ _ _ c.take.ensures c.in_ok-enter-in-Run.ensures (body_over mid c.args.repeat c.args.end (popped (configuration c.args.m.now) mid (Body c.args.repeat c.args.end) c.take.ensures c.requires.ready c.requires.past) c.in-Run.is)

pub returns-in-Break : goal.returns-in-Break
returns-in-Break c =
    let mid = configuration c.take.new.m in
    arrives no_op _ _ _ _ c.take.ensures (c.go_on.ensures ∙ λ i. record mid { mode = Run; at = (c.behind.ensures i).start; end = (c.behind.ensures i).end }) (body_broken mid c.args.repeat c.args.end (popped (configuration c.args.m.now) mid (Body c.args.repeat c.args.end) c.take.ensures c.requires.ready c.requires.past) c.in-Break.is)

pub returns-in-Return : goal.returns-in-Return
returns-in-Return c =
    let mid = configuration c.take.new.m in
    arrives no_op _ _ _ _ c.take.ensures refl (body_passed mid c.args.repeat c.args.end (popped (configuration c.args.m.now) mid (Body c.args.repeat c.args.end) c.take.ensures c.requires.ready c.requires.past) c.in-Return.is)
