use Rattle.osl_interp.specs.Meaning.{configuration}
use Rattle.osl_interp.specs.Advances.{one_op}
use Rattle.std.proofs.Common.{refl}
use Rattle.osl_interp.proofs.Acting.{loop_tested}
use Rattle.osl_interp.proofs.Frames.{arrives}
use Rattle.osl_interp.proofs.ops.test_first.Goals as goal

pub returns : goal.returns
returns c =
    arrives one_op _ _ _ _ refl c.in_ok-enter.ensures (loop_tested (configuration c.args.m.now) c.args.repeat (record { ready = c.requires.ready; runs = c.requires.runs; inside = c.requires.inside; op = c.requires.op }))
