use Rattle.osl_interp.specs.Meaning.{configuration}
use Rattle.osl_interp.specs.Advances.{one_op}
use Rattle.std.proofs.Common.{refl}
use Rattle.osl_interp.proofs.Acting.{call_entered}
use Rattle.osl_interp.proofs.Frames.{arrives}
use Rattle.osl_interp.proofs.ops.call.Goals as goal

pub returns : goal.returns
returns c =
    arrives one_op _ _ _ _ refl c.in_ok-enter.ensures (call_entered (configuration c.args.m.now) c.args.body (record { ready = c.requires.ready; runs = c.requires.runs; inside = c.requires.inside; op = c.requires.op }))
