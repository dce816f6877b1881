use Rattle.std.proofs.Common.{refl}
use Rattle.osl_interp.specs.Meaning.{configuration}
use Rattle.osl_interp.proofs.Leaving.{not_run}
use Rattle.osl_interp.proofs.Sections.{layer_left}
use Rattle.osl_interp.proofs.leave.end_step.Goals as goal

pub returns-in-Break : goal.returns-in-Break
returns-in-Break c =
    let m = configuration c.args.m.now in
    (refl, layer_left m (not_run m.mode c.in-Break.is) c.requires.last)
