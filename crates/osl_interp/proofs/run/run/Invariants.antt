use Rattle.osl_interp.specs.Advances.{work}
use Rattle.osl_interp.specs.Stops.{Goes}
use Rattle.osl_interp.specs.Meaning.{configuration}
use Rattle.osl_interp.proofs.run.run.Given as goal

abbrev pub invariant-steps : goal.invariant-steps
invariant-steps g l = Goes (configuration l.initial.m) (configuration l.m) l.initial.ops l.ops

abbrev pub decreases-steps : goal.decreases-steps
decreases-steps g l = work (configuration l.m)
