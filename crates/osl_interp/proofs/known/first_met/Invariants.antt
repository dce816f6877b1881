use Rattle.std.proofs.Common.{◌≡◌, drop}
use Rattle.osl_interp.specs.Known.{met}
use Rattle.osl_interp.proofs.known.first_met.Given as goal

abbrev pub invariant-loop-k : goal.invariant-loop-k
invariant-loop-k l = met l.known (drop l.k-index l.sources) ≡ met l.known l.sources
