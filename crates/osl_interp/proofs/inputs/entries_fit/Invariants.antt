use Rattle.osl_interp.specs.Starts.{FitTo}
use Rattle.osl_interp.proofs.inputs.entries_fit.Given as goal

abbrev pub invariant-loop-k : goal.invariant-loop-k
invariant-loop-k l = FitTo l.k l.symbols l.wired l.fixed
