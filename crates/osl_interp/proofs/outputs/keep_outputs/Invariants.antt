use Rattle.osl_interp.proofs.Outcomes.{Kept}
use Rattle.osl_interp.proofs.outputs.keep_outputs.Given as goal

abbrev pub invariant-loop-k : goal.invariant-loop-k
invariant-loop-k l = Kept l.symbols l.initial.slots l.slots l.k
