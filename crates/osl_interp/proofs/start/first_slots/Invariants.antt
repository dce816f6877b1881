use Rattle.osl_interp.proofs.Starting.{FirstTo}
use Rattle.osl_interp.proofs.start.first_slots.Given as goal

abbrev pub invariant-loop-k : goal.invariant-loop-k
invariant-loop-k l = FirstTo l.symbols l.wired l.fixed l.point l.slots.items l.k
