use Rattle.std.proofs.Common.{◌≡◌, length}
use Rattle.osl_network.specs.Points.{are_distinct}
use Rattle.osl_network.proofs.variables.are_distinct.Given as goal

-- what is left decides
abbrev pub invariant-loop-rest : goal.invariant-loop-rest
invariant-loop-rest l = are_distinct l.vars ≡ are_distinct l.rest

abbrev pub decreases-loop-rest : goal.decreases-loop-rest
decreases-loop-rest l = length l.rest
