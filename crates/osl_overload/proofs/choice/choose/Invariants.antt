-- The standing is that of the candidates that were passed.
use Rattle.osl_overload.specs.Choice.{cost_at}
use Rattle.osl_overload.proofs.Least.{Says}
use Rattle.osl_overload.proofs.choice.choose.Given as goal

abbrev pub invariant-loop-i : goal.invariant-loop-i
invariant-loop-i l = Says (cost_at l.candidates l.args) l.i l.standing
