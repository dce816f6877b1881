use Rattle.osl_interp.specs.Calls.{MayGo}
use Rattle.oso_tests.proofs.runs.finish.Given as goal

abbrev pub invariant-loop-turn : goal.invariant-loop-turn
invariant-loop-turn g l = MayGo l.run.status
