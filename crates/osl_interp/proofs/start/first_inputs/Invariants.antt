use Rattle.std.proofs.Common.{◌≡◌, ◌++◌, drop}
use Rattle.osl_interp.specs.Starts.{knowns}
use Rattle.osl_interp.proofs.start.first_inputs.Given as goal

abbrev pub invariant-loop-k : goal.invariant-loop-k
invariant-loop-k l = l.inputs.items ++ knowns (drop l.k l.wired) (drop l.k l.fixed) ≡ knowns l.wired l.fixed
