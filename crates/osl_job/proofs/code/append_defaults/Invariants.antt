use Rattle.osl_job.proofs.Ops.{DefaultsSoFar}
use Rattle.osl_job.proofs.code.append_defaults.Given as goal

abbrev pub invariant-loop-number : goal.invariant-loop-number
invariant-loop-number l = DefaultsSoFar l.params l.number l.fn.ops.items l.ops.items
