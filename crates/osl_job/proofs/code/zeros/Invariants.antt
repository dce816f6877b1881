use Rattle.osl_job.specs.SmallRun.{zeros}
use Rattle.osl_job.specs.Code.{Holds}
use Rattle.osl_job.proofs.code.zeros.Given as goal

abbrev pub invariant-loop-number : goal.invariant-loop-number
invariant-loop-number l = Holds zeros l._number l.values.items
