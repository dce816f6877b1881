use Rattle.osl_job.proofs.Ops.{BodySoFar}
use Rattle.osl_job.proofs.code.append_body.Given as goal

abbrev pub invariant-loop-assignment : goal.invariant-loop-assignment
invariant-loop-assignment l = BodySoFar l.body l.assignment-index l.fn.ops.items l.ops.items
