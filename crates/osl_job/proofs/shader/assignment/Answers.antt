use Rattle.osl_job.proofs.Tied.{assignment_tied}
use Rattle.osl_job.proofs.shader.assignment.Goals as goal

pub returns-clause-tied : goal.returns-clause-tied
returns-clause-tied c = assignment_tied _ _ c.in_ok-target.ensures.within c.in_ok-value.ensures.tied
