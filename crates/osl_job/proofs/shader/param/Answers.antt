use Rattle.osl_job.proofs.Tied.{one_tied}
use Rattle.osl_job.proofs.shader.param.Goals as goal

pub returns-clause-tied : goal.returns-clause-tied
returns-clause-tied c n = one_tied n c.in_ok-value.value
