use Rattle.osl_job.proofs.Tied.{var_tied, const_tied}
use Rattle.osl_job.proofs.shader.operand_of.Goals as goal

pub returns-in-Some-clause-tied : goal.returns-in-Some-clause-tied
returns-in-Some-clause-tied c = var_tied _ c.in_ok-number.number c.in_ok-number.ensures.within

pub returns-clause-tied : goal.returns-clause-tied
returns-clause-tied c = const_tied _ c.in_ok-value.value
