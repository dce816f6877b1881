use Rattle.osl_job.proofs.Verdicts.{some_verdict, one_verdict}
use Rattle.osl_job.proofs.laws.one_verdict.Goals as goal

pub returns-clause-some : goal.returns-clause-some
returns-clause-some c = some_verdict (record { some = c.one_shader_text.ensures.some; one = c.one_shader_text.ensures.one })

pub returns-clause-one : goal.returns-clause-one
returns-clause-one c = one_verdict (record { some = c.one_shader_text.ensures.some; one = c.one_shader_text.ensures.one })
