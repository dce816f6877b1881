use Rattle.osl_job.proofs.Verdicts.{some_source, one_source}
use Rattle.osl_job.proofs.laws.one_shader_text.Goals as goal

pub returns-clause-some : goal.returns-clause-some
returns-clause-some c = some_source (record {
  some_reading = c.one_reading.ensures.some;
  one_reading = c.one_reading.ensures.one;
  is_read = c.spelled_is_read.ensures;
  spells = c.read_is_spelled.ensures;
})

pub returns-clause-one : goal.returns-clause-one
returns-clause-one c = one_source (record {
  some_reading = c.one_reading.ensures.some;
  one_reading = c.one_reading.ensures.one;
  is_read = c.spelled_is_read.ensures;
  spells = c.read_is_spelled.ensures;
})
