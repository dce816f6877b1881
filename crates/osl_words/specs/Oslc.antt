-- `oslc IN OUT`
use Rattle.std.specs.Prelude.{List, [], ◌∷◌, codes, Option, Some}
use Rattle.clap.specs.Words.{Row}
use Rattle.osl_words.specs.Arguments.{◌>>=◌, required, given}
use Rattle.osl_words.specs.Usage.{Usage}
use Rattle.osl_words.specs.declared.job.Job.{Job}
use Rattle.osl_words.specs.declared.job.Job.TheVariants as job

abbrev pub oslc_job : List Row → Option Job
oslc_job rows = do
  input ← given (codes "in") rows
  output ← given (codes "out") rows
  Some (job.Oslc input output)

abbrev pub oslc : Usage
oslc = record {
  name = codes "oslc";
  arguments = required (codes "in") ∷ required (codes "out") ∷ [];
  job = oslc_job;
}
