-- How a command is used.
use Rattle.std.specs.Prelude.{List, Option}
use Rattle.clap.specs.Words.{Row, Rule, Text}
use Rattle.osl_words.specs.Arguments.{◌>>=◌, command_with, matched}
use Rattle.osl_words.specs.declared.job.Job.{Job}

-- the word that names it, the arguments after that word, and the job that their values ask for
pub record Usage : Type 0 where
  pub name : Text
  pub arguments : List Rule
  pub job : List Row → Option Job

-- the job that the words ask for, where the first names this command
abbrev pub asked : Usage → List Text → Option Job
asked usage words = matched (command_with usage.name usage.arguments) words >>= usage.job
