-- `demo N` and `demo-text N`, from 1 to 256
use Rattle.std.specs.Prelude.{ℕ, List, [], ◌∷◌, codes, Option, Some}
use Rattle.clap.specs.Words.{Row, Rule, Text}
use Rattle.osl_words.specs.Arguments.{◌>>=◌, required, given, number_in, matched, command_with}
use Rattle.osl_words.specs.Usage.{Usage}
use Rattle.osl_words.specs.declared.job.Job.TheVariants as job

abbrev pub size_in : List Row → Option ℕ
size_in rows = given (codes "n") rows >>= number_in 1 256

abbrev pub sized : List Rule
sized = required (codes "n") ∷ []

-- the N of the words
abbrev pub size_of : Text → List Text → Option ℕ
size_of name words = matched (command_with name sized) words >>= size_in

abbrev pub demo : Usage
demo = record { name = codes "demo"; arguments = sized; job = λ rows. size_in rows >>= (λ n. Some (job.Demo n)) }

abbrev pub demo_text : Usage
demo_text = record { name = codes "demo-text"; arguments = sized; job = λ rows. size_in rows >>= (λ n. Some (job.DemoText n)) }
