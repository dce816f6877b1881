-- Which job the words of the command line ask for.
use Rattle.std.specs.Prelude.{List, [], ◌∷◌, Option, None, Bool, find, drop}
use Rattle.std.specs.List.{list_any}
use Rattle.std.specs.Str.{bytes_eq}
use Rattle.clap.specs.Words.{Text}
use Rattle.osl_words.specs.Arguments.{◌>>=◌}
use Rattle.osl_words.specs.Usage.{Usage, asked}
use Rattle.osl_words.specs.Shade.{shade}
use Rattle.osl_words.specs.Oslc.{oslc}
use Rattle.osl_words.specs.Demo.{demo, demo_text}
use Rattle.osl_words.specs.declared.job.Job.{Job}

-- the commands
abbrev pub commands : List Usage
commands = shade ∷ oslc ∷ demo ∷ demo_text ∷ []

-- the first word names the command, which says what the words ask for
abbrev pub job_of : List Text → Option Job
job_of [] = None
job_of (name ∷ words) = find (λ usage. bytes_eq name usage.name) commands >>= (λ usage. asked usage (name ∷ words))

-- a text is among these words
abbrev pub is_among : Text → List Text → Bool
is_among text words = list_any (bytes_eq text) words

-- the words after the first
abbrev pub later : List Text → List Text
later words = drop 1 words
