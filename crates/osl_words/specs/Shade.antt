-- `shade GROUP POINTS [--edits FILE] [--workers N] [--budget B] [--settle] [--serial] [--from osl|oso]`
use Rattle.std.specs.Prelude.{List, [], ◌∷◌, codes, Option, None, Some, Bool, true, false, if◌then◌else◌, ◌&&◌, ◌||◌, not, is_some}
use Rattle.std.specs.Option.{option_map_or}
use Rattle.std.specs.Str.{bytes_eq}
use Rattle.clap.specs.Words.{Row, Text}
use Rattle.osl_words.specs.Arguments.{◌>>=◌, required, option, flag, given, is_set, number_or}
use Rattle.osl_words.specs.Usage.{Usage}
use Rattle.osl_words.specs.declared.job.Job.{Job}
use Rattle.osl_words.specs.declared.job.Job.TheVariants as job

-- whether the shaders are oso texts; they are sources where nothing else is said
abbrev pub from_oso : Option Text → Option Bool
from_oso None = Some false
from_oso (Some text) =
    if bytes_eq text (codes "osl") then Some false else (if bytes_eq text (codes "oso") then Some true else None)

-- a file may not have the name of the flag, so that whether a job is serial can be told by looking for this word alone
abbrev pub names_flag : Text → Bool
names_flag text = bytes_eq text (codes "--serial")

-- the values go together: no file is named as the flag is, and one thread settles nothing and has no workers
abbrev pub agrees : Text → Text → Option Text → Bool → Bool → Bool → Bool
agrees group points edits has_workers settle serial =
    not (names_flag group || names_flag points || option_map_or names_flag edits false)
    && not (serial && (settle || has_workers))

abbrev pub shade_job : List Row → Option Job
shade_job rows = do
  group ← given (codes "group") rows
  points ← given (codes "points") rows
  workers ← number_or 4 1 16 (given (codes "workers") rows)
  budget ← number_or 65536 1 1000000 (given (codes "budget") rows)
  from_oso ← from_oso (given (codes "from") rows)
  let edits = given (codes "edits") rows
  let settle = is_set (codes "settle") rows
  let serial = is_set (codes "serial") rows
  if agrees group points edits (is_some (given (codes "workers") rows)) settle serial
      then Some (job.Shade (record {
        group = group;
        points = points;
        edits = edits;
        workers = workers;
        budget = budget;
        settle = settle;
        serial = serial;
        from_oso = from_oso;
      }))
      else None

abbrev pub shade : Usage
shade = record {
  name = codes "shade";
  arguments = required (codes "group") ∷ required (codes "points") ∷ option (codes "edits") ∷ option (codes "workers")
      ∷ option (codes "budget") ∷ flag (codes "settle") ∷ flag (codes "serial") ∷ option (codes "from") ∷ [];
  job = shade_job;
}
