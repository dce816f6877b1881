-- The job that the words spell, and which jobs are built.
use Rattle.std.specs.Prelude.{◌≡◌, Bool, not, ◌&&◌, ◌==◌, if◌then◌else◌, is_some, List, Option, Some, None, String, map, string_bytes}
use Rattle.std.specs.Global.{Global}
use Rattle.osl_words.specs.Words.{job_of}
use Rattle.osl_words.specs.declared.job.Job.{Job}
use Rattle.osl_words.specs.declared.job.Job.TheVariants.{Shade, Oslc, Demo, DemoText}
use Rattle.osl_words.specs.declared.job.ShadeJob.{ShadeJob}

-- the job that these words spell, if they spell one
abbrev pub job_for : List (String Global) → Option Job
job_for words = job_of (map string_bytes words)

-- it has no edits, and what it would have with no option of each other kind
abbrev pub has_no_option : ShadeJob → Bool
has_no_option job = not (is_some job.edits) && (job.workers == 4) && (job.budget == 65536) && not job.settle && not job.serial && not job.from_oso

-- the job that is done, where it is built: `shade` with no option
abbrev pub built_of : Job → Option ShadeJob
built_of (Shade job) = if has_no_option job then Some job else None
built_of (Oslc input output) = None
built_of (Demo n) = None
built_of (DemoText n) = None

-- the words spell a job that is not built
abbrev pub IsUnbuilt : Option Job → Type 0
IsUnbuilt None = ⊥
IsUnbuilt (Some job) = built_of job ≡ None
