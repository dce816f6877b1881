-- What is said of a job over given files, and what it may print.
use Rattle.std.specs.Prelude.{◌≡◌, ℕ, List, ◌++◌, codes}
use Rattle.osl_decimal.specs.Canonical.{fx_text}
use Rattle.osl_job.specs.declared.small.SmallShader.{SmallShader}
use Rattle.osl_job.specs.SmallRun.{small_run}
use Rattle.osl_job.specs.declared.report.Refusal.{Refusal}
use Rattle.osl_job.specs.Status.{done, refusal_code}

-- a `shade` job that is done: its shader, the layer's name, and the asked parameter with its number
pub record AcceptedJob : Type 0 where
  pub shader : SmallShader
  pub layer : List ℕ
  pub param : List ℕ
  pub output : ℕ

-- The job is refused, with the line that is printed, or it is accepted.
pub data Verdict : Type 0 where
  Refused : Refusal → List ℕ → Verdict
  Accepted : AcceptedJob → Verdict

-- the status of a run that nothing cuts short
abbrev pub status_of : Verdict → ℕ
status_of (Refused why text) = refusal_code why
status_of (Accepted job) = done

abbrev pub line : List ℕ → List ℕ
line text = text ++ codes "\n"

-- the line of an asked output
abbrev pub out_line : AcceptedJob → List ℕ
out_line job = codes " out " ++ job.layer ++ codes "." ++ job.param ++ codes " " ++ fx_text (small_run job.shader job.output)

-- What is printed of an accepted job: the freeze before any edit, the one point with its output, and the end.
abbrev pub out_text : AcceptedJob → List ℕ
out_text job = line (codes "freeze 0") ++ line (codes "point 0 worker 0 after 0") ++ line (out_line job) ++ line (codes "end")

-- a text that the job may print; today there is one
abbrev pub IsOutText : AcceptedJob → List ℕ → Type 0
IsOutText job text = text ≡ out_text job
