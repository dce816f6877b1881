-- The numbers that the program ends with.
use Rattle.std.specs.Prelude.{◌≡◌, ◌⊎◌, ℕ}
use Rattle.osl_job.specs.declared.report.Refusal.{Refusal}
use Rattle.osl_job.specs.declared.report.Refusal.TheVariants.{Usage, Shader, Absent, TooLarge, NotBuilt}
use Rattle.osl_job.specs.declared.report.ExitStatus.{ExitStatus}
use Rattle.osl_job.specs.declared.report.ExitStatus.TheVariants.{Done, Refused, ReadFault}

abbrev pub done : ℕ
done = 0

abbrev pub usage : ℕ
usage = 2

abbrev pub shader_refused : ℕ
shader_refused = 3

abbrev pub file_absent : ℕ
file_absent = 6

abbrev pub read_fault : ℕ
read_fault = 7

abbrev pub write_fault : ℕ
write_fault = 8

abbrev pub out_of_memory : ℕ
out_of_memory = 9

abbrev pub file_too_large : ℕ
file_too_large = 10

abbrev pub not_built : ℕ
not_built = 11

-- the status of a refusal
abbrev pub refusal_code : Refusal → ℕ
refusal_code Usage = usage
refusal_code Shader = shader_refused
refusal_code Absent = file_absent
refusal_code TooLarge = file_too_large
refusal_code NotBuilt = not_built

abbrev pub code_of : ExitStatus → ℕ
code_of Done = done
code_of (Refused why) = refusal_code why
code_of ReadFault = read_fault

-- a put or an allocation failed before the run was at its end
abbrev pub IsCutShort : ℕ → Type 0
IsCutShort status = (status ≡ write_fault) ⊎ (status ≡ out_of_memory)

-- the statuses that there are
pub data IsExitStatus (status : ℕ) : Type 0 where
  whole : (s : ExitStatus) → status ≡ code_of s → IsExitStatus status
  cut_short : IsCutShort status → IsExitStatus status

-- a run ends with this status exactly where this holds, unless it is cut short
pub record ComesExactly (status result : ℕ) (Holds : Type 0) : Type 0 where
  pub only : result ≡ status → Holds
  pub always : Holds → (result ≡ status) ⊎ IsCutShort result
