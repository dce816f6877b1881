-- What a job reads, in order, and what follows from each.
use Rattle.std.specs.Prelude.{◌≡◌, ◌<◌, ◌≤◌, ℕ, Bool, true, false, List, ◌++◌, length, codes, Option, Some, None, String}
use Rattle.std.specs.Global.{Global}
use Rattle.osl_store.specs.Files.{Files}
use Rattle.osl_job.specs.declared.small.SmallShader.{SmallShader}
use Rattle.osl_job.specs.SmallNames.{output_named}
use Rattle.osl_job.specs.declared.group.Group.{Group}
use Rattle.osl_words.specs.declared.job.Job.{Job}
use Rattle.osl_words.specs.declared.job.ShadeJob.{ShadeJob}
use Rattle.osl_job.specs.declared.report.Refusal.{Refusal}
use Rattle.osl_job.specs.declared.report.Refusal.TheVariants as why
use Rattle.osl_job.specs.declared.shader_text.ShaderText.{ShaderText}
use Rattle.osl_job.specs.declared.shader_text.ShaderText.TheVariants.{NoTokens, NoTree, NoTyping, NotBuilt, Shader}
use Rattle.osl_job.specs.GroupText.{small_group, is_one_point}
use Rattle.osl_job.specs.ShaderTexts.{IsShaderText}
use Rattle.osl_job.specs.Verdict.{AcceptedJob, Verdict, Refused, Accepted}
use Rattle.osl_job.specs.Jobs.{job_for, built_of}

-- A job reads a file of at most so many bytes and goes on with them; or it goes on with what a source's text is; or its verdict is settled.
pub data Plan : Type 0 where
  Read : (name : List ℕ) (limit : ℕ) → (List ℕ → Plan) → Plan
  Judge : (text : List ℕ) → (ShaderText → Plan) → Plan
  Settled : Verdict → Plan

-- ---- what becomes of a plan over given files

-- The verdict on a plan: a file that is absent or too large is refused.
pub data IsVerdict (files : Files) : Plan → Verdict → Type 0 where
  settled : (v : Verdict) → IsVerdict files (Settled v) v
  absent : (name : List ℕ) (limit : ℕ) (next : List ℕ → Plan)
      → files name ≡ None
      → IsVerdict files (Read name limit next) (Refused why.Absent (name ++ codes ": absent"))
  too_large : (name bytes : List ℕ) (limit : ℕ) (next : List ℕ → Plan)
      → files name ≡ Some bytes → limit < length bytes
      → IsVerdict files (Read name limit next) (Refused why.TooLarge (name ++ codes ": too large"))
  read : (name bytes : List ℕ) (limit : ℕ) (next : List ℕ → Plan) (v : Verdict)
      → files name ≡ Some bytes → length bytes ≤ limit → IsVerdict files (next bytes) v
      → IsVerdict files (Read name limit next) v
  judged : (text : List ℕ) (source : ShaderText) (next : ShaderText → Plan) (v : Verdict)
      → IsShaderText text source → IsVerdict files (next source) v
      → IsVerdict files (Judge text next) v

-- The plan comes to read this file: no file that it reads before, and no source, is refused.
pub data ComesToRead (files : Files) (name : List ℕ) : Plan → Type 0 where
  first : (limit : ℕ) (next : List ℕ → Plan) → ComesToRead files name (Read name limit next)
  later : (other bytes : List ℕ) (limit : ℕ) (next : List ℕ → Plan)
      → files other ≡ Some bytes → length bytes ≤ limit → ComesToRead files name (next bytes)
      → ComesToRead files name (Read other limit next)
  judged : (text : List ℕ) (source : ShaderText) (next : ShaderText → Plan)
      → IsShaderText text source → ComesToRead files name (next source)
      → ComesToRead files name (Judge text next)

-- ---- the plan of each job

-- a source or a group text
abbrev pub source_limit : ℕ
source_limit = 1048576

abbrev pub point_limit : ℕ
point_limit = 16777216

-- a file is refused: its name and then this are printed
abbrev pub file_refused : Refusal → List ℕ → List ℕ → Plan
file_refused why name text = Settled (Refused why (name ++ text))

abbrev pub file_not_built : List ℕ → Plan
file_not_built name = file_refused why.NotBuilt name (codes ": not built")

-- the file of a shader
abbrev pub source_name : List ℕ → List ℕ
source_name shader = shader ++ codes ".osl"

-- the points are read last
abbrev pub after_points : (point_file : List ℕ) → AcceptedJob → Bool → Plan
after_points point_file job true = Settled (Accepted job)
after_points point_file job false = file_not_built point_file

-- The asked parameter is an output of the shader, or the group is not built; then the points are read.
abbrev pub after_output : (group_file point_file : List ℕ) → Group → SmallShader → Option ℕ → Plan
after_output group_file point_file group shader None = file_not_built group_file
after_output group_file point_file group shader (Some output) =
    Read point_file point_limit (λ text.
    after_points point_file (record { shader = shader; layer = group.layer; param = group.param; output = output }) (is_one_point text))

-- A source is refused at the stage that it does not pass, `lex`, `syntax` or `types`.
abbrev pub after_source : (group_file point_file : List ℕ) → Group → ShaderText → Plan
after_source group_file point_file group NoTokens = file_refused why.Shader (source_name group.shader) (codes ": lex")
after_source group_file point_file group NoTree = file_refused why.Shader (source_name group.shader) (codes ": syntax")
after_source group_file point_file group NoTyping = file_refused why.Shader (source_name group.shader) (codes ": types")
after_source group_file point_file group NotBuilt = file_not_built (source_name group.shader)
after_source group_file point_file group (Shader shader) = after_output group_file point_file group shader (output_named shader.params group.param)

abbrev pub after_group : (group_file point_file : List ℕ) → Option Group → Plan
after_group group_file point_file None = file_not_built group_file
after_group group_file point_file (Some group) =
    Read (source_name group.shader) source_limit (λ text. Judge text (after_source group_file point_file group))

-- `shade` reads the group, its shader, and the points.
abbrev pub shade_plan : (group_file point_file : List ℕ) → Plan
shade_plan group_file point_file = Read group_file source_limit (λ text. after_group group_file point_file (small_group text))

abbrev pub plan_of_built : Option ShadeJob → Plan
plan_of_built None = Settled (Refused why.NotBuilt (codes "not built"))
plan_of_built (Some job) = shade_plan job.group job.points

abbrev pub plan_of : Option Job → Plan
plan_of None = Settled (Refused why.Usage (codes "usage"))
plan_of (Some job) = plan_of_built (built_of job)

-- the plan of the job that the words spell
abbrev pub plan_for : List (String Global) → Plan
plan_for words = plan_of (job_for words)
