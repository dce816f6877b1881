-- What the contract of a top call says, in named facts.
use Rattle.std.specs.Prelude.{◌≡◌, ◌≢◌, ◌≤◌, ℕ, List, ◌++◌, length, codes, Some, Vec}
use Rattle.std.specs.Global.{Global}
use Rattle.std.specs.List.{flat_map}
use Rattle.osl_store.specs.Counts.{Rose, NoneFell}
use Rattle.osl_store.specs.Files.{Files}
use Rattle.osl_store.specs.Views.{StoreView, SinkView, Tells, SameFiles, StaysFaultless}
use Rattle.osl_store.specs.Written.{Wrote, WroteFront}
use Rattle.osl_job.specs.declared.report.Refusal.{Refusal}
use Rattle.osl_job.specs.declared.report.ExitStatus.TheVariants as status
use Rattle.osl_job.specs.declared.report.Report.{Report}
use Rattle.osl_job.specs.declared.steps.Fetched.{Fetched}
use Rattle.osl_job.specs.declared.steps.Fetched.TheVariants.{Bytes, Stops}
use Rattle.osl_job.specs.Status.{code_of, refusal_code, done, usage, file_absent, read_fault, file_too_large}
use Rattle.osl_job.specs.Verdict.{AcceptedJob, Verdict, Refused, Accepted, IsOutText, status_of, line}
use Rattle.osl_job.specs.Plan.{Plan, Read, IsVerdict, ComesToRead}

-- ---- the texts of a run

-- the job is accepted, and this is a text that it may print
pub record IsDone (plan : Plan) (files : Files) (text : List ℕ) : Type 0 where
  pub job : AcceptedJob
  pub accepted : IsVerdict files plan (Accepted job)
  pub shown : IsOutText job text

-- the job is refused for this reason, and this is the line
pub record IsRefusal (why : Refusal) (plan : Plan) (files : Files) (text : List ℕ) : Type 0 where
  pub refusal : List ℕ
  pub refused : IsVerdict files plan (Refused why refusal)
  pub wrote : text ≡ line refusal

-- a file that the job comes to read could not be read, and this is the line
pub record IsReadFault (plan : Plan) (files : Files) (text : List ℕ) : Type 0 where
  pub name : List ℕ
  pub reads : ComesToRead files name plan
  pub wrote : text ≡ line (name ++ codes ": read fault")

-- the status and the text of a run that nothing cuts short
pub data IsReport (plan : Plan) (files : Files) (status : ℕ) (text : List ℕ) : Type 0 where
  is_done : status ≡ done → IsDone plan files text → IsReport plan files status text
  is_refused : (why : Refusal) → status ≡ refusal_code why → IsRefusal why plan files text → IsReport plan files status text
  is_fault : status ≡ read_fault → IsReadFault plan files text → IsReport plan files status text

-- a text of the job: what it may print, or the line of a refusal, or that of a read that failed, where the count of those rose
pub record IsText (before now : StoreView) (plan : Plan) (files : Files) (text : List ℕ) : Type 0 where
  pub status : ℕ
  pub report : IsReport plan files status text
  pub read_fault : status ≡ read_fault → Rose before.counts.faults now.counts.faults

-- this is the status of the job's verdict
pub record IsStatus (plan : Plan) (files : Files) (status : ℕ) : Type 0 where
  pub verdict : Verdict
  pub judged : IsVerdict files plan verdict
  pub is : status ≡ status_of verdict

-- ---- over told files, and what is written

-- a fact over the files that the store tells, where it tells all
abbrev pub OverTold : StoreView → (Files → Type 0) → Type 0
OverTold store P = (files : Files) → Tells store files → P files

-- over told files, exactly a text of this kind was written
abbrev pub Prints : (Plan → Files → List ℕ → Type 0) → Plan → StoreView → SinkView → SinkView → Type 0
Prints IsKind plan store before now = OverTold store (λ files. (text : List ℕ) × IsKind plan files text × Wrote before now text)

-- over told files, a front of a text of this kind was written
abbrev pub PrintsFront : (Plan → Files → List ℕ → Type 0) → Plan → StoreView → SinkView → SinkView → Type 0
PrintsFront IsKind plan store before now = OverTold store (λ files. (text : List ℕ) × IsKind plan files text × WroteFront before now text)

-- ---- which counts rose

-- which count of the store rose, where the status says that one did
pub record HasCause (status : ℕ) (before now : StoreView) : Type 0 where
  pub absent : status ≡ file_absent → Rose before.counts.absents now.counts.absents
  pub read_fault : status ≡ read_fault → Rose before.counts.faults now.counts.faults
  pub large : status ≡ file_too_large → Rose before.counts.larges now.counts.larges

-- no count of faults rose
pub record NoFaultRose (before now : StoreView) (sink_before sink_now : SinkView) : Type 0 where
  pub reads : Rose before.counts.faults now.counts.faults → ⊥
  pub writes : Rose before.counts.write_faults now.counts.write_faults → ⊥
  pub puts : Rose sink_before.faults sink_now.faults → ⊥

-- what reading leaves of a store
pub record OnlyRead (before now : StoreView) : Type 0 where
  pub files : SameFiles before now
  pub later : NoneFell before.counts now.counts
  pub faultless : StaysFaultless before now

-- ---- reports

-- the text of lines
abbrev pub text_of : List (Vec ℕ Global) → List ℕ
text_of = flat_map (λ l. l.items)

-- what is left of a job comes to this report
abbrev pub ComesTo : Plan → Files → Report → Type 0
ComesTo plan files r = IsReport plan files (code_of r.status) (text_of r.lines.items)

-- what a step of a job answers: the report of what is left of it, with its cause
pub record Reports (plan : Plan) (before now : StoreView) (r : Report) : Type 0 where
  pub report : OverTold before (λ files. ComesTo plan files r)
  pub cause : HasCause (code_of r.status) before now
  pub usage : code_of r.status ≢ usage

-- this report is this refusal
pub record IsRefused (why : Refusal) (text : List ℕ) (r : Report) : Type 0 where
  pub status : r.status ≡ status.Refused why
  pub wrote : text_of r.lines.items ≡ line text

-- what a fetch of a file gives: its bytes, or the report of any job that begins by reading it
abbrev pub Fetches : List ℕ → ℕ → Files → Fetched → Type 0
Fetches name limit files (Bytes bytes) = files name ≡ Some bytes.items
Fetches name limit files (Stops r) = (next : List ℕ → Plan) → ComesTo (Read name limit next) files r

-- the bytes that a fetch gives are within the limit
abbrev pub FetchesWithin : ℕ → Fetched → Type 0
FetchesWithin limit (Bytes bytes) = length bytes.items ≤ limit
FetchesWithin limit (Stops r) = Unit {0}

-- a fetch that ends the job has its cause
abbrev pub FetchHasCause : StoreView → StoreView → Fetched → Type 0
FetchHasCause before now (Bytes bytes) = Unit {0}
FetchHasCause before now (Stops r) = HasCause (code_of r.status) before now × (code_of r.status ≢ usage)

-- this report shows an accepted job
pub record IsShown (job : AcceptedJob) (r : Report) : Type 0 where
  pub status : r.status ≡ status.Done
  pub wrote : IsOutText job (text_of r.lines.items)
