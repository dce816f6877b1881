-- How the steps of a job make its report.
use Rattle.std.proofs.Common.{◌≡◌, ◌≢◌, ◌≤◌, ◌<◌, ◌+◌, ℕ, List, [], ◌∷◌, ◌++◌, length, take, drop, get_or, Option, Some, None, Err, refl, ap, sym, ◌∙◌, arith, add-one, Vec, subst, inl, inr}
use Rattle.std.specs.Prelude.{codes, ◌==◌, if◌then◌else◌}
use Rattle.std.specs.Borrow.{Bor}
use Rattle.std.specs.Global.{Global}
use Rattle.std.specs.Option.{option_map}
use Rattle.std.proofs.lemmas.List.{take-append-drop}
use Rattle.std.proofs.lemmas.Grind.{flat_map-append}
use Rattle.std.proofs.Math.Seq.{drop-cons}
use Rattle.osl_store.specs.Counts.{Counts, NoneFell, Rose}
use Rattle.osl_store.specs.Files.{IsLonger, IsMissing, Files}
use Rattle.osl_store.specs.Views.{StoreView, SinkView, StaysFaultless}
use Rattle.osl_store.specs.Written.{Wrote, WroteFront, WroteNothing, Puts}
use Rattle.osl_store.specs.declared.PutError.{PutError}
use Rattle.osl_store.specs.declared.PutError.TheVariants.{Fault, Memory}
use Rattle.osl_job.specs.declared.report.Refusal.{Refusal}
use Rattle.osl_job.specs.declared.report.Refusal.TheVariants as why
use Rattle.osl_job.specs.declared.report.ExitStatus.TheVariants as status
use Rattle.osl_job.specs.declared.report.Report.{Report}
use Rattle.osl_job.specs.declared.steps.Fetched.{Fetched}
use Rattle.osl_job.specs.declared.steps.Fetched.TheVariants.{Bytes, Stops}
use Rattle.osl_job.specs.Status.{code_of, refusal_code}
use Rattle.osl_job.specs.Verdict.{AcceptedJob, out_text, Verdict, Refused, Accepted, line}
use Rattle.osl_job.specs.declared.small.Param.{Param}
use Rattle.osl_job.specs.declared.small.SmallShader.{SmallShader}
use Rattle.osl_job.specs.SmallNames.{output_named}
use Rattle.osl_job.specs.declared.text.ReadStop.{ReadStop}
use Rattle.osl_job.specs.declared.text.ReadStop.TheVariants as stops
use Rattle.osl_job.specs.Reader.{ReadsWhole}
use Rattle.osl_job.specs.declared.group.Group.{Group}
use Rattle.osl_words.specs.declared.job.Job.{Job}
use Rattle.osl_words.specs.declared.job.ShadeJob.{ShadeJob}
use Rattle.osl_job.specs.Jobs.{built_of}
use Rattle.osl_job.specs.declared.shader_text.ShaderText.{ShaderText}
use Rattle.osl_job.specs.ShaderTexts.{IsShaderText}
use Rattle.osl_job.specs.Plan.{after_output, plan_of, plan_of_built, Plan, Read, Judge, Settled, IsVerdict, ComesToRead}
use Rattle.osl_job.specs.Plan as plans
use Rattle.osl_job.specs.Run.{text_of, IsDone, IsRefusal, IsReadFault, IsReport, is_done, is_refused, is_fault, IsText, IsStatus, PrintsFront, OverTold, ComesTo, Reports, IsRefused, IsShown, Fetches, FetchesWithin, FetchHasCause, HasCause, OnlyRead}

-- ---- printing

-- a put that failed leaves a front of the whole text
pub front_of_err : (first next last : SinkView) (a b c : List ℕ) (e : PutError)
    → (WroteFront next last b → WroteFront first last (a ++ (b ++ c))) → (WroteNothing next last → WroteFront first last (a ++ (b ++ c)))
    → Puts {T = Unit {0}} next last b (Err e) → WroteFront first last (a ++ (b ++ c))
front_of_err first next last a b c Fault front unwritten puts = front puts
front_of_err first next last a b c Memory front unwritten puts = unwritten puts

pub text_of-split : (lines : List (Vec ℕ Global)) (i : ℕ) (x : Vec ℕ Global) → i < length lines → x ≡ get_or lines i x
    → text_of lines ≡ text_of (take i lines) ++ (x.items ++ text_of (drop (i + 1) lines))
text_of-split lines i x h is =
    let cut : drop i lines ≡ x ∷ drop (i + 1) lines = rw add-one (drop-cons lines i x h) ∙ ap (λ y. y ∷ drop (i + 1) lines) (sym is) in
    ap text_of (sym (take-append-drop i lines) ∙ ap (λ l. take i lines ++ l) cut)
    ∙ flat_map-append (λ l. l.items) (take i lines) (x ∷ drop (i + 1) lines)

-- the statuses of refusals are no others
code_range : (w : Refusal) → (refusal_code w ≢ 0) × (refusal_code w ≢ 7)
code_range why.Usage = (λ e. omega arith, λ e. omega arith)
code_range why.Shader = (λ e. omega arith, λ e. omega arith)
code_range why.Absent = (λ e. omega arith, λ e. omega arith)
code_range why.TooLarge = (λ e. omega arith, λ e. omega arith)
code_range why.NotBuilt = (λ e. omega arith, λ e. omega arith)

-- nothing is a front of each text
pub nothing_written : (plan : Plan) (before now : StoreView) (sink : SinkView) → Wrote sink sink [] → ((plan : Plan) (files : Files) → (v : Verdict) × IsVerdict files plan v)
    → PrintsFront (IsText before now) plan before sink sink
nothing_written plan before now sink nothing some_verdict files tells = let found = some_verdict plan files in some_text found.0 found.1
  where
    some_text : (v : Verdict) → IsVerdict files plan v → (text : List ℕ) × IsText before now plan files text × WroteFront sink sink text
    some_text (Refused w text) is =
        let report = is_refused w refl (record { refusal = text; refused = is; wrote = refl }) in
        (line text, record { status = refusal_code w; report = report; read_fault = λ e. absurd ((code_range w).1 e) }, (0, omega arith, nothing))
    some_text (Accepted job) is =
        let report = is_done refl (record { job = job; accepted = is; shown = refl }) in
        (out_text job, record { status = 0; report = report; read_fault = λ e. absurd (omega (arith, e)) }, (0, omega arith, nothing))

-- ---- one step

pub settled_refused : (w : Refusal) (text : List ℕ) (files : Files) (r : Report) → IsRefused w text r → ComesTo (Settled (Refused w text)) files r
settled_refused w text files r is = is_refused w (ap code_of is.status) (record { refusal = text; refused = plans.settled (Refused w text); wrote = is.wrote })

pub settled_accepted : (job : AcceptedJob) (files : Files) (r : Report) → IsShown job r → ComesTo (Settled (Accepted job)) files r
settled_accepted job files r is = is_done (ap code_of is.status) (record { job = job; accepted = plans.settled (Accepted job); shown = is.wrote })

-- a report of what is left of a plan is one of the plan
same_report : (plan rest : Plan) (files : Files) (s : ℕ) (text : List ℕ) → ((v : Verdict) → IsVerdict files rest v → IsVerdict files plan v)
    → ((name : List ℕ) → ComesToRead files name rest → ComesToRead files name plan) → IsReport rest files s text → IsReport plan files s text
same_report plan rest files s text judges reads (is_done a b) = is_done a (record { job = b.job; accepted = judges (Accepted b.job) b.accepted; shown = b.shown })
same_report plan rest files s text judges reads (is_refused w a b) = is_refused w a (record { refusal = b.refusal; refused = judges (Refused w b.refusal) b.refused; wrote = b.wrote })
same_report plan rest files s text judges reads (is_fault a b) = is_fault a (record { name = b.name; reads = reads b.name b.reads; wrote = b.wrote })

pub read_on : (name bytes : List ℕ) (limit : ℕ) (next : List ℕ → Plan) (files : Files) (r : Report) → files name ≡ Some bytes → length bytes ≤ limit → ComesTo (next bytes) files r → ComesTo (Read name limit next) files r
read_on name bytes limit next files r e h c =
    same_report (Read name limit next) (next bytes) files (code_of r.status) (text_of r.lines.items)
    (λ v is. plans.read name bytes limit next v e h is) (λ other reads. plans.later name bytes limit next e h reads) c

judge_on : (text : List ℕ) (source : ShaderText) (next : ShaderText → Plan) (files : Files) (r : Report) → IsShaderText text source → ComesTo (next source) files r → ComesTo (Judge text next) files r
judge_on text source next files r is c =
    same_report (Judge text next) (next source) files (code_of r.status) (text_of r.lines.items)
    (λ v q. plans.judged text source next v is q) (λ other reads. plans.judged text source next is reads) c

pub read_absent : (name : List ℕ) (limit : ℕ) (files : Files) (r : Report) → files name ≡ None → IsRefused why.Absent (name ++ codes ": absent") r → Fetches name limit files (Stops r)
read_absent name limit files r e is next =
    is_refused why.Absent (ap code_of is.status) (record { refusal = name ++ codes ": absent"; refused = plans.absent name limit next e; wrote = is.wrote })

pub read_large : (name : List ℕ) (limit : ℕ) (files : Files) (r : Report) → IsLonger (Some (files name)) limit → IsRefused why.TooLarge (name ++ codes ": too large") r → Fetches name limit files (Stops r)
read_large name limit files r long is next =
    is_refused why.TooLarge (ap code_of is.status)
    (record { refusal = name ++ codes ": too large"; refused = plans.too_large name long.0 limit next long.1 long.2; wrote = is.wrote })

pub read_failed : (name : List ℕ) (limit : ℕ) (files : Files) (r : Report) → r.status ≡ status.ReadFault → text_of r.lines.items ≡ line (name ++ codes ": read fault") → Fetches name limit files (Stops r)
read_failed name limit files r e w next = is_fault (ap code_of e) (record { name = name; reads = plans.first limit next; wrote = w })

-- ---- steps behind one another

pub rose_later : (a b c : ℕ) → a ≤ b → Rose b c → Rose a c
rose_later a b c h (inl more) = inl (omega (arith, h, more))
rose_later a b c h (inr end) = inr end

pub cause_later : (s : ℕ) (before mid now : StoreView) → NoneFell before.counts mid.counts → HasCause s mid now → HasCause s before now
cause_later s before mid now l c = record {
  absent = λ e. rose_later before.counts.absents mid.counts.absents now.counts.absents l.absents (c.absent e);
  read_fault = λ e. rose_later before.counts.faults mid.counts.faults now.counts.faults l.faults (c.read_fault e);
  large = λ e. rose_later before.counts.larges mid.counts.larges now.counts.larges l.larges (c.large e);
}

pub none_fell_then : (a b c : Counts) → NoneFell a b → NoneFell b c → NoneFell a c
none_fell_then a b c p q = record {
  absents = omega (arith, p.absents, q.absents);
  larges = omega (arith, p.larges, q.larges);
  faults = omega (arith, p.faults, q.faults);
  write_faults = omega (arith, p.write_faults, q.write_faults);
}

pub faultless_then : (a b c : StoreView) → StaysFaultless a b → StaysFaultless b c → StaysFaultless a c
faultless_then a b c p q = record {
  still = λ h. q.still (p.still h);
  faults = λ h. q.faults (p.still h) ∙ p.faults h;
  write_faults = λ h. q.write_faults (p.still h) ∙ p.write_faults h;
}

pub only_read_then : (a b c : StoreView) → OnlyRead a b → OnlyRead b c → OnlyRead a c
only_read_then a b c p q = record {
  files = λ name. q.files name ∙ p.files name;
  later = none_fell_then a.counts b.counts c.counts p.later q.later;
  faultless = faultless_then a b c p.faultless q.faultless;
}

-- a fetch that ends the job
pub stops_reports : (name : List ℕ) (limit : ℕ) (next : List ℕ → Plan) (before now : StoreView) (r : Report)
    → OverTold before (λ files. Fetches name limit files (Stops r)) → FetchHasCause before now (Stops r) → Reports (Read name limit next) before now r
stops_reports name limit next before now r f c = record { report = λ files tells. f files tells next; cause = c.0; usage = c.1 }

-- a fetch after which the job goes on
pub goes_on : (name : List ℕ) (limit : ℕ) (next : List ℕ → Plan) (rest : Plan) (before mid now : StoreView) (b : Vec ℕ Global) (r : Report)
    → OverTold before (λ files. Fetches name limit files (Bytes b)) → length b.items ≤ limit → OnlyRead before mid → next b.items ≡ rest → Reports rest mid now r
    → Reports (Read name limit next) before now r
goes_on name limit next rest before mid now b r f fits only is reports = record {
  report = λ files tells.
      read_on name b.items limit next files r (f files tells) fits
      (subst (λ (p : Plan). ComesTo p files r) (sym is) (reports.report files (λ n. only.files n ∙ tells n)));
  cause = cause_later (code_of r.status) before mid now only.later reports.cause;
  usage = reports.usage;
}

-- a text that is judged, and the job goes on
pub judges : (text : List ℕ) (source : ShaderText) (next : ShaderText → Plan) (rest : Plan) (before now : StoreView) (r : Report)
    → IsShaderText text source → next source ≡ rest → Reports rest before now r → Reports (Judge text next) before now r
judges text source next rest before now r is e reports = record {
  report = λ files tells. judge_on text source next files r is (subst (λ (p : Plan). ComesTo p files r) (sym e) (reports.report files tells));
  cause = reports.cause;
  usage = reports.usage;
}

-- a refusal for what a file holds
pub data IsOfContent : Refusal → Type 0 where
  of_source : IsOfContent why.Shader
  of_form : IsOfContent why.NotBuilt

no_count : (w : Refusal) → IsOfContent w → (refusal_code w ≢ 2) × (refusal_code w ≢ 6) × (refusal_code w ≢ 7) × (refusal_code w ≢ 10)
no_count _ of_source = (λ e. omega arith, λ e. omega arith, λ e. omega arith, λ e. omega arith)
no_count _ of_form = (λ e. omega arith, λ e. omega arith, λ e. omega arith, λ e. omega arith)

pub content_reports : (w : Refusal) (text : List ℕ) (before now : StoreView) (r : Report) → IsOfContent w → IsRefused w text r → Reports (Settled (Refused w text)) before now r
content_reports w text before now r of is =
    let code : code_of r.status ≡ refusal_code w = ap code_of is.status in
    let n = no_count w of in
    record {
      report = λ files tells. settled_refused w text files r is;
      cause = record { absent = λ e. absurd (n.1 (sym code ∙ e)); read_fault = λ e. absurd (n.2 (sym code ∙ e)); large = λ e. absurd (n.3 (sym code ∙ e)) };
      usage = λ e. n.0 (sym code ∙ e);
    }

pub shown_reports : (job : AcceptedJob) (before now : StoreView) (r : Report) → IsShown job r → Reports (Settled (Accepted job)) before now r
shown_reports job before now r is =
    let code : code_of r.status ≡ 0 = ap code_of is.status in
    record {
      report = λ files tells. settled_accepted job files r is;
      cause = record { absent = λ e. absurd (omega (arith, code)); read_fault = λ e. absurd (omega (arith, code)); large = λ e. absurd (omega (arith, code)) };
      usage = λ e. omega (arith, code);
    }

-- ---- the top

pub complete_from_report : (plan : Plan) (files : Files) (s : ℕ) (text : List ℕ) → IsReport plan files s text → s ≢ 7 → IsStatus plan files s
complete_from_report plan files s text (is_done a b) n = record { verdict = Accepted b.job; judged = b.accepted; is = a }
complete_from_report plan files s text (is_refused w a b) n = record { verdict = Refused w b.refusal; judged = b.refused; is = a }
complete_from_report plan files s text (is_fault a b) n = absurd (n a)

pub done_from_report : (plan : Plan) (files : Files) (s : ℕ) (text : List ℕ) → IsReport plan files s text → s ≡ 0 → IsDone plan files text
done_from_report plan files s text (is_done a b) e = b
done_from_report plan files s text (is_refused w a b) e = absurd ((code_range w).0 (sym a ∙ e))
done_from_report plan files s text (is_fault a b) e = absurd (omega (arith, a, e))

-- no two refusals have one status
of_code : ℕ → Refusal
of_code n = if n == 2 then why.Usage else if n == 3 then why.Shader else if n == 6 then why.Absent else if n == 10 then why.TooLarge else why.NotBuilt

of_code_is : (w : Refusal) → of_code (refusal_code w) ≡ w
unfolding of_code
of_code_is why.Usage = refl
of_code_is why.Shader = refl
of_code_is why.Absent = refl
of_code_is why.TooLarge = refl
of_code_is why.NotBuilt = refl

same_why : (w v : Refusal) → refusal_code w ≡ refusal_code v → w ≡ v
same_why w v e = sym (of_code_is w) ∙ ap of_code e ∙ of_code_is v

pub refusal_from_report : (plan : Plan) (files : Files) (s : ℕ) (text : List ℕ) (w : Refusal) → IsReport plan files s text → s ≡ refusal_code w → IsRefusal w plan files text
refusal_from_report plan files s text w (is_done a b) e = absurd ((code_range w).0 (sym e ∙ a))
refusal_from_report plan files s text w (is_refused v a b) e = subst (λ (x : Refusal). IsRefusal x plan files text) (same_why v w (sym a ∙ e)) b
refusal_from_report plan files s text w (is_fault a b) e = absurd ((code_range w).1 (sym e ∙ a))

pub fault_from_report : (plan : Plan) (files : Files) (s : ℕ) (text : List ℕ) → IsReport plan files s text → s ≡ 7 → IsReadFault plan files text
fault_from_report plan files s text (is_done a b) e = absurd (omega (arith, a, e))
fault_from_report plan files s text (is_refused w a b) e = absurd ((code_range w).1 (sym a ∙ e))
fault_from_report plan files s text (is_fault a b) e = b

-- ---- the same, at what the code has in its hands

pub stops_at : (n name : List ℕ) (limit : ℕ) (next : List ℕ → Plan) (before now : StoreView) (f : Fetched) (r : Report)
    → n ≡ name → f ≡ Stops r → OverTold before (λ files. Fetches n limit files f) → FetchHasCause before now f → Reports (Read name limit next) before now r
stops_at n name limit next before now f r p q got c =
    stops_reports name limit next before now r
    (λ files tells. subst (λ (x : List ℕ). Fetches x limit files (Stops r)) p (subst (λ (y : Fetched). Fetches n limit files y) q (got files tells)))
    (subst (λ (y : Fetched). FetchHasCause before now y) q c)

pub goes_on_at : (n name : List ℕ) (limit : ℕ) (next : List ℕ → Plan) (rest : Plan) (before mid now : StoreView) (f : Fetched) (b : Vec ℕ Global) (r : Report)
    → n ≡ name → f ≡ Bytes b → OverTold before (λ files. Fetches n limit files f) → FetchesWithin limit f → OnlyRead before mid → next b.items ≡ rest → Reports rest mid now r
    → Reports (Read name limit next) before now r
goes_on_at n name limit next rest before mid now f b r p q got fits only is reports =
    goes_on name limit next rest before mid now b r
    (λ files tells. subst (λ (z : List ℕ). Fetches z limit files (Bytes b)) p (subst (λ (w : Fetched). Fetches n limit files w) q (got files tells)))
    (subst (λ (w : Fetched). FetchesWithin limit w) q fits) only is reports

pub refused_at : (w : Refusal) (n name ending : List ℕ) (r : Report) → n ≡ name → IsRefused w (n ++ ending) r → IsRefused w (name ++ ending) r
refused_at w n name ending r p is = subst (λ (x : List ℕ). IsRefused w (x ++ ending) r) p is

pub missing_file : (told : Option (Option (List ℕ))) (file : Option (List ℕ)) → told ≡ Some file → IsMissing told → file ≡ None
missing_file told file e m = rw e at m

pub longer_file : (told : Option (Option (List ℕ))) (file : Option (List ℕ)) (limit : ℕ) → told ≡ Some file → IsLonger told limit → IsLonger (Some file) limit
longer_file told file limit e m = subst (λ (t : Option (Option (List ℕ))). IsLonger t limit) e m

pub found_is : (ps qs : List Param) (a b : List ℕ) (o p : Option ℕ) → qs ≡ ps → b ≡ a → o ≡ output_named qs b → o ≡ p → output_named ps a ≡ p
found_is ps qs a b o p e f h g = ap (λ x. output_named x a) (sym e) ∙ ap (output_named qs) (sym f) ∙ sym h ∙ g

pub with_output : (gf pf : List ℕ) (g : Group) (s : SmallShader) (o p : Option ℕ) (before now : StoreView) (r : Report) → o ≡ p → Reports (after_output gf pf g s p) before now r
    → Reports (after_output gf pf g s o) before now r
with_output gf pf g s o p before now r e reports = subst (λ (x : Option ℕ). Reports (after_output gf pf g s x) before now r) (sym e) reports

pub job_report : (job other : Option Job) (files : Files) (r : Report) → job ≡ other → ComesTo (plan_of job) files r → ComesTo (plan_of other) files r
job_report job other files r e c = subst (λ (x : Option Job). ComesTo (plan_of x) files r) e c

-- what the code finds to be built
pub is_built : (found : Option (Bor ShadeJob)) (job : Bor ShadeJob) (built : Option ShadeJob) → found ≡ Some job → option_map (λ (j : Bor ShadeJob). j.now) found ≡ built → Some job.now ≡ built
is_built found job built e d = ap (option_map (λ (j : Bor ShadeJob). j.now)) (sym e) ∙ d

pub none_built : (found : Option (Bor ShadeJob)) (built : Option ShadeJob) → found ≡ None → option_map (λ (j : Bor ShadeJob). j.now) found ≡ built → None ≡ built
none_built found built e d = ap (option_map (λ (j : Bor ShadeJob). j.now)) (sym e) ∙ d

-- the words spell this job, of which this is what is built
pub built_report : (job : Job) (other : Option Job) (found : Option ShadeJob) (files : Files) (r : Report) → Some job ≡ other → found ≡ built_of job
    → ComesTo (plan_of_built found) files r → ComesTo (plan_of other) files r
built_report job other found files r e d c = job_report (Some job) other files r e (subst (λ (x : Option ShadeJob). ComesTo (plan_of_built x) files r) d c)

pub none_read : {A : Type 0} → (read : Option A) (stop : ReadStop) → stop ≡ stops.NotBuilt → ReadsWhole {A = A} read (Err stop) → read ≡ None
none_read {A} read stop e h = let P : ReadStop → Type 0 = λ s. ReadsWhole {A = A} read (Err s) in subst P e h

-- a source is fetched and judged, and the job goes on
pub source_at : (n name : List ℕ) (limit : ℕ) (next : ShaderText → Plan) (before mid now : StoreView) (f : Fetched) (b : Vec ℕ Global) (text : List ℕ) (found source : ShaderText) (r : Report)
    → n ≡ name → f ≡ Bytes b → OverTold before (λ files. Fetches n limit files f) → FetchesWithin limit f → OnlyRead before mid
    → text ≡ b.items → found ≡ source → IsShaderText text found → Reports (next source) mid now r → Reports (Read name limit (λ t. Judge t next)) before now r
source_at n name limit next before mid now f b text found source r p q got fits only e d is reports =
    goes_on_at n name limit (λ t. Judge t next) (Judge b.items next) before mid now f b r p q got fits only refl
    (judges b.items source next (next source) mid now r
    (subst (λ (t : List ℕ). IsShaderText t source) e (subst (λ (s : ShaderText). IsShaderText text s) d is)) refl reports)
