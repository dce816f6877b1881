-- What runs say of the code that they run.
use Rattle.std.proofs.Common.{◌≡◌, ℕ, zero, suc, List, [], ◌∷◌, Option, Some, None, Bool, true, false, ap, ◌∙◌, subst, arith}
use Rattle.std.specs.Prelude.{slice_get, IsSome}
use Rattle.osl_value.specs.AnyValue.{AnyValue}
use Rattle.osl_value.specs.Plain.{Plain}
use Rattle.osl_layer.specs.Layer as L
use Rattle.osl_interp.specs.Calls.{first_knowns, gave}
use Rattle.osl_interp.specs.Progress.{Progress, AgreesAt, Agrees, IsWithin, IsOver, StatusSound, IsSound, whole}
use Rattle.osl_interp.specs.Starts.{BeginsAt}
use Rattle.osl_interp.specs.Whole.{Begins, EndsAsCode, IsPartOfCode, IsNotLost}
use Rattle.osl_interp.specs.declared.layer_run.Status.{Status}
use Rattle.osl_interp.specs.declared.layer_run.Status.TheVariants.{Fresh, Resumed, Stopped, Lost}
use Rattle.osl_interp.specs.declared.stop.LayerStop.TheVariants.{Done, Spent, Needs}
use Rattle.osl_interp.proofs.Calls.{agrees_after}

starts_at : (input : L.Input) (wired : List Bool) (fixed : List (Option Plain)) (k : ℕ) → BeginsAt input (slice_get wired k) (slice_get fixed k) → AgreesAt input (slice_get (first_knowns wired fixed) k)
starts_at input [] fixed k h = tt
starts_at input (w ∷ wired) [] k h = tt
starts_at input (true ∷ wired) (f ∷ fixed) zero h = h
starts_at input (false ∷ wired) (None ∷ fixed) zero h = h
starts_at input (false ∷ wired) (Some v ∷ fixed) zero h = h
starts_at input (w ∷ wired) (f ∷ fixed) (suc k) h = starts_at input wired fixed k h

pub starts_as_code : (inputs : L.Inputs) (wired : List Bool) (fixed : List (Option Plain)) → Begins inputs wired fixed → Agrees inputs (first_knowns wired fixed)
starts_as_code inputs wired fixed h = record { each = λ k. starts_at (inputs k) wired fixed k (h k) }

-- what is sound at a status
sound_at : (p : Progress) (status : Status) → IsSound p → p.status ≡ status → StatusSound p status
sound_at p status h is = subst (StatusSound p) is h

pub needs_as_code : (p : Progress) (inputs : L.Inputs) (param : ℕ) → IsSound p → p.status ≡ Stopped (Needs param) → Agrees inputs p.known → (whole p inputs).reads param ≡ true
needs_as_code p inputs param h is agrees = (sound_at p (Stopped (Needs param)) h is).1.reads inputs agrees

pub resumes_as_code : (p : Progress) (inputs : L.Inputs) (param : ℕ) (given : Option AnyValue) → IsSound p → p.status ≡ Stopped (Needs param) → Agrees inputs p.known → inputs param ≡ L.From given → Agrees inputs (gave p param given).known
resumes_as_code p inputs param given h is agrees from = agrees_after inputs p.known param given (sound_at p (Stopped (Needs param)) h is).1.waits agrees from

ends_so : (p : Progress) (inputs : L.Inputs) → IsOver p → Agrees inputs p.known → EndsAsCode p inputs
ends_so p inputs over agrees =
    record { results = ap (λ (e : L.LayerEnd). e.results) (over.ends inputs agrees); reads = ap (λ (e : L.LayerEnd). e.reads) (over.ends inputs agrees); ops = over.ops inputs agrees }

pub ends_as_code : (p : Progress) (inputs : L.Inputs) → IsSound p → p.status ≡ Stopped Done → Agrees inputs p.known → EndsAsCode p inputs × IsSome p.results
ends_as_code p inputs h is agrees = let s = sound_at p (Stopped Done) h is in (ends_so p inputs s.0 agrees, s.1)

pub is_spent_as_code : (p : Progress) (inputs : L.Inputs) → IsSound p → p.status ≡ Stopped Spent → Agrees inputs p.known → EndsAsCode p inputs × (p.results ≡ None)
is_spent_as_code p inputs h is agrees = let s = sound_at p (Stopped Spent) h is in (ends_so p inputs s.0 agrees, s.1)

part : (p : Progress) (inputs : L.Inputs) → IsWithin p → Agrees inputs p.known → IsPartOfCode p inputs
part p inputs w agrees = record { reads = w.reads inputs agrees; ops = w.ops inputs agrees }

over_part : (p : Progress) (inputs : L.Inputs) → IsOver p → Agrees inputs p.known → IsPartOfCode p inputs
over_part p inputs over agrees =
    let e = ends_so p inputs over agrees in
    let count = e.ops in
    record { reads = λ k read. (λ i. e.reads i k) ∙ read; ops = omega (arith, count) }

pub is_part_of_code : (p : Progress) (inputs : L.Inputs) → IsSound p → IsNotLost p.status → Agrees inputs p.known → IsPartOfCode p inputs
is_part_of_code p inputs h kept agrees = by p.status h kept
  where
    by : (status : Status) → StatusSound p status → IsNotLost status → IsPartOfCode p inputs
    by Fresh s k = part p inputs s.0 agrees
    by (Resumed param) s k = part p inputs s agrees
    by (Stopped Done) s k = over_part p inputs s.0 agrees
    by (Stopped Spent) s k = over_part p inputs s.0 agrees
    by (Stopped (Needs param)) s k = part p inputs s.0 agrees
    by Lost s k = absurd k
