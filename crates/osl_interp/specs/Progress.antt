-- A run of a layer as its callers see it: what it runs, what is known of its inputs, and how far it has come.
use Rattle.std.specs.Prelude.{◌≡◌, ℕ, ◌≤◌, Bool, true, false, List, [], Option, Some, None, IsSome, slice_get}
use Rattle.osl_value.specs.AnyValue.{AnyValue}
use Rattle.osl_value.specs.declared.closure.Part.{Part}
use Rattle.osl_value.specs.declared.point.Point.{Point}
use Rattle.osl_layer.specs.Layer as L
use Rattle.oso_code.specs.declared.raw.Raw.{Raw}
use Rattle.oso_code.specs.CodeRun.{code_run, ops_run}
use Rattle.osl_interp.specs.declared.layer_run.Status.{Status}
use Rattle.osl_interp.specs.declared.layer_run.Status.TheVariants.{Fresh, Resumed, Stopped, Lost}
use Rattle.osl_interp.specs.declared.stop.LayerStop.{LayerStop}
use Rattle.osl_interp.specs.declared.stop.LayerStop.TheVariants.{Done, Spent, Needs}

pub record Progress : Type 0 where
  pub code : Raw
  pub point : Point
  pub budget : ℕ
  -- what each parameter has; nothing where it is connected and was not given yet
  pub known : List (Option L.Input)
  pub status : Status
  -- how many ops it has counted so far
  pub ops : ℕ
  -- what the layer gives, where the run is done
  pub results : Option L.LayerResults

-- ---- inputs

-- an input is as it is known
abbrev pub AgreesAt : L.Input → Option (Option L.Input) → Type 0
AgreesAt input None = Unit
AgreesAt input (Some None) = (given : Option AnyValue) × (input ≡ L.From given)
AgreesAt input (Some (Some known)) = input ≡ known

-- the inputs are as far as they are known
pub record Agrees (inputs : L.Inputs) (known : List (Option L.Input)) : Type 0 where
  pub each : (k : ℕ) → AgreesAt (inputs k) (slice_get known k)

abbrev pub is_from : L.Input → Bool
is_from (L.From given) = true
is_from (L.Fixed v) = false
is_from L.Default = false

abbrev pub was_given : Option (Option L.Input) → Bool
was_given None = false
was_given (Some None) = false
was_given (Some (Some input)) = is_from input

-- the parameters that were given are those that were read
abbrev pub given_reads : List (Option L.Input) → ℕ → Bool
given_reads known k = was_given (slice_get known k)

-- ---- the whole run, under inputs

abbrev pub whole : Progress → L.Inputs → L.LayerEnd
whole p inputs = code_run p.code inputs p.point p.budget

abbrev pub whole_ops : Progress → L.Inputs → ℕ
whole_ops p inputs = ops_run p.code inputs p.point p.budget

-- ---- what holds of every run, by how far it has come

-- whatever else its inputs are, the whole run reads what was read, and counts no less than was counted
pub record IsWithin (p : Progress) : Type 0 where
  pub reads : (inputs : L.Inputs) → Agrees inputs p.known → (k : ℕ) → given_reads p.known k ≡ true → (whole p inputs).reads k ≡ true
  pub ops : (inputs : L.Inputs) → Agrees inputs p.known → p.ops ≤ whole_ops p inputs

-- it is over: whatever else its inputs are, this is what the layer gives and reads, and all that it counts
pub record IsOver (p : Progress) : Type 0 where
  pub ends : (inputs : L.Inputs) → Agrees inputs p.known → whole p inputs ≡ record { results = p.results; reads = given_reads p.known }
  pub ops : (inputs : L.Inputs) → Agrees inputs p.known → whole_ops p inputs ≡ p.ops

-- it is at the read of a connected parameter that was not given
pub record IsAtRead (p : Progress) (param : ℕ) : Type 0 where
  pub waits : slice_get p.known param ≡ Some None
  -- the whole run reads it, whatever it is given
  pub reads : (inputs : L.Inputs) → Agrees inputs p.known → (whole p inputs).reads param ≡ true
  -- and gives nothing where it is given nothing
  pub stops : (inputs : L.Inputs) → Agrees inputs p.known → inputs param ≡ L.From None → (whole p inputs).results ≡ None

abbrev pub StopSound : Progress → LayerStop → Type 0
StopSound p Done = IsOver p × IsSome p.results
StopSound p Spent = IsOver p × (p.results ≡ None)
StopSound p (Needs param) = IsWithin p × IsAtRead p param

abbrev pub StatusSound : Progress → Status → Type 0
StatusSound p Fresh = IsWithin p × (p.ops ≡ 0)
StatusSound p (Resumed param) = IsWithin p
StatusSound p (Stopped stop) = StopSound p stop
StatusSound p Lost = Unit

abbrev pub IsSound : Progress → Type 0
IsSound p = StatusSound p p.status

-- ---- what a run that is done gives

abbrev pub outputs_in : Option L.LayerResults → List (Option AnyValue)
outputs_in None = []
outputs_in (Some results) = results.outputs

abbrev pub outputs_of : Progress → List (Option AnyValue)
outputs_of p = outputs_in p.results

abbrev pub closure_in : Option L.LayerResults → List Part
closure_in None = []
closure_in (Some results) = results.closure

abbrev pub closure_of : Progress → List Part
closure_of p = closure_in p.results
