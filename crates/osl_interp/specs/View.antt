-- What the fields of a run are seen as, and what holds of them.
use Rattle.std.specs.Prelude.{◌≡◌, ℕ, ◌+◌, ◌-◌, List, [], ◌∷◌, Option, Some, None, slice_get, slice_set}
use Rattle.osl_value.specs.AnyValue.{AnyValue, Of, Parts, argument}
use Rattle.osl_value.specs.Plain.{Plain}
use Rattle.osl_value.specs.declared.point.Point.{Point}
use Rattle.osl_apply.specs.declared.slot.Slot.{Slot}
use Rattle.osl_layer.specs.Layer as L
use Rattle.oso_code.specs.declared.raw.Raw.{Raw}
use Rattle.oso_code.specs.CodeRun.{results_by, layer_run, ops_run}
use Rattle.osl_interp.specs.Advances.{Asks}
use Rattle.osl_interp.specs.Stops.{AreKept}
use Rattle.osl_interp.specs.Meaning.{Configuration, configuration, held_values, state_of, meaning, pending}
use Rattle.osl_interp.specs.Progress.{Progress, Agrees, IsSound}
use Rattle.osl_interp.specs.Ready.{IsLaid, Ready}
use Rattle.osl_interp.specs.declared.known.Known.{Known}
use Rattle.osl_interp.specs.declared.known.Known.TheVariants as K
use Rattle.osl_interp.specs.declared.layer_run.LayerRun.TheInside.{Inside}
use Rattle.osl_interp.specs.declared.layer_run.Status.{Status}
use Rattle.osl_interp.specs.declared.layer_run.Status.TheVariants.{Fresh, Resumed, Stopped, Lost}
use Rattle.osl_interp.specs.declared.stop.LayerStop.TheVariants.{Done, Spent, Needs}

-- ---- what is known of the inputs

abbrev pub fixed_value : Option (Option Plain) → AnyValue
fixed_value None = Parts []
fixed_value (Some None) = Parts []
fixed_value (Some (Some v)) = Of v

-- what a parameter has, where v is what its slot holds
abbrev pub seen_known : Known → AnyValue → Option (Option Plain) → Option L.Input
seen_known K.Default v fixed = Some L.Default
seen_known K.Fixed v fixed = Some (L.Fixed (fixed_value fixed))
seen_known K.Waiting v fixed = None
seen_known K.Given v fixed = Some (L.From (Some v))
seen_known K.Nothing v fixed = Some (L.From None)

-- the parameters from a number on
abbrev pub knowns_from : ℕ → List Known → (ℕ → AnyValue) → List (Option Plain) → List (Option L.Input)
knowns_from at [] values fixed = []
knowns_from at (known ∷ knowns) values fixed = seen_known known (values at) (slice_get fixed at) ∷ knowns_from (at + 1) knowns values fixed

abbrev pub seen_knowns : List (Option Plain) → Configuration → List (Option L.Input)
seen_knowns fixed c = knowns_from 0 c.inputs (argument c.values) fixed

-- ---- the ops that were counted so far

-- the inputs in which all that waits turns out to be nothing
abbrev pub supposed_at : Option (Option L.Input) → L.Input
supposed_at None = L.Default
supposed_at (Some None) = L.From None
supposed_at (Some (Some input)) = input

abbrev pub supposed : List (Option L.Input) → L.Inputs
supposed known k = supposed_at (slice_get known k)

-- what the run counts where all that waits is nothing
abbrev pub supposed_ops : Raw → Point → ℕ → List (Option L.Input) → ℕ
supposed_ops code point budget known = ops_run code (supposed known) point budget

-- the run at a read counts what it would count if that gave nothing, but for the op that waits
abbrev pub ops_at : Raw → Point → ℕ → List (Option L.Input) → Configuration → Status → ℕ
ops_at code point budget known c Fresh = 0
ops_at code point budget known c (Resumed param) = supposed_ops code point budget (slice_set known param None) - pending c
ops_at code point budget known c (Stopped Done) = supposed_ops code point budget known
ops_at code point budget known c (Stopped Spent) = supposed_ops code point budget known
ops_at code point budget known c (Stopped (Needs param)) = supposed_ops code point budget known - pending c
ops_at code point budget known c Lost = 0

-- ---- the run

abbrev pub results_at : Raw → Configuration → Status → Option L.LayerResults
results_at code c Fresh = None
results_at code c (Resumed param) = None
results_at code c (Stopped Done) = Some (results_by code (record (state_of 0 c) { values = held_values code c.inputs c.values }))
results_at code c (Stopped Spent) = None
results_at code c (Stopped (Needs param)) = None
results_at code c Lost = None

-- a run that began with these
pub record Plan : Type 0 where
  pub code : Raw
  pub point : Point
  pub budget : ℕ
  pub fixed : List (Option Plain)

abbrev pub progress_of : Plan → Configuration → Status → Progress
progress_of plan c status = record {
  code = plan.code;
  point = plan.point;
  budget = plan.budget;
  known = seen_knowns plan.fixed c;
  status = status;
  ops = ops_at plan.code plan.point plan.budget (seen_knowns plan.fixed c) c status;
  results = results_at plan.code c status;
}

-- the machine comes to what the code comes to from its beginning
pub record Follows (plan : Plan) (c : Configuration) (n : ℕ) : Type 0 where
  pub code : c.code ≡ plan.code
  pub ready : Ready c
  pub comes : (inputs : L.Inputs) → Agrees inputs (seen_knowns plan.fixed c) → meaning inputs n c ≡ layer_run plan.code inputs plan.point plan.budget

-- what a run that is done holds
pub record IsFinished (plan : Plan) (c : Configuration) (slots : List Slot) : Type 0 where
  pub code : c.code ≡ plan.code
  pub laid : IsLaid plan.code c.inputs c.values
  pub kept : AreKept plan.code.symbols slots

abbrev pub Holds : Plan → Configuration → List Slot → Status → Type 0
Holds plan c slots Fresh = Follows plan c 0
Holds plan c slots (Resumed param) = Follows plan c (ops_at plan.code plan.point plan.budget (seen_knowns plan.fixed c) c (Resumed param))
Holds plan c slots (Stopped Done) = IsFinished plan c slots
Holds plan c slots (Stopped Spent) = Unit
Holds plan c slots (Stopped (Needs param)) = Follows plan c (ops_at plan.code plan.point plan.budget (seen_knowns plan.fixed c) c (Stopped (Needs param))) × Asks c param
Holds plan c slots Lost = Unit

pub record IsRunOf (plan : Plan) (c : Configuration) (slots : List Slot) (status : Status) : Type 0 where
  pub sound : IsSound (progress_of plan c status)
  pub holds : Holds plan c slots status

-- ---- the fields

abbrev pub plan_of : Inside → Plan
plan_of r = record { code = r.code.now; point = r.point.value; budget = r.budget.value; fixed = r.fixed.value }

abbrev pub progress : Inside → Progress
progress r = progress_of (plan_of r) (configuration r.machine) r.status

abbrev pub IsRun : Inside → Type 0
IsRun r = IsRunOf (plan_of r) (configuration r.machine) r.machine.slots.items r.status
