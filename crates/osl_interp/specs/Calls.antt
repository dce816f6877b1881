-- What the calls on a run of a layer ask for and give.
use Rattle.std.specs.Prelude.{◌≡◌, ℕ, ◌+◌, ◌≤◌, nat_lt, Bool, true, false, List, [], ◌∷◌, Option, Some, None, length, slice_get, slice_set}
use Rattle.osl_value.specs.AnyValue.{AnyValue, Of, Parts, type_of}
use Rattle.osl_value.specs.Plain.{Plain}
use Rattle.osl_value.specs.declared.point.Point.{Point}
use Rattle.osl_layer.specs.Layer as L
use Rattle.oso_code.specs.declared.raw.Raw.{Raw}
use Rattle.oso_code.specs.declared.symbol.Class.TheVariants.{Param, Oparam}
use Rattle.oso_code.specs.declared.symbol.Symbol.{Symbol}
use Rattle.oso_code.specs.CodeRun.{is_parameter_at}
use Rattle.oso_code.specs.Ops.{type_at}
use Rattle.osl_interp.specs.Progress.{Progress, Agrees, StopSound, whole_ops}
use Rattle.osl_interp.specs.declared.layer_run.Given.{Given}
use Rattle.osl_interp.specs.declared.layer_run.Given.TheVariants as G
use Rattle.osl_interp.specs.declared.layer_run.OutRef.{OutRef}
use Rattle.osl_interp.specs.declared.layer_run.OutRef.TheVariants as O
use Rattle.osl_interp.specs.declared.layer_run.Status.{Status}
use Rattle.osl_interp.specs.declared.layer_run.Status.TheVariants.{Fresh, Resumed, Stopped, Lost}
use Rattle.osl_interp.specs.declared.stop.LayerStop.{LayerStop}

-- ---- start

-- one entry for each parameter
abbrev pub HasOneEach : {X : Type 0} → Raw → List X → Type 0
HasOneEach code xs = (k : ℕ) → is_parameter_at (slice_get code.symbols k) ≡ nat_lt k (length xs)

abbrev pub NoOutputIsWired : Raw → List Bool → Type 0
NoOutputIsWired code wired = (k : ℕ) (symbol : Symbol) → slice_get wired k ≡ Some true → slice_get code.symbols k ≡ Some symbol → symbol.class ≡ Param

abbrev pub AreOfTypes : Raw → List (Option Plain) → Type 0
AreOfTypes code fixed = (k : ℕ) (v : Plain) → slice_get fixed k ≡ Some (Some v) → v.ty ≡ type_at code.symbols k

-- these instance values and connections fit a shader
pub record InputsFit (code : Raw) (fixed : List (Option Plain)) (wired : List Bool) : Type 0 where
  pub fixed_each : HasOneEach code fixed
  pub wired_each : HasOneEach code wired
  pub no_output : NoOutputIsWired code wired
  pub types : AreOfTypes code fixed

-- what is known of a parameter's input at the start, by whether it is connected and by its instance value
abbrev pub first_known : Bool → Option Plain → Option L.Input
first_known true fixed = None
first_known false None = Some L.Default
first_known false (Some v) = Some (L.Fixed (Of v))

abbrev pub first_knowns : List Bool → List (Option Plain) → List (Option L.Input)
first_knowns [] fixed = []
first_knowns (wired ∷ more) [] = []
first_knowns (wired ∷ more) (fixed ∷ rest) = first_known wired fixed ∷ first_knowns more rest

-- a run that has not begun
abbrev pub begun : Raw → List (Option Plain) → List Bool → Point → ℕ → Progress
begun code fixed wired point budget = record {
  code = code;
  point = point;
  budget = budget;
  known = first_knowns wired fixed;
  status = Fresh;
  ops = 0;
  results = None;
}

-- ---- go

-- whether it may go on
abbrev pub MayGo : Status → Type 0
MayGo Fresh = Unit
MayGo (Resumed param) = Unit
MayGo (Stopped stop) = ⊥
MayGo Lost = ⊥

-- 1 where it has not begun
abbrev pub begins : Status → ℕ
begins Fresh = 1
begins (Resumed param) = 0
begins (Stopped stop) = 0
begins Lost = 0

abbrev pub is_lost : Status → Bool
is_lost Fresh = false
is_lost (Resumed param) = false
is_lost (Stopped stop) = false
is_lost Lost = true

-- it has gone on to a stop, while the count of ops went from a to b
pub record GoDone (old new : Progress) (a b : ℕ) (stop : LayerStop) : Type 0 where
  pub code : new.code ≡ old.code
  pub point : new.point ≡ old.point
  pub budget : new.budget ≡ old.budget
  pub known : new.known ≡ old.known
  pub status : new.status ≡ Stopped stop
  pub ops : new.ops + a ≡ old.ops + b
  pub sound : StopSound new stop

-- what holds of the count however it ends: it has not fallen, and has risen by no more than what the whole run counts
pub record Counted (old : Progress) (a b : ℕ) : Type 0 where
  pub grows : a ≤ b
  pub within : (inputs : L.Inputs) → Agrees inputs old.known → old.ops + b ≤ whole_ops old inputs + a

-- ---- give

abbrev pub input_of : Given → Option AnyValue
input_of (G.Value v) = Some (Of v.now)
input_of (G.Closure node) = Some (Parts node)
input_of G.Nothing = None

-- what is given has the parameter's type
abbrev pub HasType : Raw → ℕ → Option AnyValue → Type 0
HasType code param None = Unit
HasType code param (Some v) = type_of v ≡ type_at code.symbols param

-- the run, given this
abbrev pub gave : Progress → ℕ → Option AnyValue → Progress
gave p param given = record p { known = slice_set p.known param (Some (L.From given)); status = Resumed param }

-- ---- what a run that is done gives

abbrev pub seen_output : OutRef → AnyValue
seen_output (O.Value v) = Of v.now
seen_output (O.Closure node) = Parts node

abbrev pub IsOutput : Raw → ℕ → Type 0
IsOutput code param = (symbol : Symbol) × (slice_get code.symbols param ≡ Some symbol) × (symbol.class ≡ Oparam)
