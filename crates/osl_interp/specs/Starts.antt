-- What a machine begins with.
use Rattle.std.specs.Prelude.{◌≡◌, ◌≤◌, ◌<◌, ℕ, Bool, true, false, ◌&&◌, ◌||◌, not, IsTrue, List, [], ◌∷◌, length, Option, Some, None, slice_get}
use Rattle.osl_value.specs.declared.point.Point.{Point}
use Rattle.osl_value.specs.AnyValue.{AnyValue, Of, zero_value, argument}
use Rattle.osl_value.specs.Plain.{Plain}
use Rattle.osl_value.specs.Types.{same_type}
use Rattle.osl_value.specs.declared.types.Ty.{Ty}
use Rattle.oso_code.specs.CodeRun.{stated, global_start}
use Rattle.oso_code.specs.Symbols.{is_parameter}
use Rattle.oso_code.specs.declared.raw.Raw.{Raw}
use Rattle.oso_code.specs.declared.symbol.Class.{Class}
use Rattle.oso_code.specs.declared.symbol.Class.TheVariants.{Param, Oparam, Global, Const, Local, Temp}
use Rattle.oso_code.specs.declared.symbol.Symbol.{Symbol}
use Rattle.osl_layer.specs.Globals.{global_named}
use Rattle.osl_layer.specs.Layer as L
use Rattle.osl_interp.specs.declared.known.Known.{Known}
use Rattle.osl_interp.specs.declared.known.Known.TheVariants as K
use Rattle.osl_interp.specs.declared.frame.Mode.TheVariants as M
use Rattle.osl_interp.specs.Meaning.{Configuration}

-- what is known of a parameter's input, by whether it is connected and by its instance value
abbrev pub known_from : Bool → Option Plain → Known
known_from true fixed = K.Waiting
known_from false (Some v) = K.Fixed
known_from false None = K.Default

abbrev pub knowns : List Bool → List (Option Plain) → List Known
knowns [] fixed = []
knowns (wired ∷ more) [] = []
knowns (wired ∷ more) (fixed ∷ rest) = known_from wired fixed ∷ knowns more rest

-- what a parameter's slot holds: a connected one waits with a zero
abbrev pub parameter_slot : Symbol → Option Bool → Option (Option Plain) → AnyValue
parameter_slot symbol (Some true) fixed = zero_value symbol.ty
parameter_slot symbol wired (Some (Some v)) = Of v
parameter_slot symbol wired fixed = stated symbol.ty symbol.value

abbrev pub slot_by : Symbol → Option Bool → Option (Option Plain) → Point → Class → AnyValue
slot_by symbol wired fixed point Param = parameter_slot symbol wired fixed
slot_by symbol wired fixed point Oparam = parameter_slot symbol wired fixed
slot_by symbol wired fixed point Global = global_start symbol.ty point (global_named symbol.name)
slot_by symbol wired fixed point Const = stated symbol.ty symbol.value
slot_by symbol wired fixed point Local = zero_value symbol.ty
slot_by symbol wired fixed point Temp = zero_value symbol.ty

-- what a symbol's slot holds
abbrev pub first_value : Symbol → Option Bool → Option (Option Plain) → Point → AnyValue
first_value symbol wired fixed point = slot_by symbol wired fixed point symbol.class

-- each symbol's slot holds its first value
pub record AreFirst (symbols : List Symbol) (wired : List Bool) (fixed : List (Option Plain)) (point : Point) (values : List AnyValue) : Type 0 where
  pub count : length values ≡ length symbols
  pub each : (k : ℕ) (symbol : Symbol) → slice_get symbols k ≡ Some symbol → argument values k ≡ first_value symbol (slice_get wired k) (slice_get fixed k) point

-- before the first section
abbrev pub first_configuration : Raw → List Bool → List (Option Plain) → ℕ → List AnyValue → Configuration
first_configuration code wired fixed budget values = record {
  code = code;
  inputs = knowns wired fixed;
  values = values;
  turns = budget;
  frames = [];
  mode = M.Run;
  at = 0;
  end = 0;
  section = 0;
}

-- the inputs of a run of which these are connected, and these are instance values
abbrev pub BeginsAt : L.Input → Option Bool → Option (Option Plain) → Type 0
BeginsAt input None fixed = Unit
BeginsAt input (Some true) fixed = (given : Option AnyValue) × (input ≡ L.From given)
BeginsAt input (Some false) None = Unit
BeginsAt input (Some false) (Some None) = input ≡ L.Default
BeginsAt input (Some false) (Some (Some v)) = input ≡ L.Fixed (Of v)

-- ---- whether instance values and connections fit a shader

abbrev pub is_input : Class → Bool
is_input Param = true
is_input Oparam = false
is_input Global = false
is_input Const = false
is_input Local = false
is_input Temp = false

abbrev pub has_type : Ty → Option Plain → Bool
has_type ty None = true
has_type ty (Some v) = same_type v.ty ty

-- parameters alone have both entries, and outputs are not connected
abbrev pub entry_fits : Symbol → Option Bool → Option (Option Plain) → Bool
entry_fits symbol None None = not (is_parameter symbol.class)
entry_fits symbol None (Some v) = false
entry_fits symbol (Some wired) None = false
entry_fits symbol (Some wired) (Some v) = (is_parameter symbol.class && (not wired || is_input symbol.class)) && has_type symbol.ty v

-- the entries of the first k symbols fit
abbrev pub FitTo : ℕ → List Symbol → List Bool → List (Option Plain) → Type 0
FitTo n symbols wired fixed = (k : ℕ) (symbol : Symbol) → k < n → slice_get symbols k ≡ Some symbol → IsTrue (entry_fits symbol (slice_get wired k) (slice_get fixed k))

-- the entries of all symbols fit, and there are no others
pub record EntriesFit (symbols : List Symbol) (wired : List Bool) (fixed : List (Option Plain)) : Type 0 where
  pub wired_within : length wired ≤ length symbols
  pub fixed_within : length fixed ≤ length symbols
  pub each : FitTo (length symbols) symbols wired fixed
