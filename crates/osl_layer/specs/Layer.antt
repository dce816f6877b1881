-- What a layer is given, and what it gives (OSL specification, "Shader parameters").
use Rattle.std.specs.Prelude.{ℕ, ◌≡◌, ◌≢◌, Bool, true, List, Option, Some, slice_get}
use Rattle.osl_value.specs.declared.closure.Part.{Part}
use Rattle.osl_value.specs.declared.types.Ty.{Ty}
use Rattle.osl_value.specs.AnyValue.{AnyValue}
use Rattle.osl_value.specs.WellFormed.{IsOfType}

-- what a parameter has at the start
pub data Input : Type 0 where
  -- it is connected, to a value or to nothing
  From : Option AnyValue → Input
  -- an instance value
  Fixed : AnyValue → Input
  -- its default
  Default : Input

-- by the parameters' numbers, counted from 0
abbrev pub Inputs : Type 0
Inputs = ℕ → Input

-- what whoever gives inputs is told of a parameter
pub record Parameter : Type 0 where
  pub output : Bool
  pub ty : Ty

-- inputs that a layer with these parameters may be given
pub record AreInputs (params : List Parameter) (inputs : Inputs) : Type 0 where
  -- no output is connected
  pub outputs : (k : ℕ) (param : Parameter) (from : Option AnyValue) → slice_get params k ≡ Some param → param.output ≡ true → inputs k ≢ From from
  -- what is given is a value of the parameter's type
  pub fixed : (k : ℕ) (param : Parameter) (v : AnyValue) → slice_get params k ≡ Some param → inputs k ≡ Fixed v → IsOfType param.ty v
  pub connected : (k : ℕ) (param : Parameter) (v : AnyValue) → slice_get params k ≡ Some param → inputs k ≡ From (Some v) → IsOfType param.ty v

-- what a layer gives
pub record LayerResults : Type 0 where
  -- one entry for each parameter: its value where it is an output
  pub outputs : List (Option AnyValue)
  -- the parts of `Ci`
  pub closure : List Part

pub record LayerEnd : Type 0 where
  -- nothing where the run was spent
  pub results : Option LayerResults
  -- whether the connected parameter of a number was read
  pub reads : ℕ → Bool
