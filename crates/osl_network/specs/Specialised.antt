-- Code that was made from a group under some instance values, and shows what the group's own code shows (OSL's runtime optimisation).
use Rattle.std.specs.Prelude.{◌≡◌, ℕ, Bool, true, false, List, Option, Some, None, slice_get, option_and_then}
use Rattle.std.specs.List.{All}
use Rattle.osl_value.specs.AnyValue.{Of}
use Rattle.osl_value.specs.Plain.{Plain}
use Rattle.osl_value.specs.WellFormed.{IsPoint, IsValue}
use Rattle.osl_layer.specs.Layer.{LayerEnd}
use Rattle.oso_code.specs.declared.raw.Raw.{Raw}
use Rattle.osl_network.specs.declared.variables.Var.{Var}
use Rattle.osl_network.specs.declared.variables.VarPoint.{VarPoint}
use Rattle.osl_network.specs.Groups.{AreValues}
use Rattle.osl_network.specs.Meaning.{meaning}
use Rattle.osl_network.specs.Network.{Place, Network, is_interactive_at}
use Rattle.osl_network.specs.Points.{AreVariables}
use Rattle.osl_network.specs.Runs.{GroupValues, values_of, group_run}
use Rattle.osl_network.specs.Shaders.{code_runs, given_runs}

-- a point whose numbers are floats, with variables that are values
pub record IsVarPoint (at : VarPoint) : Type 0 where
  pub point : IsPoint at.point
  pub variables : AreVariables at.vars
  pub values : All (λ (var : Var). IsValue (Of var.value)) at.vars

-- the instance value of a parameter
abbrev pub value_in : GroupValues → Place → Option Plain
value_in values place = option_and_then (λ found. found) (slice_get (values_of values place.0) place.1)

-- values of the group that are these where a parameter is locked
pub record AgreeLocked (net : Network) (values others : GroupValues) : Type 0 where
  pub fit : AreValues net others
  pub locked : (place : Place) → is_interactive_at net place ≡ Some false → value_in others place ≡ value_in values place

-- whether the run of a layer of a number read its connected parameter of a number
abbrev pub read_by : List LayerEnd → ℕ → ℕ → Bool
read_by ends l k = elim (slice_get ends l) [ None ↦ false | Some end ↦ end.reads k ]

-- Code for each layer, or none for one that is dropped, that was made from a group under some values. Under all values that agree with them where a parameter is locked, at all points
-- with all their variables and under all budgets it shows what the loaded code shows, and each kept layer reads no connected parameter that its loaded code does not read there.
pub record Specialises (codes : List (Option Raw)) (shaders : List Raw) (net : Network) (values : GroupValues) : Type 0 where
  pub shows : (others : GroupValues) (at : VarPoint) (budget : ℕ) → AgreeLocked net values others → IsVarPoint at
      → meaning (given_runs codes) net others at budget ≡ meaning (code_runs shaders net) net others at budget
  pub reads : (others : GroupValues) (at : VarPoint) (budget : ℕ) → AgreeLocked net values others → IsVarPoint at
      → (l k : ℕ) (raw : Raw) → slice_get codes l ≡ Some (Some raw)
      → read_by (group_run (given_runs codes) net others at budget) l k ≡ true → read_by (group_run (code_runs shaders net) net others at budget) l k ≡ true
