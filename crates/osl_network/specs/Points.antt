-- The variables of a point (OSL specification, "Primitive variables").
use Rattle.std.specs.Prelude.{ℕ, ◌≡◌, ◌≤◌, Bool, true, false, ◌&&◌, if◌then◌else◌, List, [], ◌∷◌, length, Option, None, Some}
use Rattle.std.specs.Str.{bytes_eq}
use Rattle.std.specs.List.{list_any}
use Rattle.osl_value.specs.declared.types.Ty.{Ty}
use Rattle.osl_value.specs.Plain.{Plain}
use Rattle.osl_value.specs.Types.{same_type}
use Rattle.osl_network.specs.declared.variables.Var.{Var}

-- the most variables of a point
abbrev pub most_variables : ℕ
most_variables = 16

-- a variable of the name
abbrev pub has_variable : List Var → List ℕ → Bool
has_variable vars name = list_any (λ var. bytes_eq var.name name) vars

-- no two variables have one name
abbrev pub are_distinct : List Var → Bool
are_distinct [] = true
are_distinct (var ∷ vars) = if has_variable vars var.name then false else are_distinct vars

pub record AreVariables (vars : List Var) : Type 0 where
  pub few : length vars ≤ most_variables
  pub distinct : are_distinct vars ≡ true

-- the value of the variable of this name and exactly this type, if there is one
abbrev pub variable_of : List Var → List ℕ → Ty → Option Plain
variable_of [] name ty = None
variable_of (var ∷ vars) name ty =
    if bytes_eq var.name name && same_type var.value.ty ty then Some var.value else variable_of vars name ty
