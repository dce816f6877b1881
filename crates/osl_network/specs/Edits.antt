-- Instance values after edits (OSL's `ReParameter`).
use Rattle.std.specs.Prelude.{◌≡◌, ℕ, ◌≤◌, List, [], ◌∷◌, length, Some, slice_set}
use Rattle.std.specs.List.{All}
use Rattle.osl_value.specs.Plain.{Plain}
use Rattle.osl_network.specs.Groups.{ValueFits}
use Rattle.osl_network.specs.declared.port.Port.{Port}
use Rattle.osl_network.specs.Network.{Network, port_at}
use Rattle.osl_network.specs.Runs.{GroupValues, values_of}

-- a value in place of that of one parameter
pub record Set : Type 0 where
  pub layer : ℕ
  pub param : ℕ
  pub value : Plain

-- an editor's sets, 1 to 16 of them
pub record Edit : Type 0 where
  pub who : ℕ
  pub sets : List Set

abbrev pub with_value : GroupValues → ℕ → ℕ → Plain → GroupValues
with_value values l k v = slice_set values l (slice_set (values_of values l) k (Some v))

abbrev pub after_sets : GroupValues → List Set → GroupValues
after_sets values [] = values
after_sets values (set ∷ sets) = after_sets (with_value values set.layer set.param set.value) sets

-- the values after edits, from the first on
abbrev pub after : GroupValues → List Edit → GroupValues
after values [] = values
after values (edit ∷ edits) = after (after_sets values edit.sets) edits

-- it names a parameter of the group, and its value has exactly that parameter's type
pub record SetFits (net : Network) (set : Set) : Type 0 where
  pub port : Port
  pub there : port_at net (set.layer, set.param) ≡ Some port
  pub fits : ValueFits port (Some set.value)

abbrev pub most_sets : ℕ
most_sets = 16

pub record EditFits (net : Network) (edit : Edit) : Type 0 where
  pub some : 1 ≤ length edit.sets
  pub few : length edit.sets ≤ most_sets
  pub fits : All (SetFits net) edit.sets
