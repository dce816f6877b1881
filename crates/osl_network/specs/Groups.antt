-- What holds of all groups, and which values and points are a group's.
use Rattle.std.specs.Prelude.{◌≡◌, ℕ, ◌≤◌, ◌<◌, true, false, List, [], ◌∷◌, map, length, Option, None, Some, slice_get}
use Rattle.std.specs.List.{All}
use Rattle.osl_value.specs.declared.types.Base.TheVariants.{Closure}
use Rattle.osl_value.specs.AnyValue.{Of, is_assignable}
use Rattle.osl_value.specs.Plain.{Plain}
use Rattle.osl_value.specs.Types.{same_base}
use Rattle.osl_value.specs.WellFormed.{IsOfType}
use Rattle.osl_network.specs.Building.{most_layers, most_asked, most_asked_slots, asked_slots}
use Rattle.osl_network.specs.declared.port.Port.{Port}
use Rattle.osl_network.specs.Network.{Place, Layer, Network, layer_at, port_at, source_at, layer_named, port_named}
use Rattle.osl_network.specs.Runs.{GroupValues}

-- ---- values

-- none, or a value of the parameter's type
abbrev pub ValueFits : Port → Option Plain → Type 0
ValueFits port None = Unit {0}
ValueFits port (Some v) = IsOfType port.ty (Of v)

-- one entry for each parameter
abbrev pub ValuesFit : List Port → List (Option Plain) → Type 0
ValuesFit [] [] = Unit {0}
ValuesFit [] (value ∷ values) = ⊥
ValuesFit (port ∷ ports) [] = ⊥
ValuesFit (port ∷ ports) (value ∷ values) = ValueFits port value × ValuesFit ports values

-- one list for each layer
abbrev pub AllFit : List Layer → GroupValues → Type 0
AllFit [] [] = Unit {0}
AllFit [] (values ∷ rest) = ⊥
AllFit (layer ∷ layers) [] = ⊥
AllFit (layer ∷ layers) (values ∷ rest) = ValuesFit layer.ports values × AllFit layers rest

abbrev pub AreValues : Network → GroupValues → Type 0
AreValues net values = AllFit net.layers values

-- the values at the start
abbrev pub start_values : Network → GroupValues
start_values net = map (λ layer. layer.values) net.layers

-- ---- groups

pub record IsLayer (layer : Layer) : Type 0 where
  pub values_fit : ValuesFit layer.ports layer.values
  pub flags : length layer.interactive ≡ length layer.ports
  pub wires : length layer.sources ≡ length layer.ports
  -- the parameter of number k is the one of its name
  pub named : (k : ℕ) (port : Port) → slice_get layer.ports k ≡ Some port → port_named layer.ports port.name ≡ Some k

-- a connection from an output of an earlier layer to an input, with types as in an assignment
pub record IsWire (net : Network) (from to : Place) : Type 0 where
  pub output : Port
  pub input : Port
  pub there : port_at net from ≡ Some output
  pub here : port_at net to ≡ Some input
  pub is_output : output.output ≡ true
  pub is_input : input.output ≡ false
  pub upstream : from.0 < to.0
  pub assignable : is_assignable input.ty output.ty ≡ true

-- an output that is no closure
pub record IsAsked (net : Network) (place : Place) : Type 0 where
  pub port : Port
  pub there : port_at net place ≡ Some port
  pub is_output : port.output ≡ true
  pub no_closure : same_base port.ty.base Closure ≡ false

pub record IsNetwork (net : Network) : Type 0 where
  pub few : length net.layers ≤ most_layers
  pub layers : All IsLayer net.layers
  -- the layer of number l is the one of its name
  pub named : (l : ℕ) (layer : Layer) → layer_at net l ≡ Some layer → layer_named net layer.name ≡ Some l
  pub wires : (to from : Place) → source_at net to ≡ Some from → IsWire net from to
  pub asked : All (IsAsked net) net.asked
  pub few_asked : length net.asked ≤ most_asked
  pub few_slots : asked_slots net ≤ most_asked_slots

-- a group: 1 to 64 layers
pub record IsGroup (net : Network) : Type 0 where
  pub network : IsNetwork net
  pub some : 1 ≤ length net.layers
