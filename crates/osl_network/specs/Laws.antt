-- What holds of all groups.
use Rattle.std.specs.Prelude.{◌≡◌, ℕ, List, Some, map}
use Rattle.std.specs.List.{All}
use Rattle.osl_value.specs.AnyValue.{AnyValue, Of}
use Rattle.osl_value.specs.WellFormed.{IsOfType, IsValue}
use Rattle.osl_layer.specs.Layer.{LayerEnd, AreInputs}
use Rattle.osl_network.specs.declared.port.Port.{Port}
use Rattle.osl_network.specs.declared.variables.Var.{Var}
use Rattle.osl_network.specs.Groups.{IsNetwork, AreValues}
use Rattle.osl_network.specs.Inputs.{output_at, inputs_of}
use Rattle.osl_network.specs.Network.{Place, Layer, Network, layer_at, port_at, parameter_of}
use Rattle.osl_network.specs.Runs.{GroupValues, values_of}

-- what earlier layers gave has the types of their parameters
abbrev pub EndsFit : Network → List LayerEnd → Type 0
EndsFit net ends = (place : Place) (port : Port) (v : AnyValue) → port_at net place ≡ Some port → output_at ends place ≡ Some v → IsOfType port.ty v

-- a layer of a group may be given what it is given, under values of the group, where the layers before it gave what fits
abbrev pub InputsFit : Type 0
InputsFit =
    (net : Network) (values : GroupValues) (vars : List Var) (ends : List LayerEnd) (l : ℕ) (layer : Layer) → IsNetwork net → AreValues net values
    → All (λ var. IsValue (Of var.value)) vars → EndsFit net ends → layer_at net l ≡ Some layer
    → AreInputs (map parameter_of layer.ports) (inputs_of vars ends (values_of values l) layer)
