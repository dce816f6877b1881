-- Groups of connected layers, without what runs a layer (OSL specification, "Shader groups": layers, instance values, connections).
use Rattle.std.specs.Prelude.{ℕ, Bool, List, Option, Some, option_and_then, slice_get, position}
use Rattle.std.specs.Str.{bytes_eq}
use Rattle.osl_value.specs.Plain.{Plain}
use Rattle.osl_layer.specs.Layer.{Parameter}
use Rattle.osl_network.specs.declared.port.Port.{Port}

-- a parameter of a layer, by the numbers of the layer and of the parameter in it
abbrev pub Place : Type 0
Place = ℕ × ℕ

-- a layer: an instance of a shader. The lists have one entry for each parameter
pub record Layer : Type 0 where
  pub name : List ℕ
  -- the number of its shader among those that are loaded
  pub shader : ℕ
  pub ports : List Port
  -- instance values
  pub values : List (Option Plain)
  pub interactive : List Bool
  -- the outputs to which parameters are connected
  pub sources : List (Option Place)

pub record Network : Type 0 where
  pub layers : List Layer
  -- the outputs that are asked for
  pub asked : List Place

-- what whoever gives inputs is told of a parameter
abbrev pub parameter_of : Port → Parameter
parameter_of port = record { output = port.output; ty = port.ty }

-- ---- what is where

abbrev pub layer_at : Network → ℕ → Option Layer
layer_at net l = slice_get net.layers l

abbrev pub port_at : Network → Place → Option Port
port_at net place = option_and_then (λ layer. slice_get layer.ports place.1) (layer_at net place.0)

-- the instance value at the start
abbrev pub value_at : Network → Place → Option Plain
value_at net place = option_and_then (λ found. found) (option_and_then (λ layer. slice_get layer.values place.1) (layer_at net place.0))

-- the output to which a parameter is connected
abbrev pub source_at : Network → Place → Option Place
source_at net place = option_and_then (λ found. found) (option_and_then (λ layer. slice_get layer.sources place.1) (layer_at net place.0))

abbrev pub is_interactive_at : Network → Place → Option Bool
is_interactive_at net place = option_and_then (λ layer. slice_get layer.interactive place.1) (layer_at net place.0)

-- ---- names

-- the number of the layer of a name
abbrev pub layer_named : Network → List ℕ → Option ℕ
layer_named net name = position (λ layer. bytes_eq name layer.name) net.layers

-- the number of the parameter of a name
abbrev pub port_named : List Port → List ℕ → Option ℕ
port_named ports name = position (λ port. bytes_eq name port.name) ports

-- a parameter of a layer, by the names of both
abbrev pub place_in : Network → List ℕ → ℕ → Option Place
place_in net param l =
    option_and_then (λ layer. option_and_then (λ k. Some (l, k)) (port_named layer.ports param)) (layer_at net l)

abbrev pub place_named : Network → List ℕ → List ℕ → Option Place
place_named net layer param = option_and_then (place_in net param) (layer_named net layer)
