-- What a layer of a group is given (OSL specification, "Shader parameters").
use Rattle.std.specs.Prelude.{ℕ, Bool, false, if◌then◌else◌, List, Option, None, Some, option_map, option_and_then, unwrap_or, slice_get}
use Rattle.osl_value.specs.AnyValue.{AnyValue, Of, converted}
use Rattle.osl_value.specs.Plain.{Plain}
use Rattle.osl_layer.specs.Layer.{Input, From, Fixed, Default, Inputs, LayerEnd, LayerResults}
use Rattle.osl_network.specs.declared.variables.Var.{Var}
use Rattle.osl_network.specs.declared.port.Port.{Port}
use Rattle.osl_network.specs.Network.{Place, Layer}
use Rattle.osl_network.specs.Points.{variable_of}

-- what an output holds at the end of its layer, where the layer gave something
abbrev pub output_of : LayerResults → ℕ → Option AnyValue
output_of results k = option_and_then (λ found. found) (slice_get results.outputs k)

abbrev pub output_at : List LayerEnd → Place → Option AnyValue
output_at ends place = option_and_then (λ results. output_of results place.1) (option_and_then (λ end. end.results) (slice_get ends place.0))

-- an instance value, or the default
abbrev pub instance : Option Plain → Input
instance None = Default
instance (Some v) = Fixed (Of v)

-- a variable of the point comes before the instance value
abbrev pub overridden : Option Plain → Option Plain → Option Plain
overridden None value = value
overridden (Some v) value = Some v

-- what a parameter holds that is not connected. Where it is interactive, the point's variable of its name and type takes the place of the instance value
abbrev pub held : List Var → Port → (interactive : Bool) → Option Plain → Option Plain
held vars port interactive value = if interactive then overridden (variable_of vars port.name port.ty) value else value

-- a connected parameter is given its source's output, converted as in an assignment, or nothing where the source's layer gave nothing
abbrev pub given : List Var → List LayerEnd → Port → (interactive : Bool) → Option Plain → Option Place → Input
given vars ends port interactive value None = instance (held vars port interactive value)
given vars ends port interactive value (Some place) = From (option_map (converted port.ty) (output_at ends place))

-- what the parameter of a number is given, if it is there
abbrev pub given_at : List Var → List LayerEnd → List (Option Plain) → Layer → ℕ → Option Port → Input
given_at vars ends values layer k None = Default
given_at vars ends values layer k (Some port) =
    given vars ends port (unwrap_or (slice_get layer.interactive k) false) (unwrap_or (slice_get values k) None) (unwrap_or (slice_get layer.sources k) None)

-- the inputs of a layer under instance values, at a point's variables, where the layers before it ended so
abbrev pub inputs_of : List Var → List LayerEnd → List (Option Plain) → Layer → Inputs
inputs_of vars ends values layer k = given_at vars ends values layer k (slice_get layer.ports k)
