-- What whoever gives inputs to a source is told of its parameters.
use Rattle.std.specs.Prelude.{List, map}
use Rattle.osl_layer.specs.Layer.{Parameter}
use Rattle.osl_typed.specs.declared.shader.TypedParam.{TypedParam}
use Rattle.osl_typed.specs.declared.shader.TypedShader.{TypedShader}

abbrev pub parameter_of : TypedParam → Parameter
parameter_of p = record { output = p.output; ty = p.ty }

-- the parameters, as whoever gives inputs sees them
abbrev pub parameters_of : TypedShader → List Parameter
parameters_of t = map parameter_of t.params
