-- A layer run from its source (OSL specification, sections "Shader parameters" and "Global variables").
use Rattle.std.specs.Prelude.{ℕ, false, nat_lt, ◌+◌, if◌then◌else◌, List, [], ◌∷◌, length, Option, None, Some, slice_get}
use Rattle.std.specs.List.{flat_map}
use Rattle.osl_value.specs.declared.point.Point.{Point}
use Rattle.osl_value.specs.AnyValue.{AnyValue, parts_of, zero_value}
use Rattle.osl_overload.specs.declared.signature.Kind.TheVariants.{Value}
use Rattle.osl_layer.specs.Layer.{Input, From, Fixed, Default, Inputs, LayerEnd}
use Rattle.osl_layer.specs.Globals.{global_at}
use Rattle.osl_typed.specs.Ends.{StatementEnd, Doing, Next, Breaks, Continues, Returns, Exits, Spent, then_do}
use Rattle.osl_layer.specs.declared.global.GlobalName.TheVariants.{Ci}
use Rattle.osl_typed.specs.declared.shader.TypedParam.{TypedParam}
use Rattle.osl_typed.specs.declared.shader.TypedShader.{TypedShader}
use Rattle.osl_typed.specs.Frames.{leaves_of, zero_leaves, place_of}
use Rattle.osl_typed.specs.State.{State, write_leaves}
use Rattle.osl_typed.specs.Parts.{Frame}
use Rattle.osl_typed.specs.Expressions.{Calls}
use Rattle.osl_typed.specs.Statements.{with_value, begun, exec_all, below}

-- ---- the start

-- a parameter with an instance value holds it from the start, and all other variables are zero
abbrev pub start_value : TypedParam → Input → AnyValue
start_value param (From source) = zero_value param.ty
start_value param (Fixed v) = v
start_value param Default = zero_value param.ty

-- what a leaf holds: a parameter is one leaf, and has the first places
abbrev pub started_leaf : Option TypedParam → Input → AnyValue → AnyValue
started_leaf None input other = other
started_leaf (Some param) input other = start_value param input

abbrev pub start_of : TypedShader → Inputs → Point → ℕ → State
start_of t inputs point budget =
    let zeros = zero_leaves (flat_map (leaves_of t.structures) t.frame) in
    record { vars = λ k. started_leaf (slice_get t.params k) (inputs k) (zeros k); globals = global_at point; turns = budget; reads = λ k. false }

-- ---- the run

-- what the parameters are given; other variables are given nothing
abbrev pub given_to : List TypedParam → Inputs → Inputs
given_to params inputs = λ k. if nat_lt k (length params) then inputs k else Default

abbrev pub shader_frame : TypedShader → Inputs → Frame
shader_frame t inputs = record { structures = t.structures; kinds = t.frame; inputs = given_to t.params inputs }

abbrev pub functions_of : TypedShader → Calls
functions_of t = below t.structures t.functions (length t.functions)

-- a default is evaluated where the parameter has nothing else
abbrev pub default_held : Frame → Calls → Input → ℕ → TypedParam → Doing
default_held frame calls (From source) k param s = Next s
default_held frame calls (Fixed v) k param s = Next s
default_held frame calls Default k param s =
    with_value (begun frame calls (Value param.ty) param.init s) (λ vs s1. Next (write_leaves (place_of frame.structures frame.kinds k) vs s1))

-- the defaults of the parameters from the k-th on, in order
unfoldable pub defaults_held : Frame → Calls → ℕ → List TypedParam → Doing
defaults_held frame calls k [] s = Next s
defaults_held frame calls k (param ∷ params) s =
    then_do (default_held frame calls (frame.inputs k) k param s) (defaults_held frame calls (k + 1) params)

-- the defaults, and then the body
abbrev pub layer_run : TypedShader → Inputs → Doing
layer_run t inputs s =
    let frame = shader_frame t inputs in
    then_do (defaults_held frame (functions_of t) 0 t.params s) (exec_all frame (functions_of t) t.body)

-- ---- the end

unfoldable pub outputs_from : (ℕ → AnyValue) → ℕ → List TypedParam → List (Option AnyValue)
outputs_from vars k [] = []
outputs_from vars k (param ∷ params) = (if param.output then Some (vars k) else None) ∷ outputs_from vars (k + 1) params

abbrev results_by : TypedShader → State → LayerEnd
results_by t s = record { results = Some (record { outputs = outputs_from s.vars 0 t.params; closure = parts_of (s.globals Ci) }); reads = s.reads }

abbrev pub layer_end : TypedShader → StatementEnd → LayerEnd
layer_end t (Next s) = results_by t s
layer_end t (Breaks s) = results_by t s
layer_end t (Continues s) = results_by t s
layer_end t (Returns v s) = results_by t s
layer_end t (Exits s) = results_by t s
layer_end t (Spent s) = record { results = None; reads = s.reads }

-- A layer run from its source: its outputs and the parts of `Ci`, or nothing where it is spent; and the connected parameters that it read.
unfoldable pub source_run : TypedShader → Inputs → Point → ℕ → LayerEnd
source_run t inputs point budget = layer_end t (layer_run t inputs (start_of t inputs point budget))
