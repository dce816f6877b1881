-- What a layer gives, run from its code (OSL specification, "Shader parameters" and "Global variables"; oso text, sections).
use Rattle.std.specs.Prelude.{ℕ, ◌+◌, Bool, true, false, ◌&&◌, if◌then◌else◌, List, [], ◌∷◌, filter, map, Option, Some, None, slice_get}
use Rattle.std.specs.Str.{bytes_eq}
use Rattle.osl_value.specs.declared.closure.Part.{Part}
use Rattle.osl_value.specs.declared.point.Point.{Point}
use Rattle.osl_value.specs.declared.types.Ty.{Ty}
use Rattle.osl_value.specs.AnyValue.{AnyValue, Of, Parts, parts_of, zero_value}
use Rattle.osl_value.specs.Plain.{Plain}
use Rattle.osl_layer.specs.declared.global.GlobalName.{GlobalName}
use Rattle.osl_layer.specs.declared.global.GlobalName.TheVariants.{Ci}
use Rattle.oso_code.specs.declared.op.Section.{Section}
use Rattle.oso_code.specs.declared.raw.Raw.{Raw}
use Rattle.oso_code.specs.declared.symbol.Class.{Class}
use Rattle.oso_code.specs.declared.symbol.Class.TheVariants.{Param, Oparam, Global, Const, Local, Temp}
use Rattle.oso_code.specs.declared.symbol.Symbol.{Symbol}
use Rattle.osl_layer.specs.Globals.{global_named, global_text, global_at}
use Rattle.osl_layer.specs.Layer.{Input, From, Fixed, Default, Inputs, Parameter, LayerResults, LayerEnd}
use Rattle.oso_code.specs.Ranges.{steps_of}
use Rattle.oso_code.specs.Run.{State, Source, Sources, Own, Wired, Outcome, Next, Jumps, Spent, last, then_do, range}
use Rattle.oso_code.specs.Steps.{Step}
use Rattle.oso_code.specs.Symbols.{is_global, is_parameter}

-- ---- parameters

abbrev pub is_output : Class → Bool
is_output Param = false
is_output Oparam = true
is_output Global = false
is_output Const = false
is_output Local = false
is_output Temp = false

-- what whoever gives inputs is told of a parameter
abbrev pub parameter_of : Symbol → Parameter
parameter_of symbol = record { output = is_output symbol.class; ty = symbol.ty }

-- the parameters, by their numbers: in valid code they are the first symbols
abbrev pub parameters_of : Raw → List Parameter
parameters_of raw = map parameter_of (filter (λ symbol. is_parameter symbol.class) raw.symbols)

-- ---- inputs

abbrev pub source_of : Input → Source
source_of (From given) = Wired given
source_of (Fixed v) = Own
source_of Default = Own

abbrev pub is_parameter_at : Option Symbol → Bool
is_parameter_at None = false
is_parameter_at (Some symbol) = is_parameter symbol.class

-- parameters alone are connected
abbrev pub sources_of : Raw → Inputs → Sources
sources_of raw inputs k = if is_parameter_at (slice_get raw.symbols k) then source_of (inputs k) else Own

-- ---- the start

-- the value that a symbol states, and zero or an empty closure where it states none
abbrev pub stated : Ty → Option Plain → AnyValue
stated ty None = zero_value ty
stated ty (Some v) = Of v

abbrev pub parameter_start : Symbol → Input → AnyValue
parameter_start symbol (From given) = zero_value symbol.ty
parameter_start symbol (Fixed v) = v
parameter_start symbol Default = stated symbol.ty symbol.value

abbrev pub global_start : Ty → Point → Option GlobalName → AnyValue
global_start ty point None = zero_value ty
global_start ty point (Some global) = global_at point global

abbrev pub class_start : Symbol → Input → Point → Class → AnyValue
class_start symbol input point Param = parameter_start symbol input
class_start symbol input point Oparam = parameter_start symbol input
class_start symbol input point Global = global_start symbol.ty point (global_named symbol.name)
class_start symbol input point Const = stated symbol.ty symbol.value
class_start symbol input point Local = zero_value symbol.ty
class_start symbol input point Temp = zero_value symbol.ty

abbrev pub symbol_start : Input → Point → Option Symbol → AnyValue
symbol_start input point None = Parts []
symbol_start input point (Some symbol) = class_start symbol input point symbol.class

abbrev pub start_of : Raw → Inputs → Point → ℕ → State
start_of raw inputs point budget = record {
  values = λ k. symbol_start (inputs k) point (slice_get raw.symbols k);
  turns = budget;
  reads = λ k. false;
  ops = 0;
}

-- ---- the run

abbrev pub is_default : Input → Bool
is_default (From given) = false
is_default (Fixed v) = false
is_default Default = true

-- the sections of defaults that are wanted, and the body
abbrev pub is_run : Inputs → Section → Bool
is_run inputs section = elim (section.param) [ None ↦ true | Some p ↦ is_default (inputs p) ]

-- sections, one after another
abbrev pub run_sections : Sources → List Step → List Section → State → Outcome
run_sections from steps [] s = Next s
run_sections from steps (section ∷ sections) s = then_do (range from steps section.start section.end s) (run_sections from steps sections)

abbrev pub layer_run : Raw → Inputs → Point → ℕ → Outcome
layer_run raw inputs point budget =
    run_sections (sources_of raw inputs) (steps_of raw) (filter (is_run inputs) raw.sections) (start_of raw inputs point budget)

-- ---- what it gives

-- the outputs, one for each parameter, where an input has none
abbrev pub output_of : Class → AnyValue → List (Option AnyValue) → List (Option AnyValue)
output_of Param v outputs = None ∷ outputs
output_of Oparam v outputs = Some v ∷ outputs
output_of Global v outputs = outputs
output_of Const v outputs = outputs
output_of Local v outputs = outputs
output_of Temp v outputs = outputs

abbrev pub outputs_from : ℕ → List Symbol → (ℕ → AnyValue) → List (Option AnyValue)
outputs_from at [] values = []
outputs_from at (symbol ∷ symbols) values = output_of symbol.class (values at) (outputs_from (at + 1) symbols values)

abbrev pub is_ci : Symbol → Bool
is_ci symbol = is_global symbol.class && bytes_eq symbol.name (global_text Ci)

-- the closure of the layer, empty where the code does not name it
abbrev pub closure_from : ℕ → List Symbol → (ℕ → AnyValue) → List Part
closure_from at [] values = []
closure_from at (symbol ∷ symbols) values = if is_ci symbol then parts_of (values at) else closure_from (at + 1) symbols values

abbrev pub results_by : Raw → State → LayerResults
results_by raw s = record { outputs = outputs_from 0 raw.symbols s.values; closure = closure_from 0 raw.symbols s.values }

-- nothing where the run was spent
abbrev results_at : Raw → Outcome → Option LayerResults
results_at raw (Next s) = Some (results_by raw s)
results_at raw (Jumps way s) = Some (results_by raw s)
results_at raw (Spent s) = None

abbrev pub layer_end : Raw → Outcome → LayerEnd
layer_end raw outcome = record { results = results_at raw outcome; reads = (last outcome).reads }

-- A layer run from its code: its outputs and the parts of `Ci`, or nothing where it is spent; and the connected parameters that it read.
unfoldable pub code_run : Raw → Inputs → Point → ℕ → LayerEnd
code_run raw inputs point budget = layer_end raw (layer_run raw inputs point budget)

-- how many ops it ran
unfoldable pub ops_run : Raw → Inputs → Point → ℕ → ℕ
ops_run raw inputs point budget = (last (layer_run raw inputs point budget)).ops
