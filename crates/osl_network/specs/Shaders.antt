-- What groups see of shaders, and what runs their layers: of code, and of a source's typed tree.
use Rattle.std.specs.Prelude.{codes, ℕ, Bool, false, ◌&&◌, ℤ, List, [], ◌∷◌, map, filter, Option, None, Some, slice_get}
use Rattle.std.specs.List.{list_any}
use Rattle.std.specs.Str.{bytes_eq}
use Rattle.osl_value.specs.declared.types.Base.TheVariants.{Int}
use Rattle.osl_value.specs.declared.types.Ty.{Ty}
use Rattle.osl_value.specs.Numbers.{is_zero}
use Rattle.osl_value.specs.Types.{is_only}
use Rattle.osl_typed.specs.declared.shader.TypedDatum.{TypedDatum}
use Rattle.osl_typed.specs.declared.shader.TypedParam.{TypedParam}
use Rattle.osl_typed.specs.declared.shader.TypedShader.{TypedShader}
use Rattle.osl_typed.specs.Metadata.{datum_numbers}
use Rattle.osl_typed.specs.SourceRun.{source_run}
use Rattle.oso_code.specs.declared.raw.Raw.{Raw}
use Rattle.oso_code.specs.declared.symbol.Meta.{Meta}
use Rattle.oso_code.specs.declared.symbol.Symbol.{Symbol}
use Rattle.oso_code.specs.CodeRun.{is_output, code_run}
use Rattle.oso_code.specs.Symbols.{is_parameter}
use Rattle.osl_network.specs.declared.port.Port.{Port}
use Rattle.osl_network.specs.Network.{Network}
use Rattle.osl_network.specs.Runs.{Running, Runnings, nothing}

-- ---- metadata

abbrev pub are_zero : List ℤ → Bool
are_zero [] = false
are_zero (n ∷ []) = is_zero n
are_zero (n ∷ m ∷ rest) = false

-- `int lockgeom = 0`
abbrev pub unlocks : Ty → List ℕ → List ℤ → Bool
unlocks ty name nums = (is_only Int ty && bytes_eq name (codes "lockgeom")) && are_zero nums

-- ---- code

abbrev pub meta_unlocks : Meta → Bool
meta_unlocks meta = unlocks meta.ty meta.name meta.nums

abbrev pub port_of : Symbol → Port
port_of symbol = record { name = symbol.name; ty = symbol.ty; output = is_output symbol.class; loose = list_any meta_unlocks symbol.metas }

-- the parameters, which in valid code are the first symbols
abbrev pub ports_of : Raw → List Port
ports_of raw = map port_of (filter (λ symbol. is_parameter symbol.class) raw.symbols)

-- ---- sources

abbrev pub datum_unlocks : TypedDatum → Bool
datum_unlocks datum = unlocks datum.ty datum.name (datum_numbers datum)

abbrev pub port_of_param : TypedParam → Port
port_of_param param = record { name = param.name; ty = param.ty; output = param.output; loose = list_any datum_unlocks param.metadata }

abbrev pub ports_of_source : TypedShader → List Port
ports_of_source shader = map port_of_param shader.params

-- ---- what runs layers

-- a layer of a number, where there may be none
abbrev pub running_of : {S : Type 0} → (S → Running) → Option S → Running
running_of run None inputs point budget = nothing
running_of run (Some shader) inputs point budget = run shader inputs point budget

-- the shader of the layer of a number, among those that are loaded
abbrev pub shader_of : {S : Type 0} → List S → Network → ℕ → Option S
shader_of shaders net l = elim (slice_get net.layers l) [ None ↦ None | Some layer ↦ slice_get shaders layer.shader ]

-- each layer by its loaded code, and by its source
abbrev pub code_runs : List Raw → Network → Runnings
code_runs shaders net l = running_of code_run (shader_of shaders net l)

abbrev pub source_runs : List TypedShader → Network → Runnings
source_runs shaders net l = running_of source_run (shader_of shaders net l)

-- code for each layer, and none for one that is dropped
abbrev pub given_runs : List (Option Raw) → Runnings
given_runs layers l = elim (slice_get layers l) [ None ↦ running_of code_run None | Some found ↦ running_of code_run found ]
