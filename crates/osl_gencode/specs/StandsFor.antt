-- Code that means what a source means: the same shader, and the same runs.
use Rattle.std.specs.Prelude.{ℕ, ◌≡◌, ◌≤◌, Bool, filter, List, length, map}
use Rattle.osl_value.specs.declared.point.Point.{Point}
use Rattle.osl_value.specs.declared.types.Ty.{Ty}
use Rattle.osl_layer.specs.Layer.{Inputs, AreInputs}
use Rattle.osl_typed.specs.declared.shader.TypedShader.{TypedShader}
use Rattle.osl_typed.specs.declared.shader.TypedParam.{TypedParam}
use Rattle.osl_typed.specs.declared.shader.TypedDatum.{TypedDatum}
use Rattle.osl_typed.specs.Metadata.{datum_numbers, datum_texts}
use Rattle.osl_typed.specs.SourceRun.{source_run}
use Rattle.osl_typed.specs.Sizes.{size_of, slots_of}
use Rattle.oso_code.specs.declared.raw.Raw.{Raw}
use Rattle.oso_code.specs.declared.symbol.Meta.{Meta}
use Rattle.oso_code.specs.declared.symbol.Symbol.{Symbol}
use Rattle.oso_code.specs.CodeRun.{is_output, code_run}
use Rattle.oso_code.specs.Symbols.{is_parameter}
use Rattle.oso_code.specs.Valid as valid
use Rattle.osl_typed_runs.specs.Parameters.{parameters_of}

-- ---- parameters and metadata

abbrev pub meta_of : TypedDatum → Meta
meta_of datum = record { ty = datum.ty; name = datum.name; nums = datum_numbers datum; texts = datum_texts datum }

-- what is told of a parameter: whether it is an output, its type, its name and its metadata
pub record Told : Type 0 where
  pub output : Bool
  pub ty : Ty
  pub name : List ℕ
  pub metas : List Meta

abbrev pub told_of_param : TypedParam → Told
told_of_param p = record { output = p.output; ty = p.ty; name = p.name; metas = map meta_of p.metadata }

abbrev pub told_of_symbol : Symbol → Told
told_of_symbol symbol = record { output = is_output symbol.class; ty = symbol.ty; name = symbol.name; metas = symbol.metas }

-- ---- the whole

pub record StandsFor (raw : Raw) (t : TypedShader) : Type 0 where
  pub kind : raw.kind ≡ t.kind
  pub name : raw.name ≡ t.name
  pub metas : raw.metas ≡ map meta_of t.metadata
  pub params : map told_of_symbol (filter (λ symbol. is_parameter symbol.class) raw.symbols) ≡ map told_of_param t.params
  -- for all inputs that fit, all points and all budgets: the same outputs and the same closure, or nothing on both sides, and the same reads
  pub runs : (inputs : Inputs) (point : Point) (budget : ℕ) → AreInputs (parameters_of t) inputs → code_run raw inputs point budget ≡ source_run t inputs point budget

-- the code is no larger than was counted for the source
pub record IsCounted (raw : Raw) (t : TypedShader) : Type 0 where
  pub ops : length raw.ops ≤ size_of t
  pub symbols : length raw.symbols ≤ size_of t
  pub slots : valid.slots_of raw.symbols ≤ slots_of t
