-- The sections of a shader's code: those of the defaults that are not stated in symbols, one after another, before that of the body.
use Rattle.std.specs.Prelude.{ℕ, ◌+◌, ◌≤◌, ◌≡◌, false, List, [], ◌∷◌, ◌++◌, length, Option, Some, None, slice_get}
use Rattle.osl_value.specs.AnyValue.{AnyValue}
use Rattle.osl_layer.specs.Layer.{Inputs, Default}
use Rattle.osl_typed.specs.declared.shader.TypedParam.{TypedParam}
use Rattle.osl_typed.specs.declared.shader.TypedShader.{TypedShader}
use Rattle.osl_typed.specs.Ends.{Next}
use Rattle.osl_typed.specs.Parts.{Frame}
use Rattle.osl_typed.specs.SourceRun.{default_held, functions_of}
use Rattle.osl_typed.specs.State.{State, write_leaves}
use Rattle.oso_code.specs.declared.op.Op.{Op}
use Rattle.oso_code.specs.declared.op.Section.{Section}
use Rattle.oso_code.specs.declared.symbol.Symbol.{Symbol}
use Rattle.osl_gencode.specs.Bodies.{Body}
use Rattle.osl_gencode.specs.Codes.{StmtCode}
use Rattle.osl_gencode.specs.Pieces.{Piece}
use Rattle.osl_gencode.specs.ShaderSymbols.{Defaults}

-- the frame of the shader's source
abbrev pub source_frame : TypedShader → Inputs → Frame
source_frame t inputs = record { structures = t.structures; kinds = t.frame; inputs = inputs }

-- the code that was added evaluates a default, as the section of its parameter
pub record DefaultCode (t : TypedShader) (b : Body) (d k : ℕ) (p : TypedParam) (ops0 ops1 : List Op) (syms0 syms1 : List Symbol) : Type 0 where
  pub code : StmtCode b [] ops0 ops1 syms0 syms1 (λ inputs. default_held (source_frame t inputs) (functions_of t) Default k p)
  pub valid : Piece t.kind (Some k) false d ops0 ops1 syms0 syms1

-- a section of the ops that were added
abbrev pub section_of : Option ℕ → List Op → List Op → Section
section_of param ops0 ops1 = record { param = param; start = length ops0; end = length ops1 }

-- The first n parameters have their sections, in order. Defaults that are stated come first.
pub data HaveSections (t : TypedShader) (b : Body) (defaults : Defaults) (d : ℕ) : ℕ → List Section → List Op → List Symbol → Type 0 where
  none : (syms : List Symbol) → HaveSections t b defaults d 0 [] [] syms
  stated : (n : ℕ) (p : TypedParam) (v : AnyValue) (sections : List Section) (ops : List Op) (syms : List Symbol) → slice_get t.params n ≡ Some p → defaults n ≡ Some v → ((inputs : Inputs) (s : State) → default_held (source_frame t inputs) (functions_of t) Default n p s ≡ Next (write_leaves n (v ∷ []) s)) → HaveSections t b defaults d n sections ops syms → HaveSections t b defaults d (n + 1) sections ops syms
  more : (n : ℕ) (p : TypedParam) (sections : List Section) (ops0 ops1 : List Op) (syms0 syms1 : List Symbol) → slice_get t.params n ≡ Some p → ((j : ℕ) → n ≤ j → defaults j ≡ None) → DefaultCode t b d n p ops0 ops1 syms0 syms1 → HaveSections t b defaults d n sections ops0 syms0 → HaveSections t b defaults d (n + 1) (sections ++ section_of (Some n) ops0 ops1 ∷ []) ops1 syms1
