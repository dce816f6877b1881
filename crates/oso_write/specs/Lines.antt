-- The lines of a shader's text, each the list of its words: what the grammar of the text says, line by line.
use Rattle.std.specs.Prelude.{codes, ℕ, List, [], ◌∷◌, ◌++◌, map, Option, None, Some, option_map, unwrap_or, slice_get, slice_range}
use Rattle.std.specs.Fmt.{decimal}
use Rattle.std.specs.List.{flat_map}
use Rattle.osl_value.specs.OpText.{name_of}
use Rattle.osl_value.specs.Plain.{Plain}
use Rattle.oso_code.specs.declared.op.Op.{Op}
use Rattle.oso_code.specs.declared.op.Section.{Section}
use Rattle.oso_code.specs.declared.raw.Raw.{Raw}
use Rattle.oso_code.specs.declared.symbol.Meta.{Meta}
use Rattle.oso_code.specs.declared.symbol.Symbol.{Symbol}
use Rattle.oso_code.specs.Names.{main_name}
use Rattle.oso_write.specs.Names.{kind_name, class_name, type_words}
use Rattle.osl_valuetext.specs.Words.{type_text, value_words, behind}

abbrev pub Line : Type 0
Line = List (List ℕ)

-- `OpenShadingLanguage 1.00`
abbrev pub header : Line
header = codes "OpenShadingLanguage" ∷ codes "1.00" ∷ []

-- `%meta{TYPE,NAME,V,V}`: one datum of metadata, which is one word
abbrev pub meta_text : Meta → List ℕ
meta_text m = codes "%meta{" ++ type_text m.ty ++ behind 44 (m.name ∷ value_words m.ty.base m.nums m.texts) ++ 125 ∷ []

-- `KIND NAME METAS`
abbrev pub shader_line : Raw → Line
shader_line raw = kind_name raw.kind ∷ raw.name ∷ map meta_text raw.metas

abbrev pub start_words : Option Plain → List (List ℕ)
start_words None = []
start_words (Some v) = value_words v.ty.base v.nums v.texts

-- `CLASS TYPE NAME VALUES METAS`
abbrev pub symbol_line : Symbol → Line
symbol_line s = class_name s.class ∷ type_words s.ty ++ s.name ∷ start_words s.value ++ map meta_text s.metas

-- the name of the symbol of a number
abbrev pub name_at : List Symbol → ℕ → List ℕ
name_at symbols k = unwrap_or (option_map (λ s. s.name) (slice_get symbols k)) []

-- `OP ARGUMENTS JUMPS`
abbrev pub op_line : List Symbol → Op → Line
op_line symbols op = name_of op.name ∷ map (name_at symbols) op.args ++ map decimal op.jumps

-- a section's name: its parameter's, or the body's
abbrev pub section_name : List Symbol → Option ℕ → List ℕ
section_name symbols None = main_name
section_name symbols (Some param) = name_at symbols param

-- `code NAME`, and then a line for each op
abbrev pub section_lines : Raw → Section → List Line
section_lines raw s = (codes "code" ∷ section_name raw.symbols s.param ∷ []) ∷ map (op_line raw.symbols) (slice_range raw.ops s.start s.end)

-- all of them: the header, the shader, its symbols, its sections, and `end`
abbrev pub lines_of : Raw → List Line
lines_of raw = header ∷ shader_line raw ∷ map symbol_line raw.symbols ++ flat_map (section_lines raw) raw.sections ++ (codes "end" ∷ []) ∷ []
