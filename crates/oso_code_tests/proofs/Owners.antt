-- Which symbols may have a section, which ops may be in one, which globals a shader of a kind may write, and which data may be on a symbol.
use Rattle.std.proofs.Common.{◌≡◌, ℕ, refl}
use Rattle.std.specs.Int.{int_wrap}
use Rattle.std.specs.Prelude.{ℤ, pos, List, [], ◌∷◌, ◌++◌, codes, map, replicate, None, Some}
use Rattle.osl_value.specs.declared.op_name.OpName.TheVariants as op
use Rattle.osl_value.specs.declared.shader_kind.ShaderKind.TheVariants as kinds
use Rattle.osl_value.specs.declared.types.Base.TheVariants as base
use Rattle.osl_value.specs.declared.types.Ty.{Ty}
use Rattle.osl_value.specs.Apply.{is_allowed}
use Rattle.osl_value.specs.Types.{only}
use Rattle.oso_code.specs.declared.error.FlawKind.TheVariants as flaw
use Rattle.oso_code.specs.declared.op.Op.{Op}
use Rattle.oso_code.specs.declared.raw.Raw.{Raw}
use Rattle.oso_code.specs.declared.symbol.Class.TheVariants as class
use Rattle.oso_code.specs.declared.symbol.Meta.{Meta}
use Rattle.oso_code.specs.declared.symbol.Symbol.{Symbol}
use Rattle.oso_code.specs.Steps.{step_of}
use Rattle.oso_code.specs.Valid.{first_flaw}
use Rattle.oso_code_tests.proofs.Words.{minus, row, symbol, valued, input, plain, jumping, section, of_kind, code, body}

-- ---- a symbol that has the second of two sections of parameters

abbrev in_section : Symbol → Raw
in_section second = code (input ∷ second ∷ []) (section (Some 0) 0 1 ∷ section (Some 1) 1 2 ∷ section None 2 3 ∷ []) (replicate 3 (plain op.Return []))

-- parameters whose values are zeros, each number of them, and strings that are empty
sections_of_0 : map (λ symbol. first_flaw (in_section symbol))
    (valued class.Param (only base.Float) (codes "b") (pos 0 ∷ []) []
    ∷ valued class.Param (only base.Float) (codes "b") (pos 1 ∷ []) []
    ∷ valued class.Param (only base.Float) (codes "b") (minus 1 ∷ []) []
    ∷ valued class.Param (only base.Int) (codes "b") (pos 0 ∷ []) []
    ∷ valued class.Param (only base.Int) (codes "b") (minus 7 ∷ []) []
    ∷ valued class.Oparam (only base.Int) (codes "b") (pos 0 ∷ []) []
    ∷ valued class.Oparam (only base.Int) (codes "b") (pos 7 ∷ []) []
    ∷ valued class.Param (only base.Color) (codes "b") (pos 0 ∷ pos 0 ∷ pos 0 ∷ []) [] ∷ [])
    ≡ (None ∷ Some (flaw.Op, 1) ∷ Some (flaw.Op, 1) ∷ None ∷ Some (flaw.Op, 1) ∷ None ∷ Some (flaw.Op, 1) ∷ None ∷ [])
unfolding first_flaw step_of is_allowed int_wrap
sections_of_0 = refl

sections_of_1 : map (λ symbol. first_flaw (in_section symbol))
    (valued class.Param (only base.Color) (codes "b") (pos 1 ∷ pos 0 ∷ pos 0 ∷ []) []
    ∷ valued class.Param (only base.Normal) (codes "b") (pos 0 ∷ pos 0 ∷ pos 1 ∷ []) []
    ∷ valued class.Param (row 3 base.Int) (codes "b") (pos 0 ∷ pos 0 ∷ pos 0 ∷ []) []
    ∷ valued class.Param (row 3 base.Int) (codes "b") (pos 0 ∷ pos 0 ∷ pos 1 ∷ []) []
    ∷ valued class.Oparam (row 2 base.Float) (codes "b") (pos 1 ∷ minus 1 ∷ []) []
    ∷ valued class.Param (only base.Matrix) (codes "b") (pos 0 ∷ pos 0 ∷ pos 0 ∷ pos 0 ∷ pos 0 ∷ pos 0 ∷ pos 0 ∷ pos 0 ∷ pos 0 ∷ pos 0 ∷ pos 0 ∷ pos 0 ∷ pos 0 ∷ pos 0 ∷ pos 0 ∷ pos 0 ∷ []) []
    ∷ valued class.Param (only base.Matrix) (codes "b") (pos 1 ∷ pos 0 ∷ pos 0 ∷ pos 0 ∷ pos 0 ∷ pos 1 ∷ pos 0 ∷ pos 0 ∷ pos 0 ∷ pos 0 ∷ pos 1 ∷ pos 0 ∷ pos 0 ∷ pos 0 ∷ pos 0 ∷ pos 1 ∷ []) []
    ∷ valued class.Oparam (only base.Matrix) (codes "b") (pos 0 ∷ pos 0 ∷ pos 0 ∷ pos 0 ∷ pos 0 ∷ pos 0 ∷ pos 0 ∷ pos 0 ∷ pos 0 ∷ pos 0 ∷ pos 0 ∷ pos 0 ∷ pos 0 ∷ pos 0 ∷ pos 0 ∷ pos 1 ∷ []) [] ∷ [])
    ≡ (Some (flaw.Op, 1) ∷ Some (flaw.Op, 1) ∷ None ∷ Some (flaw.Op, 1) ∷ Some (flaw.Op, 1) ∷ None ∷ Some (flaw.Op, 1) ∷ Some (flaw.Op, 1) ∷ [])
unfolding first_flaw step_of is_allowed int_wrap
sections_of_1 = refl

-- closures, which have no value
-- symbols that are no parameters
sections_of_2 : map (λ symbol. first_flaw (in_section symbol))
    (valued class.Param (only base.Str) (codes "b") [] ([] ∷ [])
    ∷ valued class.Param (only base.Str) (codes "b") [] (codes "0" ∷ [])
    ∷ valued class.Oparam (row 2 base.Str) (codes "b") [] ([] ∷ [] ∷ [])
    ∷ valued class.Oparam (row 2 base.Str) (codes "b") [] ([] ∷ codes " " ∷ [])
    ∷ symbol class.Param (only base.Closure) (codes "b") None
    ∷ symbol class.Oparam (only base.Closure) (codes "b") None
    ∷ valued class.Const (only base.Int) (codes "b") (pos 0 ∷ []) []
    ∷ valued class.Const (only base.Str) (codes "b") [] ([] ∷ []) ∷ [])
    ≡ (None ∷ Some (flaw.Op, 1) ∷ None ∷ Some (flaw.Op, 1) ∷ None ∷ None ∷ Some (flaw.Op, 1) ∷ Some (flaw.Op, 1) ∷ [])
unfolding first_flaw step_of is_allowed int_wrap
sections_of_2 = refl

sections_of_3 : map (λ symbol. first_flaw (in_section symbol))
    (symbol class.Global (only base.Normal) (codes "N") None
    ∷ symbol class.Global (only base.Closure) (codes "Ci") None
    ∷ symbol class.Local (only base.Float) (codes "b") None
    ∷ symbol class.Temp (only base.Float) (codes "b") None ∷ [])
    ≡ (Some (flaw.Op, 1) ∷ Some (flaw.Op, 1) ∷ Some (flaw.Op, 1) ∷ Some (flaw.Op, 1) ∷ [])
unfolding first_flaw step_of is_allowed int_wrap
sections_of_3 = refl

-- ---- sections read no later parameter, and write their own alone; the body writes outputs

abbrev seven : List Symbol
seven = valued class.Param (only base.Float) (codes "a") (pos 0 ∷ []) []
    ∷ valued class.Oparam (row 1 base.Float) (codes "q") (pos 0 ∷ []) []
    ∷ valued class.Param (only base.Float) (codes "b") (pos 0 ∷ []) []
    ∷ valued class.Param (only base.Int) (codes "c") (pos 0 ∷ []) []
    ∷ valued class.Oparam (only base.Float) (codes "r") (pos 0 ∷ []) []
    ∷ valued class.Const (only base.Int) (codes "$0") (pos 0 ∷ []) []
    ∷ symbol class.Local (only base.Float) (codes "t") None ∷ []

-- a section reads an earlier parameter and its own
-- a section reads a later parameter
-- a section reads a later parameter into a variable
-- the last operand is a later parameter
-- a section reads an element of a later output
in_sections_0 : (first_flaw (code seven (section (Some 2) 0 1 ∷ section None 1 1 ∷ []) (plain op.Add (2 ∷ 2 ∷ 0 ∷ []) ∷ []))
    ∷ first_flaw (code seven (section (Some 0) 0 1 ∷ section None 1 1 ∷ []) (plain op.Assign (0 ∷ 2 ∷ []) ∷ []))
    ∷ first_flaw (code seven (section (Some 0) 0 2 ∷ section None 2 2 ∷ []) (plain op.Assign (0 ∷ 5 ∷ []) ∷ plain op.Assign (6 ∷ 2 ∷ []) ∷ []))
    ∷ first_flaw (code seven (section (Some 0) 0 1 ∷ section None 1 1 ∷ []) (plain op.Add (0 ∷ 6 ∷ 4 ∷ []) ∷ []))
    ∷ first_flaw (code seven (section (Some 0) 0 1 ∷ section None 1 1 ∷ []) (plain op.ARef (6 ∷ 1 ∷ 5 ∷ []) ∷ [])) ∷ [])
    ≡ (None ∷ Some (flaw.Op, 0) ∷ Some (flaw.Op, 1) ∷ Some (flaw.Op, 0) ∷ Some (flaw.Op, 0) ∷ [])
unfolding first_flaw step_of is_allowed int_wrap
in_sections_0 = refl

-- a section reads an element of an earlier output
-- a condition is a later parameter
-- a condition is the section's parameter
-- an element of a later output is written
-- an element of an earlier output is written
in_sections_1 : (first_flaw (code seven (section (Some 0) 0 1 ∷ section (Some 2) 1 2 ∷ section None 2 2 ∷ []) (plain op.Assign (0 ∷ 5 ∷ []) ∷ plain op.ARef (2 ∷ 1 ∷ 5 ∷ []) ∷ []))
    ∷ first_flaw (code seven (section (Some 0) 0 1 ∷ section None 1 1 ∷ []) (jumping op.If (3 ∷ []) (1 ∷ 1 ∷ []) ∷ []))
    ∷ first_flaw (code seven (section (Some 3) 0 1 ∷ section None 1 1 ∷ []) (jumping op.If (3 ∷ []) (1 ∷ 1 ∷ []) ∷ []))
    ∷ first_flaw (code seven (section (Some 0) 0 1 ∷ section None 1 1 ∷ []) (plain op.AAssign (1 ∷ 5 ∷ 6 ∷ []) ∷ []))
    ∷ first_flaw (code seven (section (Some 2) 0 1 ∷ section None 1 1 ∷ []) (plain op.AAssign (1 ∷ 5 ∷ 6 ∷ []) ∷ [])) ∷ [])
    ≡ (None ∷ Some (flaw.Op, 0) ∷ None ∷ Some (flaw.Op, 0) ∷ None ∷ [])
unfolding first_flaw step_of is_allowed int_wrap
in_sections_1 = refl

-- a later output is written whole
-- a variable comes behind all parameters
-- a section writes an earlier parameter
-- a section writes a later parameter
-- the next section writes the parameter
in_sections_2 : (first_flaw (code seven (section (Some 0) 0 1 ∷ section None 1 1 ∷ []) (plain op.Assign (4 ∷ 6 ∷ []) ∷ []))
    ∷ first_flaw (code seven (section (Some 0) 0 1 ∷ section None 1 1 ∷ []) (plain op.Assign (0 ∷ 6 ∷ []) ∷ []))
    ∷ first_flaw (code seven (section (Some 2) 0 1 ∷ section None 1 1 ∷ []) (plain op.Assign (0 ∷ 6 ∷ []) ∷ []))
    ∷ first_flaw (code seven (section (Some 0) 0 1 ∷ section None 1 1 ∷ []) (plain op.Assign (2 ∷ 6 ∷ []) ∷ []))
    ∷ first_flaw (code seven (section (Some 0) 0 1 ∷ section (Some 2) 1 2 ∷ section None 2 2 ∷ []) (plain op.Assign (0 ∷ 6 ∷ []) ∷ plain op.Assign (0 ∷ 6 ∷ []) ∷ [])) ∷ [])
    ≡ (None ∷ None ∷ Some (flaw.Op, 0) ∷ Some (flaw.Op, 0) ∷ Some (flaw.Op, 1) ∷ [])
unfolding first_flaw step_of is_allowed int_wrap
in_sections_2 = refl

-- an op behind an empty section
-- the body reads parameters
-- the body writes a parameter
-- a section at fault before an op at fault
-- an op at fault before a section at fault
in_sections_3 : (first_flaw (code seven (section (Some 0) 0 0 ∷ section (Some 2) 0 1 ∷ section None 1 1 ∷ []) (plain op.Assign (2 ∷ 0 ∷ []) ∷ []))
    ∷ first_flaw (code seven (section None 0 2 ∷ []) (plain op.Add (4 ∷ 0 ∷ 2 ∷ []) ∷ plain op.ARef (4 ∷ 1 ∷ 3 ∷ []) ∷ []))
    ∷ first_flaw (code seven (section (Some 0) 0 1 ∷ section None 1 2 ∷ []) (plain op.Assign (0 ∷ 6 ∷ []) ∷ plain op.Assign (0 ∷ 6 ∷ []) ∷ []))
    ∷ first_flaw (code seven (section (Some 2) 0 1 ∷ section (Some 0) 1 2 ∷ section None 2 3 ∷ []) (plain op.Assign (2 ∷ 0 ∷ []) ∷ plain op.Assign (6 ∷ 6 ∷ []) ∷ plain op.Assign (5 ∷ 6 ∷ []) ∷ []))
    ∷ first_flaw (code seven (section (Some 2) 0 1 ∷ section (Some 0) 1 2 ∷ section None 2 2 ∷ []) (plain op.Assign (5 ∷ 6 ∷ []) ∷ plain op.Assign (6 ∷ 6 ∷ []) ∷ [])) ∷ [])
    ≡ (None ∷ None ∷ Some (flaw.Op, 1) ∷ Some (flaw.Op, 1) ∷ Some (flaw.Op, 0) ∷ [])
unfolding first_flaw step_of is_allowed int_wrap
in_sections_3 = refl

-- ---- every kind reads all globals, and each writes its own

abbrev globals : List Symbol
globals = symbol class.Global (only base.Point) (codes "P") None
    ∷ symbol class.Global (only base.Normal) (codes "N") None
    ∷ symbol class.Global (only base.Normal) (codes "Ng") None
    ∷ symbol class.Global (only base.Vector) (codes "I") None
    ∷ symbol class.Global (only base.Float) (codes "u") None
    ∷ symbol class.Global (only base.Float) (codes "v") None
    ∷ symbol class.Global (only base.Closure) (codes "Ci") None
    ∷ symbol class.Local (only base.Point) (codes "p") None
    ∷ symbol class.Local (only base.Normal) (codes "n") None
    ∷ symbol class.Local (only base.Normal) (codes "ng") None
    ∷ symbol class.Local (only base.Vector) (codes "i") None
    ∷ symbol class.Local (only base.Float) (codes "x") None
    ∷ symbol class.Local (only base.Float) (codes "y") None
    ∷ symbol class.Local (only base.Closure) (codes "c") None ∷ []

abbrev reads : List Op
reads = plain op.Assign (7 ∷ 0 ∷ []) ∷ plain op.Assign (8 ∷ 1 ∷ []) ∷ plain op.Assign (9 ∷ 2 ∷ []) ∷ plain op.Assign (10 ∷ 3 ∷ []) ∷ plain op.Assign (11 ∷ 4 ∷ []) ∷ plain op.Assign (12 ∷ 5 ∷ []) ∷ plain op.Assign (13 ∷ 6 ∷ []) ∷ []

written_by_surface : map (λ k. first_flaw (of_kind kinds.Surface globals (section None 0 8 ∷ []) (reads ++ plain op.Assign (k ∷ k ∷ []) ∷ []))) (0 ∷ 1 ∷ 2 ∷ 3 ∷ 4 ∷ 5 ∷ 6 ∷ [])
    ≡ (Some (flaw.Op, 7) ∷ Some (flaw.Op, 7) ∷ Some (flaw.Op, 7) ∷ Some (flaw.Op, 7) ∷ Some (flaw.Op, 7) ∷ Some (flaw.Op, 7) ∷ None ∷ [])
unfolding first_flaw step_of is_allowed int_wrap
written_by_surface = refl

written_by_displacement : map (λ k. first_flaw (of_kind kinds.Displacement globals (section None 0 8 ∷ []) (reads ++ plain op.Assign (k ∷ k ∷ []) ∷ []))) (0 ∷ 1 ∷ 2 ∷ 3 ∷ 4 ∷ 5 ∷ 6 ∷ [])
    ≡ (None ∷ None ∷ Some (flaw.Op, 7) ∷ Some (flaw.Op, 7) ∷ Some (flaw.Op, 7) ∷ Some (flaw.Op, 7) ∷ Some (flaw.Op, 7) ∷ [])
unfolding first_flaw step_of is_allowed int_wrap
written_by_displacement = refl

written_by_volume : map (λ k. first_flaw (of_kind kinds.Volume globals (section None 0 8 ∷ []) (reads ++ plain op.Assign (k ∷ k ∷ []) ∷ []))) (0 ∷ 1 ∷ 2 ∷ 3 ∷ 4 ∷ 5 ∷ 6 ∷ [])
    ≡ (Some (flaw.Op, 7) ∷ Some (flaw.Op, 7) ∷ Some (flaw.Op, 7) ∷ Some (flaw.Op, 7) ∷ Some (flaw.Op, 7) ∷ Some (flaw.Op, 7) ∷ None ∷ [])
unfolding first_flaw step_of is_allowed int_wrap
written_by_volume = refl

written_by_shader : map (λ k. first_flaw (of_kind kinds.Shader globals (section None 0 8 ∷ []) (reads ++ plain op.Assign (k ∷ k ∷ []) ∷ []))) (0 ∷ 1 ∷ 2 ∷ 3 ∷ 4 ∷ 5 ∷ 6 ∷ [])
    ≡ (Some (flaw.Op, 7) ∷ Some (flaw.Op, 7) ∷ Some (flaw.Op, 7) ∷ Some (flaw.Op, 7) ∷ Some (flaw.Op, 7) ∷ Some (flaw.Op, 7) ∷ Some (flaw.Op, 7) ∷ [])
unfolding first_flaw step_of is_allowed int_wrap
written_by_shader = refl

-- ---- data of metadata, on an output and on the shader

abbrev datum : Ty → List ℕ → List ℤ → List (List ℕ) → Meta
datum ty name nums texts = record { ty = ty; name = name; nums = nums; texts = texts }

abbrev locked : Meta
locked = datum (only base.Int) (codes "lockgeom") (pos 0 ∷ []) []

abbrev with_data : Symbol → List Meta → Symbol
with_data on metas = record { class = on.class; ty = on.ty; name = on.name; value = on.value; metas = metas }

abbrev an_output : Symbol
an_output = valued class.Oparam (only base.Float) (codes "r") (pos 0 ∷ []) []

abbrev on_symbol : Symbol → List Meta → Raw
on_symbol on metas = body (input ∷ with_data on metas ∷ []) []

abbrev on_shader : List Meta → Raw
on_shader metas = record { kind = kinds.Shader; name = codes "one"; metas = metas; symbols = input ∷ an_output ∷ []; sections = section None 0 0 ∷ []; ops = [] }

data_0 : map (λ d. first_flaw (on_symbol an_output (locked ∷ d ∷ []))) (datum (only base.Int) (codes "lockgeom") (pos 0 ∷ []) []
    ∷ datum (only base.Float) (codes "help") [] []
    ∷ datum (only base.Float) (codes "a") (pos 5 ∷ []) []
    ∷ datum (only base.Float) (codes "a") (replicate 2 (pos 5)) []
    ∷ datum (only base.Float) (codes "a") (pos 5 ∷ []) (codes "x" ∷ [])
    ∷ datum (only base.Color) (codes "a") (replicate 3 (pos 5)) []
    ∷ datum (only base.Color) (codes "a") (pos 5 ∷ []) []
    ∷ datum (only base.Matrix) (codes "a") (replicate 16 (pos 5)) [] ∷ [])
    ≡ (None ∷ Some (flaw.Symbol, 1) ∷ None ∷ Some (flaw.Symbol, 1) ∷ Some (flaw.Symbol, 1) ∷ None ∷ Some (flaw.Symbol, 1) ∷ None ∷ [])
unfolding first_flaw step_of is_allowed int_wrap
data_0 = refl

data_of_shader_0 : map (λ d. first_flaw (on_shader (locked ∷ d ∷ []))) (datum (only base.Int) (codes "lockgeom") (pos 0 ∷ []) []
    ∷ datum (only base.Float) (codes "help") [] []
    ∷ datum (only base.Float) (codes "a") (pos 5 ∷ []) []
    ∷ datum (only base.Float) (codes "a") (replicate 2 (pos 5)) []
    ∷ datum (only base.Float) (codes "a") (pos 5 ∷ []) (codes "x" ∷ [])
    ∷ datum (only base.Color) (codes "a") (replicate 3 (pos 5)) []
    ∷ datum (only base.Color) (codes "a") (pos 5 ∷ []) []
    ∷ datum (only base.Matrix) (codes "a") (replicate 16 (pos 5)) [] ∷ [])
    ≡ (None ∷ Some (flaw.Symbol, 0) ∷ None ∷ Some (flaw.Symbol, 0) ∷ Some (flaw.Symbol, 0) ∷ None ∷ Some (flaw.Symbol, 0) ∷ None ∷ [])
unfolding first_flaw step_of is_allowed int_wrap
data_of_shader_0 = refl

data_1 : map (λ d. first_flaw (on_symbol an_output (locked ∷ d ∷ []))) (datum (only base.Matrix) (codes "a") (replicate 15 (pos 5)) []
    ∷ datum (row 2 base.Float) (codes "a") (replicate 2 (pos 5)) []
    ∷ datum (row 2 base.Float) (codes "a") (pos 5 ∷ []) []
    ∷ datum (row 2 base.Normal) (codes "a") (replicate 6 (pos 5)) []
    ∷ datum (only base.Str) (codes "a") [] (codes "x" ∷ [])
    ∷ datum (only base.Str) (codes "a") [] []
    ∷ datum (only base.Str) (codes "a") (pos 0 ∷ []) (codes "x" ∷ [])
    ∷ datum (row 2 base.Str) (codes "a") [] (replicate 2 (codes "x")) ∷ [])
    ≡ (Some (flaw.Symbol, 1) ∷ None ∷ Some (flaw.Symbol, 1) ∷ None ∷ None ∷ Some (flaw.Symbol, 1) ∷ Some (flaw.Symbol, 1) ∷ None ∷ [])
unfolding first_flaw step_of is_allowed int_wrap
data_1 = refl

data_of_shader_1 : map (λ d. first_flaw (on_shader (locked ∷ d ∷ []))) (datum (only base.Matrix) (codes "a") (replicate 15 (pos 5)) []
    ∷ datum (row 2 base.Float) (codes "a") (replicate 2 (pos 5)) []
    ∷ datum (row 2 base.Float) (codes "a") (pos 5 ∷ []) []
    ∷ datum (row 2 base.Normal) (codes "a") (replicate 6 (pos 5)) []
    ∷ datum (only base.Str) (codes "a") [] (codes "x" ∷ [])
    ∷ datum (only base.Str) (codes "a") [] []
    ∷ datum (only base.Str) (codes "a") (pos 0 ∷ []) (codes "x" ∷ [])
    ∷ datum (row 2 base.Str) (codes "a") [] (replicate 2 (codes "x")) ∷ [])
    ≡ (Some (flaw.Symbol, 0) ∷ None ∷ Some (flaw.Symbol, 0) ∷ None ∷ None ∷ Some (flaw.Symbol, 0) ∷ Some (flaw.Symbol, 0) ∷ None ∷ [])
unfolding first_flaw step_of is_allowed int_wrap
data_of_shader_1 = refl

data_2 : map (λ d. first_flaw (on_symbol an_output (locked ∷ d ∷ []))) (datum (only base.Closure) (codes "a") [] []
    ∷ datum (only base.Closure) (codes "a") (pos 0 ∷ []) []
    ∷ datum (row 2 base.Closure) (codes "a") [] []
    ∷ datum (only base.Int) (codes "a") (pos 2147483647 ∷ []) []
    ∷ datum (only base.Int) (codes "a") (pos 2147483648 ∷ []) []
    ∷ datum (only base.Int) (codes "a") (minus 2147483648 ∷ []) []
    ∷ datum (only base.Int) (codes "a") (minus 2147483649 ∷ []) []
    ∷ datum (only base.Float) (codes "a") (minus 9223372036854775807 ∷ []) [] ∷ [])
    ≡ (None ∷ Some (flaw.Symbol, 1) ∷ Some (flaw.Symbol, 1) ∷ None ∷ Some (flaw.Symbol, 1) ∷ None ∷ Some (flaw.Symbol, 1) ∷ None ∷ [])
unfolding first_flaw step_of is_allowed int_wrap
data_2 = refl

data_of_shader_2 : map (λ d. first_flaw (on_shader (locked ∷ d ∷ []))) (datum (only base.Closure) (codes "a") [] []
    ∷ datum (only base.Closure) (codes "a") (pos 0 ∷ []) []
    ∷ datum (row 2 base.Closure) (codes "a") [] []
    ∷ datum (only base.Int) (codes "a") (pos 2147483647 ∷ []) []
    ∷ datum (only base.Int) (codes "a") (pos 2147483648 ∷ []) []
    ∷ datum (only base.Int) (codes "a") (minus 2147483648 ∷ []) []
    ∷ datum (only base.Int) (codes "a") (minus 2147483649 ∷ []) []
    ∷ datum (only base.Float) (codes "a") (minus 9223372036854775807 ∷ []) [] ∷ [])
    ≡ (None ∷ Some (flaw.Symbol, 0) ∷ Some (flaw.Symbol, 0) ∷ None ∷ Some (flaw.Symbol, 0) ∷ None ∷ Some (flaw.Symbol, 0) ∷ None ∷ [])
unfolding first_flaw step_of is_allowed int_wrap
data_of_shader_2 = refl

data_3 : map (λ d. first_flaw (on_symbol an_output (locked ∷ d ∷ []))) (datum (only base.Float) (codes "a") (minus 9223372036854775808 ∷ []) []
    ∷ datum (row 1024 base.Int) (codes "a") (replicate 1024 (pos 5)) []
    ∷ datum (row 1025 base.Int) (codes "a") (replicate 1025 (pos 5)) []
    ∷ datum (only base.Int) (replicate 255 97) (pos 5 ∷ []) []
    ∷ datum (only base.Int) (replicate 256 97) (pos 5 ∷ []) []
    ∷ datum (only base.Int) (codes "1a") (pos 5 ∷ []) [] ∷ [])
    ≡ (Some (flaw.Symbol, 1) ∷ None ∷ Some (flaw.Symbol, 1) ∷ None ∷ Some (flaw.Symbol, 1) ∷ Some (flaw.Symbol, 1) ∷ [])
unfolding first_flaw step_of is_allowed int_wrap
data_3 = refl

data_of_shader_3 : map (λ d. first_flaw (on_shader (locked ∷ d ∷ []))) (datum (only base.Float) (codes "a") (minus 9223372036854775808 ∷ []) []
    ∷ datum (row 1024 base.Int) (codes "a") (replicate 1024 (pos 5)) []
    ∷ datum (row 1025 base.Int) (codes "a") (replicate 1025 (pos 5)) []
    ∷ datum (only base.Int) (replicate 255 97) (pos 5 ∷ []) []
    ∷ datum (only base.Int) (replicate 256 97) (pos 5 ∷ []) []
    ∷ datum (only base.Int) (codes "1a") (pos 5 ∷ []) [] ∷ [])
    ≡ (Some (flaw.Symbol, 0) ∷ None ∷ Some (flaw.Symbol, 0) ∷ None ∷ Some (flaw.Symbol, 0) ∷ Some (flaw.Symbol, 0) ∷ [])
unfolding first_flaw step_of is_allowed int_wrap
data_of_shader_3 = refl

a_long_string : first_flaw (on_shader (datum (only base.Str) (codes "a") [] (replicate 600 120 ∷ []) ∷ []))
    ≡ None
unfolding first_flaw step_of is_allowed int_wrap
a_long_string = refl

-- ---- data are on parameters alone

data_on : map (λ on. first_flaw (on_symbol on (locked ∷ [])))
    (valued class.Param (only base.Float) (codes "b") (pos 0 ∷ []) []
    ∷ valued class.Oparam (only base.Float) (codes "b") (pos 0 ∷ []) []
    ∷ symbol class.Global (only base.Float) (codes "u") None
    ∷ valued class.Const (only base.Float) (codes "$0") (pos 0 ∷ []) []
    ∷ symbol class.Local (only base.Float) (codes "b") None
    ∷ symbol class.Temp (only base.Float) (codes "b") None ∷ [])
    ≡ (None ∷ None ∷ Some (flaw.Symbol, 1) ∷ Some (flaw.Symbol, 1) ∷ Some (flaw.Symbol, 1) ∷ Some (flaw.Symbol, 1) ∷ [])
unfolding first_flaw step_of is_allowed int_wrap
data_on = refl

no_data_on : map (λ on. first_flaw (on_symbol on []))
    (valued class.Param (only base.Float) (codes "b") (pos 0 ∷ []) []
    ∷ valued class.Oparam (only base.Float) (codes "b") (pos 0 ∷ []) []
    ∷ symbol class.Global (only base.Float) (codes "u") None
    ∷ valued class.Const (only base.Float) (codes "$0") (pos 0 ∷ []) []
    ∷ symbol class.Local (only base.Float) (codes "b") None
    ∷ symbol class.Temp (only base.Float) (codes "b") None ∷ [])
    ≡ (None ∷ None ∷ None ∷ None ∷ None ∷ None ∷ [])
unfolding first_flaw step_of is_allowed int_wrap
no_data_on = refl

-- ---- a flaw of a symbol comes before one of the sections

abbrev without_sections : List Meta → Raw
without_sections metas = code (input ∷ with_data an_output metas ∷ []) [] []

no_sections : (first_flaw (without_sections []) ∷ first_flaw (without_sections (datum (only base.Float) (codes "help") [] [] ∷ [])) ∷ [])
    ≡ (Some (flaw.Op, 0) ∷ Some (flaw.Symbol, 1) ∷ [])
unfolding first_flaw step_of is_allowed int_wrap
no_sections = refl
