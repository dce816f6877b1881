-- The first flaw of code: its ops, its symbols, its sections and its ranges.
use Rattle.std.proofs.Common.{◌≡◌, refl}
use Rattle.std.specs.Int.{int_wrap}
use Rattle.std.specs.Prelude.{pos, List, [], ◌∷◌, codes, map, replicate, None, Some}
use Rattle.osl_value.specs.declared.op_name.OpName.TheVariants as op
use Rattle.osl_value.specs.declared.shader_kind.ShaderKind.TheVariants as kinds
use Rattle.osl_value.specs.declared.types.Base.TheVariants as base
use Rattle.osl_value.specs.Apply.{is_allowed}
use Rattle.osl_value.specs.Types.{only}
use Rattle.oso_code.specs.declared.error.FlawKind.TheVariants as flaw
use Rattle.oso_code.specs.declared.op.Op.{Op}
use Rattle.oso_code.specs.declared.symbol.Class.TheVariants as class
use Rattle.oso_code.specs.declared.symbol.Symbol.{Symbol}
use Rattle.oso_code.specs.Steps.{step_of}
use Rattle.oso_code.specs.Valid.{first_flaw}
use Rattle.oso_code_tests.proofs.Words.{row, symbol, valued, input, plain, jumping, section, code, body}

abbrev four : List Symbol
four = input ∷ valued class.Oparam (only base.Float) (codes "r") (pos 0 ∷ []) [] ∷ valued class.Const (only base.Int) (codes "$0") (pos 0 ∷ []) []
    ∷ valued class.Const (only base.Int) (codes "$1") (pos 1 ∷ []) [] ∷ []

-- ---- ops over an input, an output and the constants 0 and 1

-- a jump passes its section
-- a constant is written
-- a parameter is written outside of its section
-- there is no such symbol
-- a condition is no int
of_ops_0 : map (λ ops. first_flaw (body four ops))
    ((plain op.Assign (1 ∷ 0 ∷ []) ∷ [])
    ∷ (jumping op.If (3 ∷ []) (1 ∷ 2 ∷ []) ∷ [])
    ∷ (plain op.Assign (2 ∷ 3 ∷ []) ∷ [])
    ∷ (plain op.Assign (1 ∷ 0 ∷ []) ∷ plain op.Assign (0 ∷ 1 ∷ []) ∷ [])
    ∷ (plain op.Assign (1 ∷ 4 ∷ []) ∷ [])
    ∷ (jumping op.While (0 ∷ []) (1 ∷ 1 ∷ []) ∷ []) ∷ [])
    ≡ (None ∷ Some (flaw.Jump, 0) ∷ Some (flaw.Op, 0) ∷ Some (flaw.Op, 1) ∷ Some (flaw.Op, 0) ∷ Some (flaw.Op, 0) ∷ [])
unfolding first_flaw step_of is_allowed int_wrap
of_ops_0 = refl

-- a `for` has three ranges
-- a `break` stands in an `if` alone
-- a `break` stands in an `if` in a loop
-- a fault of an op comes before one of a jump, wherever they are
of_ops_1 : map (λ ops. first_flaw (body four ops))
    ((jumping op.For (3 ∷ []) (1 ∷ 1 ∷ []) ∷ [])
    ∷ (jumping op.If (3 ∷ []) (2 ∷ 2 ∷ []) ∷ plain op.Break [] ∷ [])
    ∷ (jumping op.While (3 ∷ []) (1 ∷ 3 ∷ []) ∷ jumping op.If (3 ∷ []) (3 ∷ 3 ∷ []) ∷ plain op.Break [] ∷ [])
    ∷ (plain op.Break [] ∷ plain op.Assign (2 ∷ 3 ∷ []) ∷ []) ∷ [])
    ≡ (Some (flaw.Op, 0) ∷ Some (flaw.Jump, 1) ∷ None ∷ Some (flaw.Op, 1) ∷ [])
unfolding first_flaw step_of is_allowed int_wrap
of_ops_1 = refl

-- ---- symbols, without ops

-- names: of 255 and of 256 bytes, none, and one that begins with a digit
of_symbols_0 : map (λ symbols. first_flaw (body symbols []))
    ([]
    ∷ (input ∷ symbol class.Local (only base.Closure) (codes "$c.1_") None ∷ [])
    ∷ (input ∷ symbol class.Local (only base.Int) (replicate 255 97) None ∷ [])
    ∷ (input ∷ symbol class.Local (only base.Int) (replicate 256 97) None ∷ [])
    ∷ (input ∷ symbol class.Local (only base.Int) [] None ∷ [])
    ∷ (input ∷ symbol class.Local (only base.Int) (codes "1a") None ∷ []) ∷ [])
    ≡ (None ∷ None ∷ None ∷ Some (flaw.Symbol, 1) ∷ Some (flaw.Symbol, 1) ∷ Some (flaw.Symbol, 1) ∷ [])
unfolding first_flaw step_of is_allowed int_wrap
of_symbols_0 = refl

-- two of one name: the later is at fault
-- a parameter behind another symbol, and one with the name of the body
-- globals: with their types, with another type, with another name, and with a value
of_symbols_1 : map (λ symbols. first_flaw (body symbols []))
    ((input ∷ symbol class.Local (only base.Int) (codes "b") None ∷ symbol class.Local (only base.Int) (codes "a") None ∷ [])
    ∷ (input ∷ symbol class.Local (only base.Int) (codes "b") None ∷ valued class.Oparam (only base.Int) (codes "r") (pos 0 ∷ []) [] ∷ [])
    ∷ (valued class.Param (only base.Int) (codes "___main___") (pos 0 ∷ []) [] ∷ [])
    ∷ (symbol class.Local (only base.Int) (codes "___main___") None ∷ [])
    ∷ (symbol class.Global (only base.Normal) (codes "N") None ∷ symbol class.Global (only base.Float) (codes "u") None ∷ [])
    ∷ (input ∷ symbol class.Global (only base.Vector) (codes "N") None ∷ []) ∷ [])
    ≡ (Some (flaw.Symbol, 2) ∷ Some (flaw.Symbol, 2) ∷ Some (flaw.Symbol, 0) ∷ None ∷ None ∷ Some (flaw.Symbol, 1) ∷ [])
unfolding first_flaw step_of is_allowed int_wrap
of_symbols_1 = refl

-- values: a constant without one, a variable with one, and a parameter without one
-- closures: a parameter has no value, a constant is none, and there are no arrays of them
of_symbols_2 : map (λ symbols. first_flaw (body symbols []))
    ((input ∷ symbol class.Global (only base.Float) (codes "w") None ∷ [])
    ∷ (input ∷ valued class.Global (only base.Float) (codes "u") (pos 0 ∷ []) [] ∷ [])
    ∷ (input ∷ symbol class.Const (only base.Int) (codes "$0") None ∷ [])
    ∷ (input ∷ valued class.Temp (only base.Int) (codes "t") (pos 0 ∷ []) [] ∷ [])
    ∷ (input ∷ symbol class.Oparam (only base.Int) (codes "r") None ∷ [])
    ∷ (symbol class.Param (only base.Closure) (codes "c") None ∷ []) ∷ [])
    ≡ (Some (flaw.Symbol, 1) ∷ Some (flaw.Symbol, 1) ∷ Some (flaw.Symbol, 1) ∷ Some (flaw.Symbol, 1) ∷ Some (flaw.Symbol, 1) ∷ None ∷ [])
unfolding first_flaw step_of is_allowed int_wrap
of_symbols_2 = refl

-- arrays: of 1,024 elements and of 1,025
of_symbols_3 : map (λ symbols. first_flaw (body symbols []))
    ((input ∷ symbol class.Const (only base.Closure) (codes "$c") None ∷ [])
    ∷ (input ∷ symbol class.Local (row 2 base.Closure) (codes "c") None ∷ [])
    ∷ (input ∷ symbol class.Local (row 1024 base.Float) (codes "b") None ∷ [])
    ∷ (input ∷ symbol class.Local (row 1025 base.Float) (codes "b") None ∷ []) ∷ [])
    ≡ (Some (flaw.Symbol, 1) ∷ Some (flaw.Symbol, 1) ∷ None ∷ Some (flaw.Symbol, 1) ∷ [])
unfolding first_flaw step_of is_allowed int_wrap
of_symbols_3 = refl

of_a_name : first_flaw (record { kind = kinds.Shader; name = codes "1"; metas = []; symbols = []; sections = section None 0 0 ∷ []; ops = [] })
    ≡ Some (flaw.Symbol, 0)
unfolding first_flaw step_of is_allowed int_wrap
of_a_name = refl

-- ---- sections over four ops; the parameters are 0, 1 and 2, the value of 2 is not zero, and 3 is a constant

abbrev owners : List Symbol
owners = input ∷ valued class.Param (only base.Float) (codes "b") (pos 0 ∷ []) [] ∷ valued class.Oparam (only base.Float) (codes "r") (pos 1 ∷ []) []
    ∷ valued class.Const (only base.Int) (codes "$0") (pos 0 ∷ []) [] ∷ []

abbrev returns : List Op
returns = replicate 4 (plain op.Return [])

-- there is none
-- the first begins behind the first op
-- one begins behind the end of the one before it, or before it
of_sections_0 : map (λ sections. first_flaw (code owners sections returns))
    ((section None 0 4 ∷ [])
    ∷ (section (Some 0) 0 1 ∷ section (Some 1) 1 1 ∷ section None 1 4 ∷ [])
    ∷ []
    ∷ (section None 1 4 ∷ [])
    ∷ (section (Some 0) 0 1 ∷ section None 2 4 ∷ [])
    ∷ (section (Some 0) 0 3 ∷ section None 2 4 ∷ []) ∷ [])
    ≡ (None ∷ None ∷ Some (flaw.Op, 0) ∷ Some (flaw.Op, 1) ∷ Some (flaw.Op, 2) ∷ Some (flaw.Op, 2) ∷ [])
unfolding first_flaw step_of is_allowed int_wrap
of_sections_0 = refl

-- the last ends before the ops do, or behind them
-- the last is a parameter's
-- one stands behind the body
-- parameters stand in another order, or twice
of_sections_1 : map (λ sections. first_flaw (code owners sections returns))
    ((section None 0 3 ∷ [])
    ∷ (section (Some 0) 0 2 ∷ section None 2 5 ∷ [])
    ∷ (section (Some 0) 0 4 ∷ [])
    ∷ (section None 0 2 ∷ section (Some 0) 2 3 ∷ section None 3 4 ∷ [])
    ∷ (section (Some 1) 0 1 ∷ section (Some 0) 1 2 ∷ section None 2 4 ∷ [])
    ∷ (section (Some 0) 0 1 ∷ section (Some 0) 1 2 ∷ section None 2 4 ∷ []) ∷ [])
    ≡ (Some (flaw.Op, 3) ∷ Some (flaw.Op, 2) ∷ Some (flaw.Op, 4) ∷ Some (flaw.Op, 2) ∷ Some (flaw.Op, 1) ∷ Some (flaw.Op, 1) ∷ [])
unfolding first_flaw step_of is_allowed int_wrap
of_sections_1 = refl

-- the parameter has a value, or is none
-- there is no such symbol
-- parameters have all ops, or none
of_sections_2 : map (λ sections. first_flaw (code owners sections returns))
    ((section (Some 2) 0 1 ∷ section None 1 4 ∷ [])
    ∷ (section (Some 3) 0 1 ∷ section None 1 4 ∷ [])
    ∷ (section (Some 1) 0 1 ∷ section (Some 3) 1 2 ∷ section None 2 4 ∷ [])
    ∷ (section (Some 4) 0 1 ∷ section None 1 4 ∷ [])
    ∷ (section (Some 0) 0 1 ∷ section (Some 4294967295) 1 2 ∷ section None 2 4 ∷ [])
    ∷ (section (Some 0) 0 4 ∷ section None 4 4 ∷ []) ∷ [])
    ≡ (Some (flaw.Op, 0) ∷ Some (flaw.Op, 0) ∷ Some (flaw.Op, 1) ∷ Some (flaw.Op, 0) ∷ Some (flaw.Op, 1) ∷ None ∷ [])
unfolding first_flaw step_of is_allowed int_wrap
of_sections_2 = refl

-- one ends before it begins; of the body, its end is at fault too
-- a parameter's ends behind the ops
-- one stands again behind another, and the body twice
of_sections_3 : map (λ sections. first_flaw (code owners sections returns))
    ((section (Some 0) 0 0 ∷ section (Some 1) 0 0 ∷ section None 0 4 ∷ [])
    ∷ (section (Some 0) 0 2 ∷ section (Some 1) 2 1 ∷ section None 1 4 ∷ [])
    ∷ (section (Some 0) 0 4 ∷ section None 4 3 ∷ [])
    ∷ (section (Some 0) 0 5 ∷ section None 5 5 ∷ [])
    ∷ (section (Some 0) 0 1 ∷ section (Some 1) 1 2 ∷ section (Some 0) 2 3 ∷ section None 3 4 ∷ [])
    ∷ (section None 0 2 ∷ section None 2 4 ∷ []) ∷ [])
    ≡ (None ∷ Some (flaw.Op, 2) ∷ Some (flaw.Op, 3) ∷ Some (flaw.Op, 0) ∷ Some (flaw.Op, 2) ∷ Some (flaw.Op, 2) ∷ [])
unfolding first_flaw step_of is_allowed int_wrap
of_sections_3 = refl

-- of two faults the lesser place counts, whichever section comes first
of_sections_4 : map (λ sections. first_flaw (code owners sections returns))
    ((section None 0 4 ∷ section None 4 4 ∷ [])
    ∷ (section (Some 1) 0 1 ∷ section (Some 0) 1 3 ∷ section None 2 4 ∷ [])
    ∷ (section (Some 0) 0 3 ∷ section (Some 1) 3 1 ∷ section (Some 0) 1 2 ∷ section None 2 4 ∷ []) ∷ [])
    ≡ (Some (flaw.Op, 4) ∷ Some (flaw.Op, 1) ∷ Some (flaw.Op, 1) ∷ [])
unfolding first_flaw step_of is_allowed int_wrap
of_sections_4 = refl

-- ---- ranges

-- an empty body
-- a jump to its own op
-- a jump to an earlier op
-- ranges that follow each other
-- ranges that are empty
-- jumps of an `if` that descend
of_ranges_0 : map (λ ops. first_flaw (body four ops))
    ((jumping op.FunctionCall [] (1 ∷ []) ∷ [])
    ∷ (plain op.Return [] ∷ jumping op.FunctionCall [] (1 ∷ []) ∷ [])
    ∷ (plain op.Return [] ∷ jumping op.FunctionCall [] (0 ∷ []) ∷ [])
    ∷ (jumping op.If (3 ∷ []) (2 ∷ 3 ∷ []) ∷ plain op.Return [] ∷ plain op.Return [] ∷ [])
    ∷ (jumping op.For (3 ∷ []) (1 ∷ 1 ∷ 1 ∷ []) ∷ plain op.Return [] ∷ [])
    ∷ (jumping op.If (3 ∷ []) (3 ∷ 2 ∷ []) ∷ plain op.Return [] ∷ plain op.Return [] ∷ []) ∷ [])
    ≡ (None ∷ Some (flaw.Jump, 1) ∷ Some (flaw.Jump, 1) ∷ None ∷ None ∷ Some (flaw.Jump, 0) ∷ [])
unfolding first_flaw step_of is_allowed int_wrap
of_ranges_0 = refl

-- a `for` whose second jump descends
-- a `for` whose last jump descends
-- a first jump to its own op
-- ranges that end together
-- a jump past the call that holds it
-- a jump from one side of an `if` into the other
of_ranges_1 : map (λ ops. first_flaw (body four ops))
    ((jumping op.For (3 ∷ []) (2 ∷ 1 ∷ 3 ∷ []) ∷ plain op.Return [] ∷ plain op.Return [] ∷ [])
    ∷ (jumping op.For (3 ∷ []) (1 ∷ 3 ∷ 2 ∷ []) ∷ plain op.Return [] ∷ plain op.Return [] ∷ [])
    ∷ (jumping op.While (3 ∷ []) (0 ∷ 2 ∷ []) ∷ plain op.Return [] ∷ [])
    ∷ (jumping op.FunctionCall [] (3 ∷ []) ∷ jumping op.FunctionCall [] (3 ∷ []) ∷ plain op.Return [] ∷ [])
    ∷ (jumping op.FunctionCall [] (2 ∷ []) ∷ jumping op.FunctionCall [] (3 ∷ []) ∷ plain op.Return [] ∷ [])
    ∷ (jumping op.If (3 ∷ []) (2 ∷ 3 ∷ []) ∷ jumping op.FunctionCall [] (3 ∷ []) ∷ plain op.Return [] ∷ []) ∷ [])
    ≡ (Some (flaw.Jump, 0) ∷ Some (flaw.Jump, 0) ∷ Some (flaw.Jump, 0) ∷ None ∷ Some (flaw.Jump, 1) ∷ Some (flaw.Jump, 1) ∷ [])
unfolding first_flaw step_of is_allowed int_wrap
of_ranges_1 = refl

-- a jump from a condition into the body
-- a jump from a body into the step
-- a jump past the outer of two ranges
-- a jump behind a range that is over
-- a `break` alone
-- a `continue` alone
of_ranges_2 : map (λ ops. first_flaw (body four ops))
    ((jumping op.While (3 ∷ []) (2 ∷ 3 ∷ []) ∷ jumping op.If (3 ∷ []) (2 ∷ 3 ∷ []) ∷ plain op.Return [] ∷ [])
    ∷ (jumping op.For (3 ∷ []) (1 ∷ 2 ∷ 3 ∷ []) ∷ jumping op.FunctionCall [] (3 ∷ []) ∷ plain op.Return [] ∷ [])
    ∷ (jumping op.FunctionCall [] (3 ∷ []) ∷ jumping op.FunctionCall [] (3 ∷ []) ∷ jumping op.FunctionCall [] (4 ∷ []) ∷ plain op.Return [] ∷ [])
    ∷ (jumping op.FunctionCall [] (2 ∷ []) ∷ plain op.Return [] ∷ jumping op.FunctionCall [] (4 ∷ []) ∷ plain op.Return [] ∷ [])
    ∷ (plain op.Return [] ∷ plain op.Break [] ∷ [])
    ∷ (plain op.Return [] ∷ plain op.Continue [] ∷ []) ∷ [])
    ≡ (Some (flaw.Jump, 1) ∷ Some (flaw.Jump, 1) ∷ Some (flaw.Jump, 2) ∷ None ∷ Some (flaw.Jump, 1) ∷ Some (flaw.Jump, 1) ∷ [])
unfolding first_flaw step_of is_allowed int_wrap
of_ranges_2 = refl

-- in the body of a `while`
-- in the body of a `for`
-- in the body of a `dowhile`
-- behind the body of a `while`
-- in the condition of a `while`
-- in the condition of a `for`
of_ranges_3 : map (λ ops. first_flaw (body four ops))
    ((jumping op.While (3 ∷ []) (1 ∷ 3 ∷ []) ∷ plain op.Break [] ∷ plain op.Continue [] ∷ [])
    ∷ (jumping op.For (3 ∷ []) (1 ∷ 3 ∷ 3 ∷ []) ∷ plain op.Break [] ∷ plain op.Continue [] ∷ [])
    ∷ (jumping op.DoWhile (3 ∷ []) (3 ∷ 3 ∷ []) ∷ plain op.Break [] ∷ plain op.Continue [] ∷ [])
    ∷ (jumping op.While (3 ∷ []) (1 ∷ 2 ∷ []) ∷ plain op.Return [] ∷ plain op.Break [] ∷ [])
    ∷ (jumping op.While (3 ∷ []) (2 ∷ 3 ∷ []) ∷ plain op.Break [] ∷ plain op.Return [] ∷ [])
    ∷ (jumping op.For (3 ∷ []) (2 ∷ 3 ∷ 3 ∷ []) ∷ plain op.Continue [] ∷ plain op.Return [] ∷ []) ∷ [])
    ≡ (None ∷ None ∷ None ∷ Some (flaw.Jump, 2) ∷ Some (flaw.Jump, 1) ∷ Some (flaw.Jump, 1) ∷ [])
unfolding first_flaw step_of is_allowed int_wrap
of_ranges_3 = refl

-- in the step of a `for`
-- in the condition of a `dowhile`
-- in the condition of a loop in the body of another
-- in the step of a loop in the body of another
-- a `break` in a call in a loop
-- a `continue` in a call in a loop
of_ranges_4 : map (λ ops. first_flaw (body four ops))
    ((jumping op.For (3 ∷ []) (1 ∷ 2 ∷ 3 ∷ []) ∷ plain op.Return [] ∷ plain op.Continue [] ∷ [])
    ∷ (jumping op.DoWhile (3 ∷ []) (2 ∷ 3 ∷ []) ∷ plain op.Return [] ∷ plain op.Break [] ∷ [])
    ∷ (jumping op.While (3 ∷ []) (1 ∷ 4 ∷ []) ∷ jumping op.While (3 ∷ []) (3 ∷ 4 ∷ []) ∷ plain op.Break [] ∷ plain op.Return [] ∷ [])
    ∷ (jumping op.DoWhile (3 ∷ []) (4 ∷ 4 ∷ []) ∷ jumping op.For (3 ∷ []) (2 ∷ 3 ∷ 4 ∷ []) ∷ plain op.Return [] ∷ plain op.Continue [] ∷ [])
    ∷ (jumping op.While (3 ∷ []) (1 ∷ 3 ∷ []) ∷ jumping op.FunctionCall [] (3 ∷ []) ∷ plain op.Break [] ∷ [])
    ∷ (jumping op.DoWhile (3 ∷ []) (3 ∷ 3 ∷ []) ∷ jumping op.FunctionCall [] (3 ∷ []) ∷ plain op.Continue [] ∷ []) ∷ [])
    ≡ (Some (flaw.Jump, 2) ∷ Some (flaw.Jump, 2) ∷ None ∷ None ∷ Some (flaw.Jump, 2) ∷ Some (flaw.Jump, 2) ∷ [])
unfolding first_flaw step_of is_allowed int_wrap
of_ranges_4 = refl

-- a `break` in an `if` in a call in a loop
-- a `break` in a loop in a call in a loop
-- a `break` behind a call in a loop
-- a `return` and an `exit` in a call in a loop
-- a `break` before a jump that descends
-- a jump that descends before a `break`
of_ranges_5 : map (λ ops. first_flaw (body four ops))
    ((jumping op.For (3 ∷ []) (1 ∷ 4 ∷ 4 ∷ []) ∷ jumping op.FunctionCall [] (4 ∷ []) ∷ jumping op.If (3 ∷ []) (4 ∷ 4 ∷ []) ∷ plain op.Break [] ∷ [])
    ∷ (jumping op.While (3 ∷ []) (1 ∷ 4 ∷ []) ∷ jumping op.FunctionCall [] (4 ∷ []) ∷ jumping op.While (3 ∷ []) (3 ∷ 4 ∷ []) ∷ plain op.Break [] ∷ [])
    ∷ (jumping op.While (3 ∷ []) (1 ∷ 4 ∷ []) ∷ jumping op.FunctionCall [] (3 ∷ []) ∷ plain op.Return [] ∷ plain op.Break [] ∷ [])
    ∷ (jumping op.While (3 ∷ []) (1 ∷ 4 ∷ []) ∷ jumping op.FunctionCall [] (4 ∷ []) ∷ plain op.Return [] ∷ plain op.Exit [] ∷ [])
    ∷ (plain op.Break [] ∷ jumping op.FunctionCall [] (0 ∷ []) ∷ [])
    ∷ (jumping op.If (3 ∷ []) (2 ∷ 1 ∷ []) ∷ plain op.Break [] ∷ []) ∷ [])
    ≡ (Some (flaw.Jump, 3) ∷ None ∷ None ∷ None ∷ Some (flaw.Jump, 0) ∷ Some (flaw.Jump, 0) ∷ [])
unfolding first_flaw step_of is_allowed int_wrap
of_ranges_5 = refl
