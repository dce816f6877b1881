-- What each operation of code takes, and which symbols an op reads and writes (the table of operations; oso text, control ops and validity).
use Rattle.std.specs.Prelude.{ℕ, nat_lt, Bool, true, false, not, ◌&&◌, ◌==◌, if◌then◌else◌, List, [], ◌∷◌, map, length, Option, Some, None, slice_get}
use Rattle.std.specs.List.{list_all}
use Rattle.osl_value.specs.declared.op_name.OpName.{OpName}
use Rattle.osl_value.specs.declared.op_name.OpName.TheVariants.{If, For, While, DoWhile, FunctionCall}
use Rattle.osl_value.specs.declared.types.Base.TheVariants.{Int}
use Rattle.osl_value.specs.declared.types.Ty.{Ty}
use Rattle.osl_value.specs.Apply.{is_allowed}
use Rattle.osl_value.specs.Table.{is_control, updates}
use Rattle.osl_value.specs.Types.{only, is_only}
use Rattle.oso_code.specs.declared.op.Op.{Op}
use Rattle.oso_code.specs.declared.op.Section.{Section}
use Rattle.oso_code.specs.declared.raw.Raw.{Raw}
use Rattle.osl_value.specs.declared.shader_kind.ShaderKind.{ShaderKind}
use Rattle.osl_value.specs.declared.shader_kind.ShaderKind.TheVariants.{Surface, Displacement, Volume}
use Rattle.oso_code.specs.declared.symbol.Class.{Class}
use Rattle.oso_code.specs.declared.symbol.Class.TheVariants.{Param, Oparam, Global, Const, Local, Temp}
use Rattle.oso_code.specs.declared.symbol.Symbol.{Symbol}
use Rattle.osl_layer.specs.declared.global.GlobalName.{GlobalName}
use Rattle.osl_layer.specs.declared.global.GlobalName.TheVariants as G
use Rattle.osl_layer.specs.Globals.{global_named}
use Rattle.oso_code.specs.Symbols.{is_parameter}

-- ---- counts and types

-- the control operations that read a condition
abbrev pub is_conditional : OpName → Bool
is_conditional If = true
is_conditional For = true
is_conditional While = true
is_conditional DoWhile = true
is_conditional _ = false

-- how many ranges an operation has, each with a jump to its end
abbrev pub range_count : OpName → ℕ
range_count If = 2
range_count For = 3
range_count While = 2
range_count DoWhile = 2
range_count FunctionCall = 1
range_count _ = 0

abbrev pub takes_condition : OpName → List Ty → Bool
takes_condition name [] = not (is_conditional name)
takes_condition name (ty ∷ []) = is_conditional name && is_only Int ty
takes_condition name (ty ∷ more) = false

-- what an operation with a value reads of its arguments: all but the first, which is written, or all where it is read too
abbrev pub operands : {X : Type 0} → OpName → List X → List X
operands name [] = []
operands name (first ∷ others) = if updates name then first ∷ others else others

-- arguments of these types, of which the first is written
abbrev pub takes_arguments : OpName → List Ty → Bool
takes_arguments name [] = false
takes_arguments name (ty ∷ types) = is_allowed name ty (operands name (ty ∷ types))

abbrev pub takes_types : OpName → List Ty → Bool
takes_types name types = if is_control name then takes_condition name types else takes_arguments name types

-- ---- symbols

abbrev pub type_of_symbol : Option Symbol → Ty
type_of_symbol None = only Int
type_of_symbol (Some symbol) = symbol.ty

abbrev pub type_at : List Symbol → ℕ → Ty
type_at symbols k = type_of_symbol (slice_get symbols k)

-- the symbol that an op writes
abbrev pub written : Op → Option ℕ
written op = if is_control op.name then None else slice_get op.args 0

-- the symbol that an op overwrites: the one that it writes, where it is not read too
abbrev pub overwritten : Op → Option ℕ
overwritten op = if updates op.name then None else written op

-- the symbols that an op reads, in the order in which it reads them: a condition, or the operands
abbrev pub reads : Op → List ℕ
reads op = if is_control op.name then op.args else operands op.name op.args

-- ---- classes

-- the section that an op is in: the first that ends after it
abbrev pub section_at : List Section → ℕ → Option Section
section_at [] k = None
section_at (section ∷ sections) k = if nat_lt k section.end then Some section else section_at sections k

-- the parameter whose section it is
abbrev pub owner_of : Option Section → Option ℕ
owner_of None = None
owner_of (Some section) = section.param

abbrev pub owner_at : List Section → ℕ → Option ℕ
owner_at sections k = owner_of (section_at sections k)

abbrev pub is_owner : Option ℕ → ℕ → Bool
is_owner None k = false
is_owner (Some p) k = p == k

-- displacement may assign the position and the normal, surface and volume the closure
abbrev pub is_assignable_in : ShaderKind → GlobalName → Bool
is_assignable_in Displacement G.P = true
is_assignable_in Displacement G.N = true
is_assignable_in Surface G.Ci = true
is_assignable_in Volume G.Ci = true
is_assignable_in _ _ = false

abbrev pub is_assignable_global : ShaderKind → Option GlobalName → Bool
is_assignable_global kind None = false
is_assignable_global kind (Some global) = is_assignable_in kind global

-- output parameters, variables, globals that the kind may assign, and in a parameter's own section the parameter
abbrev pub may_write_class : ShaderKind → Bool → List ℕ → Class → Bool
may_write_class kind owned name Param = owned
may_write_class kind owned name Oparam = true
may_write_class kind owned name Global = is_assignable_global kind (global_named name)
may_write_class kind owned name Const = false
may_write_class kind owned name Local = true
may_write_class kind owned name Temp = true

abbrev pub may_write_symbol : ShaderKind → Bool → Option Symbol → Bool
may_write_symbol kind owned None = false
may_write_symbol kind owned (Some symbol) = may_write_class kind owned symbol.name symbol.class

abbrev pub may_write : ShaderKind → List Symbol → Option ℕ → Option ℕ → Bool
may_write kind symbols owner None = true
may_write kind symbols owner (Some k) = may_write_symbol kind (is_owner owner k) (slice_get symbols k)

-- no parameter that comes after the owner of the section
abbrev pub comes_later : Option ℕ → ℕ → Bool
comes_later None k = false
comes_later (Some p) k = nat_lt p k

abbrev pub may_read_symbol : Bool → Option Symbol → Bool
may_read_symbol later None = false
may_read_symbol later (Some symbol) = not (later && is_parameter symbol.class)

abbrev pub may_read : List Symbol → Option ℕ → ℕ → Bool
may_read symbols owner k = may_read_symbol (comes_later owner k) (slice_get symbols k)

-- ---- ops

abbrev pub is_number_of : List Symbol → ℕ → Bool
is_number_of symbols k = nat_lt k (length symbols)

-- an op in the section of a parameter, or in that of the body
abbrev pub op_fits : ShaderKind → List Symbol → Option ℕ → Op → Bool
op_fits kind symbols owner op =
    ((list_all (is_number_of symbols) op.args && (length op.jumps == range_count op.name))
    && takes_types op.name (map (type_at symbols) op.args))
    && (may_write kind symbols owner (written op) && list_all (may_read symbols owner) (reads op))

-- an op at a place among sections
abbrev pub op_in_fits : ShaderKind → List Symbol → List Section → ℕ → Op → Bool
op_in_fits kind symbols sections at op = op_fits kind symbols (owner_at sections at) op

abbrev pub op_at_fits : Raw → ℕ → Op → Bool
op_at_fits raw at op = op_in_fits raw.kind raw.symbols raw.sections at op
