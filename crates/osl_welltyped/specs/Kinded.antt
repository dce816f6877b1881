-- Which typed expressions are well formed, and the kind of each: a rule for each node, from the kinds of its parts (OSL specification, section "Expressions").
use Rattle.std.specs.Prelude.{ℕ, zero, suc, nat_lt, nat_le, ◌==◌, Bool, true, false, not, ◌&&◌, ◌||◌, if◌then◌else◌, List, [], ◌∷◌, length, Option, None, Some, slice_get, is_some}
use Rattle.std.specs.List.{list_all}
use Rattle.osl_value.specs.declared.op_name.OpName.{OpName}
use Rattle.osl_value.specs.declared.types.Base.TheVariants.{Int, Float, Str, Closure, Matrix}
use Rattle.osl_value.specs.declared.types.Ty.{Ty}
use Rattle.osl_value.specs.AnyValue.{is_array, is_number, is_one_triple, element_type}
use Rattle.osl_value.specs.Apply.{is_allowed}
use Rattle.osl_value.specs.Table.{updates}
use Rattle.osl_value.specs.Types.{only, is_only, same_base, same_type, longest_array}
use Rattle.osl_layer.specs.Globals.{type_of_global}
use Rattle.osl_overload.specs.Cost.{promotion_of}
use Rattle.osl_overload.specs.Kinds.{same_kind}
use Rattle.osl_overload.specs.declared.signature.Formal.{Formal}
use Rattle.osl_overload.specs.declared.signature.Kind.{Kind}
use Rattle.osl_overload.specs.declared.signature.Kind.TheVariants.{Value, Void}
use Rattle.osl_typed.specs.declared.expr.Root.{Root}
use Rattle.osl_typed.specs.declared.expr.Root.TheVariants as root
use Rattle.osl_typed.specs.declared.expr.Part.{Part}
use Rattle.osl_typed.specs.declared.expr.TypedExpr.{TypedExpr}
use Rattle.osl_typed.specs.declared.expr.Argument.{Argument}
use Rattle.osl_typed.specs.declared.expr.Argument.TheOpen as e
use Rattle.osl_typed.specs.declared.expr.Argument.TheOpen.{TypedExpr-F, Argument-F}
use Rattle.osl_typed.specs.declared.expr.Argument.TheFolds.{fold-TypedExpr, fold-Argument}
use Rattle.osl_typed.specs.declared.shader.TypedStructure.{TypedStructure}
use Rattle.osl_typed.specs.declared.shader.TypedFunction.{TypedFunction}
use Rattle.osl_typed.specs.Frames.{fields_in}
use Rattle.osl_typed.specs.Selections.{part_kind, selected_type}

-- what the expressions of a body may use
pub record Rules : Type 0 where
  pub structures : List TypedStructure
  -- the kinds of the variables of the frame
  pub kinds : List Kind
  -- the variables below this number may be named
  pub ready : ℕ
  -- the functions that may be called, by their numbers
  pub functions : List TypedFunction
  -- the variables that may be assigned
  pub may_write : Root → Bool

-- ---- types and kinds

-- a type of the language: arrays are no longer than 1,024, and hold no closures
abbrev pub is_type : Ty → Bool
is_type ty = nat_le ty.len longest_array && not (same_base ty.base Closure && not (ty.len == 0))

abbrev pub is_kind : Kind → Option Kind → Bool
is_kind wanted None = false
is_kind wanted (Some kind) = same_kind kind wanted

abbrev pub only_if : Bool → Kind → Option Kind
only_if true kind = Some kind
only_if false kind = None

-- an int or a float
abbrev pub is_numeric : Option Kind → Bool
is_numeric (Some (Value ty)) = is_number ty
is_numeric _ = false

abbrev pub is_int : Option Kind → Bool
is_int (Some (Value ty)) = is_only Int ty
is_int _ = false

-- ---- parts of variables and of values

-- the kind that fields lead to
abbrev pub led_to : List TypedStructure → Option Kind → List ℕ → Option Kind
led_to structures None fields = None
led_to structures (Some kind) [] = Some kind
led_to structures (Some kind) (field ∷ fields) = led_to structures (slice_get (fields_in structures kind) field) fields

-- so many indices select something of a value of the type: an element of an array, a component of a triple, an element of a matrix by two
unfoldable pub selects : Ty → ℕ → Bool
selects ty zero = true
selects ty (suc n) =
    if is_array ty then selects (element_type ty) n else if is_only Matrix ty then n == 1 else is_one_triple ty && (n == 0)

-- a component is one of the three of a triple
abbrev pub component_fits : Ty → Option ℕ → Bool
component_fits ty None = true
component_fits ty (Some c) = is_one_triple ty && nat_lt c 3

-- so many indices, and then perhaps a component that is named
abbrev pub kind_selects : Kind → ℕ → Option ℕ → Bool
kind_selects (Value ty) n component = selects ty n && component_fits (selected_type ty n) component
kind_selects kind n component = (n == 0) && not (is_some component)

-- the part of what has a kind, by indices of these kinds
abbrev pub part_fits : List TypedStructure → Option Kind → Part → List (Option Kind) → Bool
part_fits structures from part indices =
    is_kind part.kind (led_to structures from part.fields) && list_all is_int indices && kind_selects part.kind (length indices) part.component

-- ---- variables

abbrev pub root_kind : Rules → Root → Option Kind
root_kind rules (root.Variable k) = if nat_lt k rules.ready then slice_get rules.kinds k else None
root_kind rules (root.Global g) = Some (Value (type_of_global g))

abbrev pub read_fits : Rules → Root → Part → List (Option Kind) → Bool
read_fits rules root part indices = part_fits rules.structures (root_kind rules root) part indices

abbrev pub stored_fits : Rules → Root → Part → List (Option Kind) → Bool
stored_fits rules root part indices = rules.may_write root && read_fits rules root part indices

-- ---- operations

abbrev pub plain_types : List (Option Kind) → Option (List Ty)
plain_types [] = Some []
plain_types (Some (Value ty) ∷ kinds) = elim (plain_types kinds) [ None ↦ None | Some types ↦ Some (ty ∷ types) ]
plain_types (_ ∷ kinds) = None

-- the table has the operation for operands of these types, and it writes nothing that it reads
abbrev pub takes : OpName → Ty → Option (List Ty) → Bool
takes op ty None = false
takes op ty (Some types) = is_type ty && is_allowed op ty types && not (updates op)

-- another type promotes to it; an int where a closure is wanted is the literal 0
abbrev pub promotes : Ty → Option Kind → Bool
promotes ty (Some (Value from)) = is_some (promotion_of (Value from) (Value ty)) || (is_only Closure ty && is_only Int from)
promotes ty _ = false

-- as by `=`: the same kind, or one that promotes
abbrev pub is_stored_as : Kind → Kind → Bool
is_stored_as to from = same_kind from to || is_some (promotion_of from to)

-- `x op= e`: an operation on x and e, whose value is stored in x
abbrev pub updates_by : OpName → Ty → Kind → Option Kind → Bool
updates_by op ty (Value to) (Some (Value from)) = takes op ty (Some (to ∷ from ∷ [])) && is_stored_as (Value to) (Value ty)
updates_by op ty _ _ = false

abbrev pub steps : Ty → Option Kind → Bool
steps ty (Some (Value from)) = same_type from ty && is_number ty
steps ty _ = false

-- ---- calls

abbrev pub is_alike : Bool → Bool → Bool
is_alike true b = b
is_alike false b = not b

-- as many as the parameters, each of its kind, and variables for outputs alone
abbrev pub passes : List Formal → List (Option Formal) → Bool
passes [] [] = true
passes (formal ∷ formals) (Some arg ∷ args) = same_kind arg.kind formal.kind && is_alike arg.output formal.output && passes formals args
passes _ _ = false

abbrev pub call_fits : Option TypedFunction → Kind → List (Option Formal) → Bool
call_fits None kind args = false
call_fits (Some f) kind args = same_kind f.result kind && passes f.formals args

-- ---- all nodes

abbrev pub kind_step : Rules → TypedExpr-F (Option Formal) (Option Kind) → Option Kind
kind_step rules (e.Int n) = Some (Value (only Int))
kind_step rules (e.Float units) = Some (Value (only Float))
kind_step rules (e.Text bytes) = Some (Value (only Str))
kind_step rules (e.Variable root part indices) = only_if (read_fits rules root part indices) (part_kind part indices)
kind_step rules (e.PartOf kind a part indices) =
    only_if (is_kind kind a && part_fits rules.structures (Some kind) part indices) (part_kind part indices)
kind_step rules (e.Paren kind a) = only_if (is_kind kind a) kind
kind_step rules (e.Promote ty a) = only_if (promotes ty a) (Value ty)
kind_step rules (e.Apply op ty operands) = only_if (takes op ty (plain_types operands)) (Value ty)
kind_step rules (e.And a b) = only_if (is_numeric a && is_numeric b) (Value (only Int))
kind_step rules (e.Or a b) = only_if (is_numeric a && is_numeric b) (Value (only Int))
kind_step rules (e.Choose kind c a b) = only_if (is_numeric c && is_kind kind a && is_kind kind b) kind
kind_step rules (e.Assign root part indices a) =
    only_if (stored_fits rules root part indices && is_kind (part_kind part indices) a) (part_kind part indices)
kind_step rules (e.Update op ty root part indices a) =
    only_if (stored_fits rules root part indices && updates_by op ty (part_kind part indices) a) (part_kind part indices)
kind_step rules (e.Step step ty root) = only_if (rules.may_write root && steps ty (root_kind rules root)) (Value ty)
kind_step rules (e.Call f kind args) = only_if (call_fits (slice_get rules.functions f) kind args) kind
kind_step rules e.Exit = Some Void

-- what is passed, as a parameter that would take it
abbrev pub formal_of : Bool → Option Kind → Option Formal
formal_of output None = None
formal_of output (Some kind) = Some (record { kind = kind; output = output })

abbrev pub argument_step : Rules → Argument-F (Option Formal) (Option Kind) → Option Formal
argument_step rules (e.In a) = formal_of false a
argument_step rules (e.Out root part indices) = formal_of true (only_if (stored_fits rules root part indices) (part_kind part indices))

-- the kind of an expression, if it is well formed
unfoldable pub kinded : Rules → TypedExpr → Option Kind
kinded rules x = fold-TypedExpr (Option Formal) (Option Kind) (argument_step rules) (kind_step rules) x

unfoldable pub passed_kind : Rules → Argument → Option Formal
passed_kind rules x = fold-Argument (Option Formal) (Option Kind) (argument_step rules) (kind_step rules) x
