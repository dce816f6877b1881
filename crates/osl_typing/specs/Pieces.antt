-- Pieces of the typed form of an expression that `osl_typed` has no word for.
use Rattle.std.specs.Prelude.{ℕ, Bool, false, ◌||◌, List, [], ◌∷◌, length, ◌==◌, if◌then◌else◌, Option, None, Some, is_some}
use Rattle.osl_value.specs.declared.op_name.OpName.{OpName}
use Rattle.osl_value.specs.declared.types.Ty.{Ty}
use Rattle.osl_value.specs.declared.op_name.OpName.TheVariants as op
use Rattle.osl_value.specs.AnyValue.{is_number}
use Rattle.osl_value.specs.Types.{only, is_only}
use Rattle.osl_value.specs.declared.types.Base.TheVariants.{Int, Str, Matrix}
use Rattle.osl_overload.specs.Cost.{cost}
use Rattle.osl_overload.specs.Kinds.{same_kind}
use Rattle.osl_overload.specs.declared.signature.Kind.{Kind}
use Rattle.osl_overload.specs.declared.signature.Kind.TheVariants.{Value}
use Rattle.osl_tree.specs.declared.expr.AssignOp.{AssignOp}
use Rattle.osl_tree.specs.declared.expr.BinaryOp.{BinaryOp}
use Rattle.osl_typed.specs.declared.expr.Argument.{Argument}
use Rattle.osl_typed.specs.declared.expr.Argument.TheVariants.{Out}
use Rattle.osl_typed.specs.declared.expr.Increment.{Increment}
use Rattle.osl_typed.specs.declared.expr.TypedExpr.{TypedExpr}
use Rattle.osl_typed.specs.declared.expr.TypedExpr.TheVariants as e
use Rattle.osl_typed.specs.declared.found.Form.{Form}
use Rattle.osl_typed.specs.declared.found.Found.{Found}
use Rattle.osl_typed.specs.Operators.{Operation, operation, operator_of, int, float, is_arithmetic}
use Rattle.osl_typed.specs.Typing.{◌>>=◌, found, value, tree_of, indexed_kind, with_index, component_of, with_component, with_field, converted, Target, target_form, whole_variable, expression, plain_type, fit, when}
use Rattle.osl_typing.specs.declared.assignment.Target.{Target as Place}
use Rattle.osl_typing.specs.declared.kinds.TypedOperator.{TypedOperator}

-- ---- operators

-- an operator's operation, as the definition has it
abbrev pub operation_of : TypedOperator → Operation
operation_of o = record { op = o.op; ty = o.ty; left = o.left; right = o.right }

-- what is equal or not: numbers, triples, strings and matrices
abbrev pub is_equatable : Ty → Bool
is_equatable ty = is_arithmetic ty || is_only Str ty || is_only Matrix ty

-- an operation on one operand
abbrev pub apply_one : OpName → Ty → Found → Found
apply_one name ty a = value (e.Apply name ty (tree_of a ∷ [])) (Value ty)

-- an operation on two operands
abbrev pub apply_two : OpName → Ty → TypedExpr → TypedExpr → Found
apply_two name ty left right = value (e.Apply name ty (left ∷ right ∷ [])) (Value ty)

-- an operation on an operand that is as it wants it, and one that is not yet
abbrev pub operated_on : Operation → TypedExpr → Found → Option Found
operated_on o left b = fit o.right b >>= λ right. Some (apply_two o.op o.ty left right)

-- an operation on two operands, each to be as it wants it
abbrev pub operated_by : Operation → Found → Found → Option Found
operated_by o a b = fit o.left a >>= λ left. operated_on o left b

-- `-a` and `+a`
abbrev pub signed : OpName → Found → Option Found
signed name a = do
  b ← expression a
  ty ← plain_type b.kind
  ok ← when (is_arithmetic ty)
  Some (apply_one name ty b)

-- `~a`
abbrev pub complement : Found → Option Found
complement a = do
  b ← expression a
  ty ← plain_type b.kind
  ok ← when (is_only Int ty)
  Some (apply_one op.Compl ty b)

-- `!a`
abbrev pub negation : Found → Option Found
negation a = do
  b ← expression a
  ty ← plain_type b.kind
  ok ← when (is_number ty)
  Some (apply_one op.Not (only Int) b)

-- `++` or `--` on an expression
abbrev pub step_of : Increment → Found → Option Found
step_of step b = do
  ty ← plain_type b.kind
  ok ← when (is_number ty)
  root ← whole_variable b.form
  Some (value (e.Step step ty root) b.kind)

-- what a cast makes of the one argument
abbrev pub converted_alone : Ty → List Found → Option Found
converted_alone ty args = elim args [ [] ↦ None | a ∷ more ↦ if length more == 0 then converted ty a else None ]

-- ---- parts

-- `a` with one more index, of this type, and whether that is a row of a matrix
abbrev pub indexed : Found → TypedExpr → Ty × Bool → Found
indexed a i to = record { form = with_index a.kind i a.form; kind = Value (to.0); zero_literal = false; is_row = to.1 }

-- `a[i]`, where the index is an int
abbrev pub element : Found → TypedExpr → Option Found
element a i = indexed_kind a.is_row a.kind >>= λ to. Some (indexed a i to)

-- an index, if it is an int
unfoldable pub int_operand : Found → Option Found
int_operand i = expression i >>= λ number. when (same_kind number.kind int) >>= λ ok. Some number

-- `a[i]`
unfoldable pub index_by : Found → Found → Option Found
index_by a i = int_operand i >>= λ number. element a (tree_of number)

-- `a.x` of a value of this type
abbrev pub component : Ty → List ℕ → Found → Option Found
component ty word a = component_of ty word >>= λ c. Some (found (with_component a.kind c a.form) float)

-- `a.f`, where `f` is the field of this number and kind
abbrev pub field : ℕ → Kind → Found → Found
field number kind a = found (with_field a.kind number kind a.form) kind

-- ---- assignment

-- a target, as the definition has it
abbrev pub target_of : Place → Target
target_of place = record { root = place.root; part = place.part; indices = place.indices }

-- a value of a type fits where a kind is wanted
abbrev pub fits : Ty → Kind → Bool
fits ty wanted = is_some (cost (record { kind = Value ty; zero_literal = false; writable = false }) wanted)

-- `x = b`, where `x` is of this kind
abbrev pub set_as : Kind → Target → Found → Option Found
set_as kind target b = fit kind b >>= λ right. Some (value (e.Assign target.root target.part target.indices right) kind)

-- `x += right` and the like, where `x` is of this kind, by its operation
abbrev pub update : Operation → Kind → Target → TypedExpr → Found
update o kind target right = value (e.Update o.op o.ty target.root target.part target.indices right) kind

abbrev pub updated_with : Operation → Kind → Target → Found → Option Found
updated_with o kind target b = do
  right ← fit o.right b
  ok ← when (fits o.ty kind)
  Some (update o kind target right)

abbrev pub updated_as : BinaryOp → Kind → Target → Found → Option Found
updated_as operator kind target b = operation operator kind b.kind >>= λ o. updated_with o kind target b

-- an assignment to a target of this kind, alone or with an operator
abbrev pub stored_as : Option BinaryOp → Kind → Target → Found → Option Found
stored_as None kind target b = set_as kind target b
stored_as (Some operator) kind target b = updated_as operator kind target b

-- an assignment of an expression to an expression
abbrev pub assigned : AssignOp → Found → Found → Option Found
assigned operator left right = target_form left.form >>= λ target. stored_as (operator_of operator) left.kind target right

-- what is passed for an output
abbrev pub output_argument : Form → Option Argument
output_argument form = target_form form >>= λ target. Some (Out target.root target.part target.indices)
