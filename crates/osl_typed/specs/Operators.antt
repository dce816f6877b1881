-- Which kinds operators take, what they promote to, and which operation each is (OSL specification, section "Operators").
use Rattle.std.specs.Prelude.{◌==◌, Bool, false, ◌&&◌, ◌||◌, if◌then◌else◌, Option, None, Some, is_some}
use Rattle.osl_value.specs.declared.op_name.OpName.{OpName}
use Rattle.osl_value.specs.declared.op_name.OpName.TheVariants as op
use Rattle.osl_value.specs.declared.types.Base.{Base}
use Rattle.osl_value.specs.declared.types.Base.TheVariants.{Int, Float, Color, Point, Vector, Normal, Matrix, Str, Closure}
use Rattle.osl_value.specs.declared.types.Ty.{Ty}
use Rattle.osl_value.specs.Types.{only, is_only}
use Rattle.osl_value.specs.AnyValue.{is_number, is_one_triple}
use Rattle.osl_overload.specs.Cost.{is_spatial, promotion_of}
use Rattle.osl_overload.specs.Kinds.{same_kind}
use Rattle.osl_overload.specs.declared.signature.Kind.{Kind}
use Rattle.osl_overload.specs.declared.signature.Kind.TheVariants.{Value}
use Rattle.osl_tree.specs.declared.expr.BaseType.{BaseType}
use Rattle.osl_tree.specs.declared.expr.BaseType.TheVariants as bases
use Rattle.osl_tree.specs.declared.expr.BinaryOp.{BinaryOp}
use Rattle.osl_tree.specs.declared.expr.BinaryOp.TheVariants as by
use Rattle.osl_tree.specs.declared.expr.AssignOp.{AssignOp}
use Rattle.osl_tree.specs.declared.expr.AssignOp.TheVariants as to

-- ---- kinds

abbrev pub int : Kind
int = Value (only Int)

abbrev pub float : Kind
float = Value (only Float)

abbrev pub closure : Kind
closure = Value (only Closure)

-- whether a kind is a type of which this holds
abbrev pub is_type : (Ty → Bool) → Kind → Bool
is_type test (Value ty) = test ty
is_type test _ = false

-- an int or a float
abbrev pub is_numeric : Kind → Bool
is_numeric kind = is_type is_number kind

abbrev pub is_arithmetic : Ty → Bool
is_arithmetic ty = is_number ty || is_one_triple ty

-- what a closure may be multiplied by
abbrev pub is_factor : Ty → Bool
is_factor ty = is_number ty || is_only Color ty

-- a point, a vector or a normal
abbrev pub is_spatial_type : Ty → Bool
is_spatial_type ty = is_spatial ty.base && (ty.len == 0)

-- the type that reserved words name
abbrev pub base_named : BaseType → Base
base_named bases.Int = Int
base_named bases.Float = Float
base_named bases.Color = Color
base_named bases.Point = Point
base_named bases.Vector = Vector
base_named bases.Normal = Normal
base_named bases.Matrix = Matrix
base_named bases.Str = Str
base_named bases.Closure = Closure

-- ---- two operands

-- Two kinds become one: the same kind stays, two spatial kinds become a vector, and else one promotes to the other.
abbrev pub joined : Kind → Kind → Option Kind
joined a b =
    if same_kind a b then Some a
    else if is_type is_spatial_type a && is_type is_spatial_type b then Some (Value (only Vector))
    else if is_some (promotion_of a b) then Some b
    else if is_some (promotion_of b a) then Some a
    else None

-- an operation on operands of this type that are fit for it, and the type that it gives
abbrev pub on_type : OpName → (fits : Bool) → Ty → Option (OpName × Ty)
on_type name fits ty = if fits then Some (name, ty) else None

abbrev pub arithmetic : OpName → Ty → Option (OpName × Ty)
arithmetic name ty = on_type name (is_arithmetic ty) ty

abbrev pub of_ints : OpName → Ty → Option (OpName × Ty)
of_ints name ty = on_type name (is_only Int ty) ty

abbrev pub comparing : OpName → Ty → Option (OpName × Ty)
comparing name ty = on_type name (is_number ty) (only Int)

-- what is equal or not: numbers, triples, strings and matrices
abbrev pub equating : OpName → Ty → Option (OpName × Ty)
equating name ty = on_type name (is_arithmetic ty || is_only Str ty || is_only Matrix ty) (only Int)

-- the operation that an operator is on operands of one type, and the type that it gives; `&&` and `||` are no operations
abbrev pub given : BinaryOp → Ty → Option (OpName × Ty)
given by.Add ty = on_type op.Add (is_arithmetic ty || is_only Closure ty) ty
given by.Subtract ty = arithmetic op.Sub ty
given by.Multiply ty = on_type op.Mul (is_arithmetic ty || is_only Matrix ty) ty
given by.Divide ty = arithmetic op.Div ty
given by.Remainder ty = of_ints op.IRem ty
given by.ShiftLeft ty = of_ints op.Shl ty
given by.ShiftRight ty = of_ints op.Shr ty
given by.BitAnd ty = of_ints op.BitAnd ty
given by.BitXor ty = of_ints op.Xor ty
given by.BitOr ty = of_ints op.BitOr ty
given by.Less ty = comparing op.Lt ty
given by.LessEqual ty = comparing op.Le ty
given by.Greater ty = comparing op.Gt ty
given by.GreaterEqual ty = comparing op.Ge ty
given by.Equal ty = equating op.Eq ty
given by.NotEqual ty = equating op.Neq ty
given by.And ty = None
given by.Or ty = None

-- the operator of `x op= e`
abbrev pub operator_of : AssignOp → Option BinaryOp
operator_of to.Set = None
operator_of to.Add = Some by.Add
operator_of to.Subtract = Some by.Subtract
operator_of to.Multiply = Some by.Multiply
operator_of to.Divide = Some by.Divide
operator_of to.ShiftLeft = Some by.ShiftLeft
operator_of to.ShiftRight = Some by.ShiftRight
operator_of to.BitAnd = Some by.BitAnd
operator_of to.BitOr = Some by.BitOr
operator_of to.BitXor = Some by.BitXor

-- an operation, the type that it gives, and the kinds that it wants of its operands
pub record Operation : Type 0 where
  pub op : OpName
  pub ty : Ty
  pub left : Kind
  pub right : Kind

-- a closure is multiplied by a number or a color, on either side
abbrev pub is_scaling : BinaryOp → Kind → Kind → Bool
is_scaling by.Multiply a b = (is_type is_factor a && same_kind b closure) || (same_kind a closure && is_type is_factor b)
is_scaling _ a b = false

abbrev pub on_one_type : Kind → Option (OpName × Ty) → Option Operation
on_one_type kind None = None
on_one_type kind (Some (name, ty)) = Some (record { op = name; ty = ty; left = kind; right = kind })

abbrev pub on_one_kind : BinaryOp → Option Kind → Option Operation
on_one_kind operator (Some (Value ty)) = on_one_type (Value ty) (given operator ty)
on_one_kind operator _ = None

-- the operation that an operator is on two kinds
abbrev pub operation : BinaryOp → Kind → Kind → Option Operation
operation operator a b =
    if is_scaling operator a b then Some (record { op = op.Mul; ty = only Closure; left = a; right = b })
    else on_one_kind operator (joined a b)

-- ---- conversions

-- a cast or a constructor of one argument takes a number to a number, a number to a triple, and a triple to any triple
abbrev pub is_convertible : Ty → Ty → Bool
is_convertible to from =
    (is_number to && is_number from) || (is_one_triple to && is_arithmetic from)

-- a float is cut to an int, and else the value is assigned
abbrev pub conversion_of : Ty → Ty → OpName
conversion_of to from = if is_only Int to && is_only Float from then op.ToInt else op.Assign
