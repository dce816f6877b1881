-- The kind of an expression, which its outermost node tells.
use Rattle.osl_value.specs.declared.types.Base.TheVariants.{Int, Float, Str}
use Rattle.osl_value.specs.Types.{only}
use Rattle.osl_overload.specs.declared.signature.Kind.{Kind}
use Rattle.osl_overload.specs.declared.signature.Kind.TheVariants.{Value, Void}
use Rattle.osl_typed.specs.declared.expr.TypedExpr.{TypedExpr}
use Rattle.osl_typed.specs.declared.expr.Argument.{Argument}
use Rattle.osl_typed.specs.declared.expr.Argument.TheOpen as e
use Rattle.osl_typed.specs.declared.expr.Argument.TheOpen.{TypedExpr-F, Argument-F}
use Rattle.osl_typed.specs.declared.expr.Argument.TheFolds.{fold-TypedExpr, fold-Argument}
use Rattle.osl_typed.specs.Selections.{part_kind}

-- no part is asked
abbrev pub kind_of_node : TypedExpr-F Kind Kind → Kind
kind_of_node (e.Int n) = Value (only Int)
kind_of_node (e.Float units) = Value (only Float)
kind_of_node (e.Text bytes) = Value (only Str)
kind_of_node (e.Variable root part indices) = part_kind part indices
kind_of_node (e.PartOf kind a part indices) = part_kind part indices
kind_of_node (e.Paren kind a) = kind
kind_of_node (e.Promote ty a) = Value ty
kind_of_node (e.Apply op ty operands) = Value ty
kind_of_node (e.And a b) = Value (only Int)
kind_of_node (e.Or a b) = Value (only Int)
kind_of_node (e.Choose kind c a b) = kind
kind_of_node (e.Assign root part indices a) = part_kind part indices
kind_of_node (e.Update op ty root part indices a) = part_kind part indices
kind_of_node (e.Step step ty root) = Value ty
kind_of_node (e.Call f kind args) = kind
kind_of_node e.Exit = Void

-- an output argument has the kind of its part
abbrev pub kind_of_argument : Argument-F Kind Kind → Kind
kind_of_argument (e.In a) = a
kind_of_argument (e.Out root part indices) = part_kind part indices

unfoldable pub kind_of : TypedExpr → Kind
kind_of x = fold-TypedExpr Kind Kind kind_of_argument kind_of_node x

-- the kind of what is passed
unfoldable pub kind_passed : Argument → Kind
kind_passed x = fold-Argument Kind Kind kind_of_argument kind_of_node x
