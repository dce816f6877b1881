-- Parts of declarations and statements, as the code has them.
use Rattle.std.specs.Prelude.{ℕ, ◌+◌, Bool, true, not, ℤ, List, [], ◌∷◌, length, map, Option, None, Some, slice_get}
use Rattle.osl_overload.specs.declared.signature.Kind.{Kind}
use Rattle.osl_overload.specs.declared.signature.Kind.TheVariants.{Value, Structure, Void}
use Rattle.osl_tree.specs.declared.expr.Expr.{Expr}
use Rattle.osl_tree.specs.declared.stmt.ForStart.{ForStart}
use Rattle.osl_tree.specs.declared.stmt.Stmt.{Stmt}
use Rattle.osl_tree.specs.declared.stmt.Var.{Var}
use Rattle.osl_typed.specs.declared.expr.TypedExpr.{TypedExpr}
use Rattle.osl_typed.specs.declared.stmt.Declared.{Declared}
use Rattle.osl_typed.specs.declared.stmt.TypedForStart.{TypedForStart}
use Rattle.osl_typed.specs.declared.stmt.TypedStmt.{TypedStmt}
use Rattle.osl_typed.specs.declared.stmt.TypedStmt.TheVariants.{For}
use Rattle.osl_typed.specs.Scopes.{Scope, Sight, StructureName, is_here, with_variable, enter, leave}
use Rattle.osl_typed.specs.Typing.{◌>>=◌, when, sequence, typing, fit}
use Rattle.osl_typed.specs.BodyTyping.{Around, array_kind, listed_kinds, fit_first, maybe_begun, condition, evaluated, maybe, started, inside, all_typed, going}

-- the kind of a variable, from the kind that its type makes and perhaps a length
abbrev pub lengthened : Option Kind → Option ℤ → Option Kind
lengthened plain None = plain
lengthened None (Some n) = None
lengthened (Some (Value ty)) (Some n) = array_kind ty.base n
lengthened (Some (Structure m)) (Some n) = None
lengthened (Some Void) (Some n) = None

abbrev pub fitted : Sight → Scope → Kind → Expr → Option TypedExpr
fitted sight scope kind a = typing sight scope.bindings a >>= fit kind

-- what the item at a place of a list in braces has to be
abbrev pub kind_at : List StructureName → Kind → ℕ → Option Kind
kind_at structures kind place = listed_kinds structures kind >>= λ kinds. slice_get kinds place

-- the item at a place of a list in braces
abbrev pub item_at : Sight → Scope → Kind → ℕ → Expr → Option TypedExpr
item_at sight scope kind place a = kind_at sight.structures kind place >>= λ wanted. fitted sight scope wanted a

-- a list in braces
unfoldable pub listed : Sight → Scope → Kind → List Expr → Option (List TypedExpr)
listed sight scope kind items = do
  kinds ← listed_kinds sight.structures kind
  all ← sequence (map (typing sight scope.bindings) items)
  fit_first kinds all

-- the items of such a list, the first of which has this place
unfoldable pub placed : Sight → Scope → Kind → ℕ → List Expr → Option (List TypedExpr)
placed sight scope kind place [] = Some []
placed sight scope kind place (a ∷ items) = item_at sight scope kind place a >>= λ x. placed sight scope kind (place + 1) items >>= λ xs. Some (x ∷ xs)

-- one variable of a declaration whose type makes this kind
unfoldable pub declare_one : Sight → Option Kind → Var → Scope → Option (Declared × Scope)
declare_one sight plain v scope = do
  kind ← lengthened plain v.item.len
  x ← maybe_begun sight scope kind v.init
  ok ← when (not (is_here v.item.name scope))
  Some (record { number = length scope.kinds; kind = kind; init = x }, with_variable v.item.name kind true scope)

-- what the statements of a body see that returns a kind, and what expressions see in any body
abbrev pub around : Sight → Kind → Around
around sight result = record { sight = sight; result = result }

abbrev pub in_sight : Sight → Around
in_sight sight = around sight Void

-- the parts in the parentheses of a `for`
abbrev pub Heading : Type 0
Heading = TypedForStart × Option TypedExpr × Option TypedExpr

-- its typed form, and the scope after it
abbrev pub heading : Around → Scope → ForStart → Option Expr → Option Expr → Option (Heading × Scope)
heading around scope first c step = do
  begin ← started around scope first
  x ← maybe (condition around (begin.1)) c
  y ← maybe (evaluated around (begin.1)) step
  Some ((begin.0, x, y), begin.1)

-- a `for` whose parentheses are read
abbrev pub repeated : Around → Heading → Stmt → Scope → Option (TypedStmt × Scope)
repeated around head a scope = inside (going around a) true scope >>= λ r. Some (For (head.0) (head.1) (head.2) (r.0), r.1)

-- the statements of a block
abbrev pub block : Around → List Stmt → Bool → Scope → Option (List TypedStmt × Scope)
block around statements in_loop scope = all_typed (map (going around) statements) in_loop (enter scope) >>= λ r. Some (r.0, leave scope (r.1))
