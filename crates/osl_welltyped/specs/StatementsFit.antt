-- Which typed statements are well formed, and the variables that they declare (OSL specification, section "Declarations, statements and blocks").
use Rattle.std.specs.Prelude.{ℕ, ◌+◌, nat_le, ◌==◌, Bool, true, false, not, ◌&&◌, List, [], ◌∷◌, ◌++◌, length, Option, None, Some, is_some}
use Rattle.std.specs.List.{list_all, flat_map}
use Rattle.osl_value.specs.AnyValue.{is_array, element_type}
use Rattle.osl_overload.specs.Kinds.{same_kind}
use Rattle.osl_overload.specs.declared.signature.Kind.{Kind}
use Rattle.osl_overload.specs.declared.signature.Kind.TheVariants.{Value, Structure, Void}
use Rattle.osl_typed.specs.declared.expr.Root.TheVariants as root
use Rattle.osl_typed.specs.declared.expr.TypedExpr.{TypedExpr}
use Rattle.osl_typed.specs.declared.stmt.Declared.{Declared}
use Rattle.osl_typed.specs.declared.stmt.TypedForStart.{TypedForStart}
use Rattle.osl_typed.specs.declared.stmt.TypedForStart.TheVariants as start
use Rattle.osl_typed.specs.declared.stmt.TypedInit.{TypedInit}
use Rattle.osl_typed.specs.declared.stmt.TypedInit.TheVariants as init
use Rattle.osl_typed.specs.declared.stmt.TypedStmt.{TypedStmt, TypedStmt-F, fold-TypedStmt}
use Rattle.osl_typed.specs.declared.stmt.TypedStmt.TheOpen as s
use Rattle.osl_typed.specs.Frames.{fields_of}
use Rattle.osl_welltyped.specs.Kinded.{Rules, is_kind, is_numeric, root_kind, kinded}

-- ---- initialisers

-- an expression of a kind
abbrev pub has_kind : Rules → Kind → TypedExpr → Bool
has_kind rules kind x = is_kind kind (kinded rules x)

-- the first of these kinds, in order
abbrev pub items_fit : Rules → List Kind → List TypedExpr → Bool
items_fit rules kinds [] = true
items_fit rules [] (x ∷ xs) = false
items_fit rules (kind ∷ kinds) (x ∷ xs) = has_kind rules kind x && items_fit rules kinds xs

-- no more elements than the array has, or the first fields of a structure
abbrev pub list_fits : Rules → Kind → List TypedExpr → Bool
list_fits rules (Value ty) items = is_array ty && nat_le (length items) ty.len && list_all (has_kind rules (Value (element_type ty))) items
list_fits rules (Structure m) items = items_fit rules (fields_of rules.structures m) items
list_fits rules Void items = false

abbrev pub init_fits : Rules → Kind → TypedInit → Bool
init_fits rules kind (init.Expr a) = has_kind rules kind a
init_fits rules kind (init.List items) = list_fits rules kind items

abbrev pub maybe_fits : Rules → Kind → Option TypedInit → Bool
maybe_fits rules kind None = true
maybe_fits rules kind (Some x) = init_fits rules kind x

-- ---- statements

-- a declaration has its number's kind in the frame
abbrev pub declared_fits : Rules → Declared → Bool
declared_fits rules d = is_kind d.kind (root_kind rules (root.Variable d.number)) && maybe_fits rules d.kind d.init

abbrev pub evaluated_fits : Rules → TypedExpr → Bool
evaluated_fits rules a = is_some (kinded rules a)

abbrev pub condition_fits : Rules → TypedExpr → Bool
condition_fits rules c = is_numeric (kinded rules c)

abbrev pub start_fits : Rules → TypedForStart → Bool
start_fits rules start.Nothing = true
start_fits rules (start.Expr a) = evaluated_fits rules a
start_fits rules (start.Declare ds) = list_all (declared_fits rules) ds

-- what may be missing fits where it is there
abbrev pub if_any : {A : Type 0} → (A → Bool) → Option A → Bool
if_any test None = true
if_any test (Some a) = test a

-- a value of the function's kind, which is not `void`, and else none
abbrev pub returned_fits : Rules → Kind → Option TypedExpr → Bool
returned_fits rules result None = same_kind result Void
returned_fits rules result (Some a) = not (same_kind result Void) && has_kind rules result a

-- in a loop or not
abbrev pub Fits : Type 0
Fits = Bool → Bool

abbrev pub fit_step : Rules → Kind → TypedStmt-F Fits → Fits
fit_step rules result s.Empty in_loop = true
fit_step rules result (s.Block all) in_loop = list_all (λ fits. fits in_loop) all
fit_step rules result (s.Declare ds) in_loop = list_all (declared_fits rules) ds
fit_step rules result (s.Expr a) in_loop = evaluated_fits rules a
fit_step rules result s.Break in_loop = in_loop
fit_step rules result s.Continue in_loop = in_loop
fit_step rules result (s.Return a) in_loop = returned_fits rules result a
fit_step rules result (s.If c a b) in_loop = condition_fits rules c && a in_loop && if_any (λ fits. fits in_loop) b
fit_step rules result (s.While c a) in_loop = condition_fits rules c && a true
fit_step rules result (s.DoWhile a c) in_loop = a true && condition_fits rules c
fit_step rules result (s.For x c step a) in_loop =
    start_fits rules x && if_any (condition_fits rules) c && if_any (evaluated_fits rules) step && a true

unfoldable pub stmt_fits : Rules → Kind → TypedStmt → Fits
stmt_fits rules result x = fold-TypedStmt Fits (fit_step rules result) x

-- the statements of a body, which is in no loop
abbrev pub body_fits : Rules → Kind → List TypedStmt → Bool
body_fits rules result body = list_all (λ x. stmt_fits rules result x false) body

-- ---- the variables of a body, in the order of their declarations

abbrev pub declared_at : TypedForStart → List Declared
declared_at start.Nothing = []
declared_at (start.Expr a) = []
declared_at (start.Declare ds) = ds

abbrev pub or_none : Option (List Declared) → List Declared
or_none None = []
or_none (Some ds) = ds

abbrev pub declares_step : TypedStmt-F (List Declared) → List Declared
declares_step s.Empty = []
declares_step (s.Block all) = flat_map (λ ds. ds) all
declares_step (s.Declare ds) = ds
declares_step (s.Expr a) = []
declares_step s.Break = []
declares_step s.Continue = []
declares_step (s.Return a) = []
declares_step (s.If c a b) = a ++ or_none b
declares_step (s.While c a) = a
declares_step (s.DoWhile a c) = a
declares_step (s.For x c step a) = declared_at x ++ a

unfoldable pub declares : TypedStmt → List Declared
declares x = fold-TypedStmt (List Declared) declares_step x

abbrev pub declared_in : List TypedStmt → List Declared
declared_in body = flat_map declares body

-- declarations have the numbers from n on, in order
abbrev pub are_numbered : ℕ → List Declared → Bool
are_numbered n [] = true
are_numbered n (d ∷ ds) = (d.number == n) && are_numbered (n + 1) ds
