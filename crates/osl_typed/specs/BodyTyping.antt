-- The typed form of types, declarations and statements, if they have one: a rule for each form (OSL specification, section "Declarations, statements and blocks").
use Rattle.std.specs.Prelude.{nat_le, Bool, true, false, not, ◌&&◌, if◌then◌else◌, ℤ, pos, negsuc, List, [], ◌∷◌, length, map, replicate, Option, None, Some}
use Rattle.osl_value.specs.declared.types.Base.{Base}
use Rattle.osl_value.specs.declared.types.Base.TheVariants.{Closure}
use Rattle.osl_value.specs.Types.{only, same_base, longest_array}
use Rattle.osl_value.specs.AnyValue.{is_array, element_type}
use Rattle.osl_overload.specs.Kinds.{same_kind}
use Rattle.osl_overload.specs.declared.signature.Kind.{Kind}
use Rattle.osl_overload.specs.declared.signature.Kind.TheVariants.{Value, Structure, Void}
use Rattle.osl_tree.specs.declared.expr.Expr.{Expr}
use Rattle.osl_tree.specs.declared.stmt.TypeName.{TypeName}
use Rattle.osl_tree.specs.declared.stmt.TypeName.TheVariants as types
use Rattle.osl_tree.specs.declared.stmt.Init.{Init}
use Rattle.osl_tree.specs.declared.stmt.Init.TheVariants as begin
use Rattle.osl_tree.specs.declared.stmt.Var.{Var}
use Rattle.osl_tree.specs.declared.stmt.ForStart.{ForStart}
use Rattle.osl_tree.specs.declared.stmt.ForStart.TheVariants as from
use Rattle.osl_tree.specs.declared.stmt.Stmt.{Stmt, Stmt-F, fold-Stmt}
use Rattle.osl_tree.specs.declared.stmt.Stmt.TheOpen as s
use Rattle.osl_typed.specs.declared.expr.TypedExpr.{TypedExpr}
use Rattle.osl_typed.specs.declared.found.Found.{Found}
use Rattle.osl_typed.specs.declared.stmt.TypedInit.{TypedInit}
use Rattle.osl_typed.specs.declared.stmt.TypedInit.TheVariants as init
use Rattle.osl_typed.specs.declared.stmt.Declared.{Declared}
use Rattle.osl_typed.specs.declared.stmt.TypedForStart.{TypedForStart}
use Rattle.osl_typed.specs.declared.stmt.TypedForStart.TheVariants as start
use Rattle.osl_typed.specs.declared.stmt.TypedStmt.{TypedStmt}
use Rattle.osl_typed.specs.declared.stmt.TypedStmt.TheVariants as t
use Rattle.osl_typed.specs.Operators.{base_named, is_numeric}
use Rattle.osl_typed.specs.Scopes.{Scope, Sight, StructureName, is_here, with_variable, enter, leave, structure_named}
use Rattle.osl_typed.specs.Typing.{◌>>=◌, when, sequence, typing, fit, tree_of, fields_of_structure}

-- ---- types

-- an array has 1 to 1,024 elements, and none of them is a closure
abbrev pub array_kind : Base → ℤ → Option Kind
array_kind base (pos n) =
    if nat_le 1 n && nat_le n longest_array && not (same_base base Closure) then Some (Value (record { base = base; len = n })) else None
array_kind base (negsuc n) = None

-- the kind that a type and perhaps a length make; there are no arrays of structures
abbrev pub declared_kind : List StructureName → TypeName → Option ℤ → Option Kind
declared_kind structures (types.Base base) None = Some (Value (only (base_named base)))
declared_kind structures (types.Base base) (Some n) = array_kind (base_named base) n
declared_kind structures (types.Struct word) None = structure_named 0 structures word >>= λ m. Some (Structure m)
declared_kind structures (types.Struct word) (Some n) = None

-- ---- initialisers

-- what a list in braces may give: the elements of an array, or the fields of a structure
abbrev pub listed_kinds : List StructureName → Kind → Option (List Kind)
listed_kinds structures (Value ty) = if is_array ty then Some (replicate ty.len (Value (element_type ty))) else None
listed_kinds structures (Structure m) = Some (map (λ field. field.kind) (fields_of_structure structures m))
listed_kinds structures Void = None

-- the first of these kinds, in order; there may be fewer, and not more
unfoldable pub fit_first : List Kind → List Found → Option (List TypedExpr)
fit_first kinds [] = Some []
fit_first [] (a ∷ items) = None
fit_first (kind ∷ kinds) (a ∷ items) = fit kind a >>= λ x. fit_first kinds items >>= λ xs. Some (x ∷ xs)

unfoldable pub begun : Sight → Scope → Kind → Init → Option TypedInit
begun sight scope kind (begin.Expr a) = typing sight scope.bindings a >>= fit kind >>= λ x. Some (init.Expr x)
begun sight scope kind (begin.List items) = do
  kinds ← listed_kinds sight.structures kind
  all ← sequence (map (typing sight scope.bindings) items)
  xs ← fit_first kinds all
  Some (init.List xs)

-- ---- declarations

abbrev pub maybe_begun : Sight → Scope → Kind → Option Init → Option (Option TypedInit)
maybe_begun sight scope kind None = Some None
maybe_begun sight scope kind (Some x) = begun sight scope kind x >>= λ y. Some (Some y)

-- a variable is in scope only after its initialiser, if its name is not declared in this very block
unfoldable pub declare : Sight → TypeName → Var → Scope → Option (Declared × Scope)
declare sight type v scope = do
  kind ← declared_kind sight.structures type v.item.len
  x ← maybe_begun sight scope kind v.init
  ok ← when (not (is_here v.item.name scope))
  Some (record { number = length scope.kinds; kind = kind; init = x }, with_variable v.item.name kind true scope)

unfoldable pub declare_all : Sight → TypeName → List Var → Scope → Option (List Declared × Scope)
declare_all sight type [] scope = Some ([], scope)
declare_all sight type (v ∷ vs) scope = declare sight type v scope >>= λ r. declare_all sight type vs (r.1) >>= λ rest. Some (r.0 ∷ rest.0, rest.1)

-- ---- statements

-- what the statements of a body see, and the kind that it returns
pub record Around : Type 0 where
  pub sight : Sight
  pub result : Kind

-- a statement, in a loop or not, may add to the scope
abbrev pub Going : Type 0
Going = Bool → Scope → Option (TypedStmt × Scope)

-- one after the other
unfoldable pub all_typed : List Going → Bool → Scope → Option (List TypedStmt × Scope)
all_typed [] in_loop scope = Some ([], scope)
all_typed (go ∷ rest) in_loop scope = go in_loop scope >>= λ r. all_typed rest in_loop (r.1) >>= λ others. Some (r.0 ∷ others.0, others.1)

-- a statement that is a block of its own
abbrev pub inside : Going → Going
inside go in_loop scope = go in_loop (enter scope) >>= λ r. Some (r.0, leave scope (r.1))

abbrev pub evaluated : Around → Scope → Expr → Option TypedExpr
evaluated around scope a = typing around.sight scope.bindings a >>= λ b. Some (tree_of b)

-- a condition is a number
abbrev pub condition : Around → Scope → Expr → Option TypedExpr
condition around scope a = typing around.sight scope.bindings a >>= λ b. when (is_numeric b.kind) >>= λ ok. Some (tree_of b)

abbrev pub maybe : {A B : Type 0} → (A → Option B) → Option A → Option (Option B)
maybe go None = Some None
maybe go (Some a) = go a >>= λ b. Some (Some b)

-- a value is returned as the kind of the function, which is not `void`
abbrev pub returned : Around → Scope → Option Expr → Option (Option TypedExpr)
returned around scope None = when (same_kind around.result Void) >>= λ ok. Some None
returned around scope (Some a) = do
  ok ← when (not (same_kind around.result Void))
  b ← typing around.sight scope.bindings a
  x ← fit around.result b
  Some (Some x)

abbrev pub started : Around → Scope → ForStart → Option (TypedForStart × Scope)
started around scope from.Nothing = Some (start.Nothing, scope)
started around scope (from.Expr a) = evaluated around scope a >>= λ x. Some (start.Expr x, scope)
started around scope (from.Declare d) = declare_all around.sight d.ty d.vars scope >>= λ r. Some (start.Declare (r.0), r.1)

-- one node of a statement, from its parts
abbrev pub going_step : Around → Stmt-F Going → Going
going_step around s.Empty in_loop scope = Some (t.Empty, scope)
going_step around (s.Block all) in_loop scope = all_typed all in_loop (enter scope) >>= λ r. Some (t.Block (r.0), leave scope (r.1))
going_step around (s.Declare d) in_loop scope = declare_all around.sight d.ty d.vars scope >>= λ r. Some (t.Declare (r.0), r.1)
going_step around (s.Expr a) in_loop scope = evaluated around scope a >>= λ x. Some (t.Expr x, scope)
going_step around s.Break in_loop scope = when in_loop >>= λ ok. Some (t.Break, scope)
going_step around s.Continue in_loop scope = when in_loop >>= λ ok. Some (t.Continue, scope)
going_step around (s.Return a) in_loop scope = returned around scope a >>= λ x. Some (t.Return x, scope)
going_step around (s.If c go None) in_loop scope = do
  x ← condition around scope c
  r ← inside go in_loop scope
  Some (t.If x (r.0) None, r.1)
going_step around (s.If c go (Some other)) in_loop scope = do
  x ← condition around scope c
  r ← inside go in_loop scope
  q ← inside other in_loop (r.1)
  Some (t.If x (r.0) (Some (q.0)), q.1)
going_step around (s.While c go) in_loop scope = do
  x ← condition around scope c
  r ← inside go true scope
  Some (t.While x (r.0), r.1)
going_step around (s.DoWhile go c) in_loop scope = do
  r ← inside go true scope
  x ← condition around (r.1) c
  Some (t.DoWhile (r.0) x, r.1)
going_step around (s.For first c step go) in_loop scope = do
  begin ← started around (enter scope) first
  x ← maybe (condition around (begin.1)) c
  y ← maybe (evaluated around (begin.1)) step
  r ← inside go true (begin.1)
  Some (t.For (begin.0) x y (r.0), leave scope (r.1))

unfoldable pub going : Around → Stmt → Going
going around x = fold-Stmt Going (going_step around) x

-- the statements of a body; `break` and `continue` are in its loops
abbrev pub body_typed : Around → List Stmt → Scope → Option (List TypedStmt × Scope)
body_typed around body scope = all_typed (map (going around) body) false scope
