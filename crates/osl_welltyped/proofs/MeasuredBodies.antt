-- The measures of typed initialisers, statements, functions and shaders are at most those of their sources.
use Rattle.std.proofs.Common.{◌≡◌, ℕ, ◌≤◌, max, Bool, true, false, not, List, [], ◌∷◌, length, map, Option, Some, None, refl, sym, ap, ◌∙◌, subst, arith}
use Rattle.osl_overload.specs.Kinds.{same_kind}
use Rattle.osl_overload.specs.declared.signature.Kind.{Kind}
use Rattle.osl_overload.specs.declared.signature.Kind.TheVariants.{Void}
use Rattle.osl_tree.specs.declared.expr.Expr.{Expr}
use Rattle.osl_tree.specs.declared.stmt.Declaration.{Declaration}
use Rattle.osl_tree.specs.declared.stmt.ForStart.{ForStart}
use Rattle.osl_tree.specs.declared.stmt.ForStart.TheVariants as from
use Rattle.osl_tree.specs.declared.stmt.Init.{Init}
use Rattle.osl_tree.specs.declared.stmt.Init.TheVariants as begin
use Rattle.osl_tree.specs.declared.stmt.Stmt.{Stmt, Stmt-F, fold-Stmt, fold-roll-Stmt, ind-Stmt, roll-Stmt}
use Rattle.osl_tree.specs.declared.stmt.Stmt.TheFolds.{map-Stmt}
use Rattle.osl_tree.specs.declared.stmt.Stmt.TheOpen as o
use Rattle.osl_tree.specs.declared.stmt.TypeName.{TypeName}
use Rattle.osl_tree.specs.declared.stmt.Var.{Var}
use Rattle.osl_typed.specs.declared.expr.TypedExpr.{TypedExpr}
use Rattle.osl_typed.specs.declared.found.Found.{Found}
use Rattle.osl_typed.specs.declared.stmt.Declared.{Declared}
use Rattle.osl_typed.specs.declared.stmt.TypedForStart.{TypedForStart}
use Rattle.osl_typed.specs.declared.stmt.TypedForStart.TheVariants as start
use Rattle.osl_typed.specs.declared.stmt.TypedInit.{TypedInit}
use Rattle.osl_typed.specs.declared.stmt.TypedStmt.{TypedStmt}
use Rattle.osl_typed.specs.declared.stmt.TypedStmt.TheVariants as t
use Rattle.osl_typed.specs.Operators as operators
use Rattle.osl_typed.specs.Scopes.{Scope, Sight, is_here, with_variable, enter, leave}
use Rattle.osl_typed.specs.Typing.{◌>>=◌, sequence, typing, fit, tree_of}
use Rattle.osl_typed.specs.BodyTyping.{declared_kind, listed_kinds, fit_first, begun, maybe_begun, declare, declare_all, Around, Going, all_typed, inside, evaluated, condition, maybe, returned, started, going_step, going, body_typed}
use Rattle.osl_welltyped.specs.Measures.{Measure, greatest_of, or_zero, measured, all_measured, maybe_measured, init_measured, begun_measured, declared_measured, start_measured, stmt_measured, body_measured}
use Rattle.osl_welltyped.proofs.Measured.{IsMeasure, source_measured, typing_low, fit_low}
use Rattle.osl_welltyped.proofs.StatementNodes.{measured-Empty, measured-Block, measured-Declare, measured-Expr, measured-Break, measured-Continue, measured-Return, measured-If, measured-If-else, measured-While, measured-DoWhile, measured-For}
use Rattle.osl_welltyped.proofs.Steps.{none_is_not, some_same, bound, held}

-- ---- the measures of sources

abbrev pub all_sources : Measure → List Expr → ℕ
all_sources m xs = greatest_of (map (source_measured m) xs)

abbrev pub source_init : Measure → Init → ℕ
source_init m (begin.Expr a) = source_measured m a
source_init m (begin.List items) = m.node (all_sources m items)

abbrev pub source_begun : Measure → Option Init → ℕ
source_begun m None = m.leaf
source_begun m (Some x) = m.node (source_init m x)

abbrev pub source_vars : Measure → List Var → ℕ
source_vars m vs = greatest_of (map (λ v. source_begun m v.init) vs)

abbrev pub source_declaration : Measure → Declaration → ℕ
source_declaration m d = m.node (source_vars m d.vars)

abbrev pub source_maybe : Measure → Option Expr → ℕ
source_maybe m None = 0
source_maybe m (Some a) = source_measured m a

abbrev pub source_start : Measure → ForStart → ℕ
source_start m from.Nothing = 0
source_start m (from.Expr a) = source_measured m a
source_start m (from.Declare d) = source_declaration m d

abbrev pub source_stmt_step : Measure → Stmt-F ℕ → ℕ
source_stmt_step m o.Empty = m.leaf
source_stmt_step m (o.Block all) = m.node (greatest_of all)
source_stmt_step m (o.Declare d) = source_declaration m d
source_stmt_step m (o.Expr a) = m.node (source_measured m a)
source_stmt_step m o.Break = m.leaf
source_stmt_step m o.Continue = m.leaf
source_stmt_step m (o.Return a) = m.node (source_maybe m a)
source_stmt_step m (o.If c a b) = m.node (max (source_measured m c) (max a (or_zero b)))
source_stmt_step m (o.While c a) = m.node (max (source_measured m c) a)
source_stmt_step m (o.DoWhile a c) = m.node (max a (source_measured m c))
source_stmt_step m (o.For x c step a) = m.node (max (max (source_start m x) (source_maybe m c)) (max (source_maybe m step) a))

unfoldable pub source_stmt : Measure → Stmt → ℕ
source_stmt m x = fold-Stmt ℕ (source_stmt_step m) x

abbrev pub source_body : Measure → List Stmt → ℕ
source_body m body = greatest_of (map (source_stmt m) body)

module _ (m : Measure) (is : IsMeasure m) where
  -- ---- initialisers

  abbrev AllLow : List Found → ℕ → Type 0
  AllLow [] h = Unit {0}
  AllLow (a ∷ args) h = (measured m (tree_of a) ≤ h) × AllLow args h

  lift : (args : List Found) (h k : ℕ) → h ≤ k → AllLow args h → AllLow args k
  lift [] h k le l = tt
  lift (a ∷ args) h k le l = (let first : measured m (tree_of a) ≤ h = l.0 in omega arith, lift args h k le (l.1))

  items_low : (sight : Sight) (scope : Scope) (items : List Expr) (all : List Found) → sequence (map (typing sight scope.bindings) items) ≡ Some all → AllLow all (all_sources m items)
  unfolding sequence
  items_low sight scope [] all g = subst (λ xs. AllLow xs 0) (some_same [] all g) tt
  items_low sight scope (x ∷ items) all g =
      let a = bound (typing sight scope.bindings x) _ all g in
      let rest = bound (sequence (map (typing sight scope.bindings) items)) _ all a.goes in
      let first = typing_low m is sight scope.bindings x a.value a.was in
      subst (λ xs. AllLow xs (all_sources m (x ∷ items))) (some_same (a.value ∷ rest.value) all rest.goes) (omega arith, lift rest.value _ _ (omega arith) (items_low sight scope items rest.value rest.was))

  first_low : (kinds : List Kind) (all : List Found) (xs : List TypedExpr) (h : ℕ) → AllLow all h → fit_first kinds all ≡ Some xs → all_measured m xs ≤ h
  unfolding fit_first
  first_low kinds [] xs h l g = subst (λ ys. all_measured m ys ≤ h) (some_same [] xs g) (omega arith)
  first_low [] (a ∷ all) xs h l g = none_is_not xs g
  first_low (kind ∷ kinds) (a ∷ all) xs h l g =
      let x = bound (fit kind a) _ xs g in
      let rest = bound (fit_first kinds all) _ xs x.goes in
      let one = fit_low m is kind a x.value h (l.0) x.was in
      let more = first_low kinds all rest.value h (l.1) rest.was in
      subst (λ ys. all_measured m ys ≤ h) (some_same (x.value ∷ rest.value) xs rest.goes) (omega arith)

  pub begun_low : (sight : Sight) (scope : Scope) (kind : Kind) (x : Init) (y : TypedInit) → begun sight scope kind x ≡ Some y → init_measured m y ≤ source_init m x
  unfolding begun
  begun_low sight scope kind (begin.Expr a) y g =
      let f = bound (typing sight scope.bindings a >>= fit kind) _ y g in
      let b = bound (typing sight scope.bindings a) (fit kind) f.value f.was in
      subst (λ z. init_measured m z ≤ source_measured m a) (some_same _ y f.goes) (fit_low m is kind b.value f.value _ (typing_low m is sight scope.bindings a b.value b.was) b.goes)
  begun_low sight scope kind (begin.List items) y g =
      let kinds = bound (listed_kinds sight.structures kind) _ y g in
      let all = bound (sequence (map (typing sight scope.bindings) items)) _ y kinds.goes in
      let xs = bound (fit_first kinds.value all.value) _ y all.goes in
      subst (λ z. init_measured m z ≤ m.node (all_sources m items)) (some_same _ y xs.goes) (is.more _ _ (first_low kinds.value all.value xs.value _ (items_low sight scope items all.value all.was) xs.was))

  maybe_begun_low : (sight : Sight) (scope : Scope) (kind : Kind) (x : Option Init) (y : Option TypedInit) → maybe_begun sight scope kind x ≡ Some y → begun_measured m y ≤ source_begun m x
  maybe_begun_low sight scope kind None y g = subst (λ z. begun_measured m z ≤ m.leaf) (some_same None y g) (omega arith)
  maybe_begun_low sight scope kind (Some x) y g =
      let b = bound (begun sight scope kind x) _ y g in
      subst (λ z. begun_measured m z ≤ m.node (source_init m x)) (some_same _ y b.goes) (is.more _ _ (begun_low sight scope kind x b.value b.was))

  one_low : (sight : Sight) (type : TypeName) (v : Var) (scope : Scope) (r : Declared × Scope) → declare sight type v scope ≡ Some r → begun_measured m (r.0).init ≤ source_begun m v.init
  unfolding declare
  one_low sight type v scope r g =
      let kind = bound (declared_kind sight.structures type v.item.len) _ r g in
      let x = bound (maybe_begun sight scope kind.value v.init) _ r kind.goes in
      let t = held (not (is_here v.item.name scope)) _ r x.goes in
      subst (λ (r : Declared × Scope). begun_measured m (r.0).init ≤ source_begun m v.init)
      (some_same {A = Declared × Scope} (record { number = length scope.kinds; kind = kind.value; init = x.value }, with_variable v.item.name kind.value true scope) r (t.1)) (maybe_begun_low sight scope kind.value v.init x.value x.was)

  declared_low : (sight : Sight) (type : TypeName) (vs : List Var) (scope : Scope) (r : List Declared × Scope) → declare_all sight type vs scope ≡ Some r → declared_measured m (r.0) ≤ source_vars m vs
  unfolding declare_all
  declared_low sight type [] scope r g = subst (λ (r : List Declared × Scope). declared_measured m (r.0) ≤ 0) (some_same {A = List Declared × Scope} ([], scope) r g) (omega arith)
  declared_low sight type (v ∷ vs) scope r g =
      let d = bound (declare sight type v scope) _ r g in
      let rest = bound (declare_all sight type vs (d.value.1)) _ r d.goes in
      let one = one_low sight type v scope d.value d.was in
      let more = declared_low sight type vs (d.value.1) rest.value rest.was in
      subst (λ (r : List Declared × Scope). declared_measured m (r.0) ≤ source_vars m (v ∷ vs)) (some_same {A = List Declared × Scope} (d.value.0 ∷ rest.value.0, rest.value.1) r rest.goes) (omega arith)

  -- ---- statements

  module _ (around : Around) where
    abbrev Low : Going → ℕ → Type 0
    Low go h = (in_loop : Bool) (scope : Scope) (r : TypedStmt × Scope) → go in_loop scope ≡ Some r → stmt_measured m (r.0) ≤ h

    over : (x : TypedStmt) (s : Scope) (r : TypedStmt × Scope) (y h : ℕ) → stmt_measured m x ≡ y → y ≤ h → ◌≡◌ {A = Option (TypedStmt × Scope)} (Some (x, s)) (Some r) → stmt_measured m (r.0) ≤ h
    over x s r y h e l g = subst (λ (r : TypedStmt × Scope). stmt_measured m (r.0) ≤ h) (some_same {A = TypedStmt × Scope} (x, s) r g) (subst (λ k. k ≤ h) (sym e) l)

    part_low : (go : Going) (h : ℕ) → Low go h → Low (inside go) h
    part_low go h l in_loop scope r g =
        let q = bound (go in_loop (enter scope)) _ r g in
        subst (λ (r : TypedStmt × Scope). stmt_measured m (r.0) ≤ h) (some_same {A = TypedStmt × Scope} (q.value.0, leave scope (q.value.1)) r q.goes) (l in_loop (enter scope) q.value q.was)

    evaluated_low : (scope : Scope) (a : Expr) (x : TypedExpr) → evaluated around scope a ≡ Some x → measured m x ≤ source_measured m a
    evaluated_low scope a x g = let b = bound (typing around.sight scope.bindings a) _ x g in subst (λ y. measured m y ≤ source_measured m a) (some_same _ x b.goes) (typing_low m is around.sight scope.bindings a b.value b.was)

    condition_low : (scope : Scope) (a : Expr) (x : TypedExpr) → condition around scope a ≡ Some x → measured m x ≤ source_measured m a
    condition_low scope a x g =
        let b = bound (typing around.sight scope.bindings a) _ x g in
        let n = held (operators.is_numeric b.value.kind) _ x b.goes in
        subst (λ y. measured m y ≤ source_measured m a) (some_same _ x (n.1)) (typing_low m is around.sight scope.bindings a b.value b.was)

    maybe_low : (go : Expr → Option TypedExpr) → ((a : Expr) (x : TypedExpr) → go a ≡ Some x → measured m x ≤ source_measured m a) → (a : Option Expr) (x : Option TypedExpr) → maybe go a ≡ Some x → maybe_measured m x ≤ source_maybe m a
    maybe_low go each None x g = subst (λ y. maybe_measured m y ≤ 0) (some_same None x g) (omega arith)
    maybe_low go each (Some a) x g = let b = bound (go a) _ x g in subst (λ y. maybe_measured m y ≤ source_measured m a) (some_same _ x b.goes) (each a b.value b.was)

    returned_low : (scope : Scope) (a : Option Expr) (x : Option TypedExpr) → returned around scope a ≡ Some x → maybe_measured m x ≤ source_maybe m a
    returned_low scope None x g = let n = held (same_kind around.result Void) _ x g in subst (λ y. maybe_measured m y ≤ 0) (some_same None x (n.1)) (omega arith)
    returned_low scope (Some a) x g =
        let n = held (not (same_kind around.result Void)) _ x g in
        let b = bound (typing around.sight scope.bindings a) _ x (n.1) in
        let y = bound (fit around.result b.value) _ x b.goes in
        subst (λ z. maybe_measured m z ≤ source_measured m a) (some_same _ x y.goes) (fit_low m is around.result b.value y.value _ (typing_low m is around.sight scope.bindings a b.value b.was) y.was)

    started_low : (scope : Scope) (first : ForStart) (r : TypedForStart × Scope) → started around scope first ≡ Some r → start_measured m (r.0) ≤ source_start m first
    started_low scope from.Nothing r g = subst (λ (r : TypedForStart × Scope). start_measured m (r.0) ≤ 0) (some_same {A = TypedForStart × Scope} (start.Nothing, scope) r g) (omega arith)
    started_low scope (from.Expr a) r g =
        let x = bound (evaluated around scope a) _ r g in
        subst (λ (r : TypedForStart × Scope). start_measured m (r.0) ≤ source_measured m a) (some_same {A = TypedForStart × Scope} (start.Expr x.value, scope) r x.goes) (evaluated_low scope a x.value x.was)
    started_low scope (from.Declare d) r g =
        let q = bound (declare_all around.sight d.ty d.vars scope) _ r g in
        subst (λ (r : TypedForStart × Scope). start_measured m (r.0) ≤ source_declaration m d) (some_same {A = TypedForStart × Scope} (start.Declare (q.value.0), q.value.1) r q.goes) (is.more _ _ (declared_low around.sight d.ty d.vars scope q.value q.was))

    module _ (Y : Type 0) (tree : Y → Stmt) (low : (y : Y) → Low (going around (tree y)) (source_stmt m (tree y))) where
      all_low : (ys : List Y) (in_loop : Bool) (scope : Scope) (r : List TypedStmt × Scope) → all_typed (map (going around) (map tree ys)) in_loop scope ≡ Some r → greatest_of (map (stmt_measured m) (r.0)) ≤ greatest_of (map (source_stmt m) (map tree ys))
      unfolding all_typed
      all_low [] in_loop scope r g = subst (λ (r : List TypedStmt × Scope). greatest_of (map (stmt_measured m) (r.0)) ≤ 0) (some_same {A = List TypedStmt × Scope} ([], scope) r g) (omega arith)
      all_low (y ∷ ys) in_loop scope r g =
          let a = bound (going around (tree y) in_loop scope) _ r g in
          let rest = bound (all_typed (map (going around) (map tree ys)) in_loop (a.value.1)) _ r a.goes in
          let one = low y in_loop scope a.value a.was in
          let more = all_low ys in_loop (a.value.1) rest.value rest.was in
          subst (λ (r : List TypedStmt × Scope). greatest_of (map (stmt_measured m) (r.0)) ≤ greatest_of (map (source_stmt m) (map tree (y ∷ ys)))) (some_same {A = List TypedStmt × Scope} (a.value.0 ∷ rest.value.0, rest.value.1) r rest.goes) (omega arith)

      step_low : (l : Stmt-F Y) → Low (going_step around (map-Stmt Stmt Going (going around) (map-Stmt Y Stmt tree l))) (source_stmt_step m (map-Stmt Stmt ℕ (source_stmt m) (map-Stmt Y Stmt tree l)))
      step_low o.Empty = λ in_loop scope r g. over t.Empty scope r _ _ (measured-Empty m) (omega arith) g
      step_low (o.Block ys) = λ in_loop scope r g. let q = bound (all_typed (map (going around) (map tree ys)) in_loop (enter scope)) _ r g in
          over (t.Block (q.value.0)) _ r _ _ (measured-Block m (q.value.0)) (is.more _ _ (all_low ys in_loop (enter scope) q.value q.was)) q.goes
      step_low (o.Declare d) = λ in_loop scope r g. let q = bound (declare_all around.sight d.ty d.vars scope) _ r g in
          over (t.Declare (q.value.0)) _ r _ _ (measured-Declare m (q.value.0)) (is.more _ _ (declared_low around.sight d.ty d.vars scope q.value q.was)) q.goes
      step_low (o.Expr a) = λ in_loop scope r g. let x = bound (evaluated around scope a) _ r g in over (t.Expr x.value) scope r _ _ (measured-Expr m x.value) (is.more _ _ (evaluated_low scope a x.value x.was)) x.goes
      step_low o.Break = λ in_loop scope r g. let n = held in_loop _ r g in over t.Break scope r _ _ (measured-Break m) (omega arith) (n.1)
      step_low o.Continue = λ in_loop scope r g. let n = held in_loop _ r g in over t.Continue scope r _ _ (measured-Continue m) (omega arith) (n.1)
      step_low (o.Return a) = λ in_loop scope r g. let x = bound (returned around scope a) _ r g in over (t.Return x.value) scope r _ _ (measured-Return m x.value) (is.more _ _ (returned_low scope a x.value x.was)) x.goes
      step_low (o.If c y None) = λ in_loop scope r g.
          let x = bound (condition around scope c) _ r g in
          let a = bound (inside (going around (tree y)) in_loop scope) _ r x.goes in
          let p = condition_low scope c x.value x.was in
          let q = part_low (going around (tree y)) _ (low y) in_loop scope a.value a.was in
          over (t.If x.value (a.value.0) None) _ r _ _ (measured-If m x.value (a.value.0)) (is.more _ _ (omega arith)) a.goes
      step_low (o.If c y (Some z)) = λ in_loop scope r g.
          let x = bound (condition around scope c) _ r g in
          let a = bound (inside (going around (tree y)) in_loop scope) _ r x.goes in
          let b = bound (inside (going around (tree z)) in_loop (a.value.1)) _ r a.goes in
          let p = condition_low scope c x.value x.was in
          let q = part_low (going around (tree y)) _ (low y) in_loop scope a.value a.was in
          let s = part_low (going around (tree z)) _ (low z) in_loop (a.value.1) b.value b.was in
          over (t.If x.value (a.value.0) (Some (b.value.0))) _ r _ _ (measured-If-else m x.value (a.value.0) (b.value.0)) (is.more _ _ (omega arith)) b.goes
      step_low (o.While c y) = λ in_loop scope r g.
          let x = bound (condition around scope c) _ r g in
          let a = bound (inside (going around (tree y)) true scope) _ r x.goes in
          let p = condition_low scope c x.value x.was in
          let q = part_low (going around (tree y)) _ (low y) true scope a.value a.was in
          over (t.While x.value (a.value.0)) _ r _ _ (measured-While m x.value (a.value.0)) (is.more _ _ (omega arith)) a.goes
      step_low (o.DoWhile y c) = λ in_loop scope r g.
          let a = bound (inside (going around (tree y)) true scope) _ r g in
          let x = bound (condition around (a.value.1) c) _ r a.goes in
          let p = condition_low (a.value.1) c x.value x.was in
          let q = part_low (going around (tree y)) _ (low y) true scope a.value a.was in
          over (t.DoWhile (a.value.0) x.value) _ r _ _ (measured-DoWhile m (a.value.0) x.value) (is.more _ _ (omega arith)) x.goes
      step_low (o.For first c step y) = λ in_loop scope r g.
          let b = bound (started around (enter scope) first) _ r g in
          let x = bound (maybe (condition around (b.value.1)) c) _ r b.goes in
          let z = bound (maybe (evaluated around (b.value.1)) step) _ r x.goes in
          let a = bound (inside (going around (tree y)) true (b.value.1)) _ r z.goes in
          let p = started_low (enter scope) first b.value b.was in
          let q = maybe_low (condition around (b.value.1)) (condition_low (b.value.1)) c x.value x.was in
          let s = maybe_low (evaluated around (b.value.1)) (evaluated_low (b.value.1)) step z.value z.was in
          let u = part_low (going around (tree y)) _ (low y) true (b.value.1) a.value a.was in
          over (t.For (b.value.0) x.value z.value (a.value.0)) _ r _ _ (measured-For m (b.value.0) x.value z.value (a.value.0)) (is.more _ _ (omega arith)) a.goes

      layer_low : (l : Stmt-F Y) → Low (going around (roll-Stmt (map-Stmt Y Stmt tree l))) (source_stmt m (roll-Stmt (map-Stmt Y Stmt tree l)))
      unfolding going source_stmt
      layer_low l =
          subst (λ (h : ℕ). Low (going around (roll-Stmt (map-Stmt Y Stmt tree l))) h) (sym (fold-roll-Stmt ℕ (source_stmt_step m) (map-Stmt Y Stmt tree l)))
          (subst (λ (go : Going). Low go (source_stmt_step m (map-Stmt Stmt ℕ (source_stmt m) (map-Stmt Y Stmt tree l)))) (sym (fold-roll-Stmt Going (going_step around) (map-Stmt Y Stmt tree l))) (step_low l))

    pub going_low : (x : Stmt) → Low (going around x) (source_stmt m x)
    going_low x = ind-Stmt (λ x. Low (going around x) (source_stmt m x)) (λ l y same. subst (λ z. Low (going around (roll-Stmt z)) (source_stmt m (roll-Stmt z))) same (layer_low _ (λ w. w.0) (λ w. w.1) y)) x

    same_list : {X : Type 0} (xs : List X) → map (λ x. x) xs ≡ xs
    same_list [] = refl
    same_list (x ∷ xs) = ap (λ ys. x ∷ ys) (same_list xs)

    pub body_low : (body : List Stmt) (scope : Scope) (r : List TypedStmt × Scope) → body_typed around body scope ≡ Some r → body_measured m (r.0) ≤ source_body m body
    body_low body scope r g =
        let e : greatest_of (map (source_stmt m) (map (λ x. x) body)) ≡ source_body m body = ap (λ l. greatest_of (map (source_stmt m) l)) (same_list body) in
        let l = all_low Stmt (λ x. x) going_low body false scope r (ap (λ l. all_typed (map (going around) l) false scope) (same_list body) ∙ g) in
        omega arith
