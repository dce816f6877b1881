-- Statements: what is typed fits the rules, and the frame gains just what is declared.
use Rattle.std.proofs.Common.{◌≡◌, Bool, true, false, not, ◌&&◌, List, [], ◌∷◌, ◌++◌, flat_map, map, Option, Some, None, refl, sym, ap, ◌∙◌, subst}
use Rattle.std.specs.Prelude.{is_some}
use Rattle.std.specs.List.{list_all}
use Rattle.std.proofs.lemmas.Bool.{and_from, and_parts}
use Rattle.osl_overload.specs.Kinds.{same_kind}
use Rattle.osl_overload.specs.declared.signature.Kind.{Kind}
use Rattle.osl_overload.specs.declared.signature.Kind.TheVariants.{Void}
use Rattle.osl_tree.specs.declared.expr.Expr.{Expr}
use Rattle.osl_tree.specs.declared.stmt.Declaration.{Declaration}
use Rattle.osl_tree.specs.declared.stmt.ForStart.{ForStart}
use Rattle.osl_tree.specs.declared.stmt.ForStart.TheVariants as from
use Rattle.osl_tree.specs.declared.stmt.Stmt.{Stmt, Stmt-F, fold-roll-Stmt, ind-Stmt, roll-Stmt}
use Rattle.osl_tree.specs.declared.stmt.Stmt.TheFolds.{map-Stmt}
use Rattle.osl_tree.specs.declared.stmt.Stmt.TheOpen as o
use Rattle.osl_typed.specs.declared.expr.TypedExpr.{TypedExpr}
use Rattle.osl_typed.specs.declared.stmt.Declared.{Declared}
use Rattle.osl_typed.specs.declared.stmt.TypedForStart.{TypedForStart}
use Rattle.osl_typed.specs.declared.stmt.TypedForStart.TheVariants as start
use Rattle.osl_typed.specs.declared.stmt.TypedStmt.{TypedStmt}
use Rattle.osl_typed.specs.declared.stmt.TypedStmt.TheVariants as t
use Rattle.osl_typed.specs.Operators as operators
use Rattle.osl_typed.specs.Scopes.{Scope, Sight, enter, leave}
use Rattle.osl_typed.specs.Typing.{◌>>=◌, typing, fit, tree_of}
use Rattle.osl_typed.specs.BodyTyping.{Around, Going, all_typed, inside, evaluated, condition, maybe, returned, started, declare_all, going_step, going, body_typed}
use Rattle.osl_welltyped.specs.Kinded.{Rules}
use Rattle.osl_welltyped.specs.StatementsFit.{evaluated_fits, condition_fits, if_any, returned_fits, start_fits, stmt_fits, body_fits, declared_at, declared_in, declares}
use Rattle.osl_welltyped.proofs.BodiesFit.{Sees, Grows, grows_then, grows_none, grows_as, all_declared}
use Rattle.osl_welltyped.proofs.CallsFit.{append_none}
use Rattle.osl_welltyped.proofs.ExpressionsFit.{typing_stands}
use Rattle.osl_welltyped.proofs.FoundFits.{fit_kinded, three}
use Rattle.osl_welltyped.proofs.OperatorsFit.{numeric_is}
use Rattle.osl_welltyped.proofs.StatementNodes.{fits-Empty, fits-Block, fits-Declare, fits-Expr, fits-Break, fits-Continue, fits-Return, fits-If, fits-If-else, fits-While, fits-DoWhile, fits-For, declares-Empty, declares-Block, declares-Declare, declares-Expr, declares-Break, declares-Continue, declares-Return, declares-If, declares-If-else, declares-While, declares-DoWhile, declares-For}
use Rattle.osl_welltyped.proofs.Steps.{some_same, bound, held, kind_is}

-- a block inside
pub grows_inside : (sight : Sight) (scope inner : Scope) (ds : List Declared) (p : Rules → Bool) → Grows sight (enter scope) ds inner p → Grows sight scope ds (leave scope inner) p
grows_inside sight scope inner ds p g = record {
  kinds = g.kinds;
  numbers = g.numbers;
  sound = g.sound;
  fits = λ rules s. ((g.fits rules (record { sees = s.sees; names = s.names; fresh = s.fresh; holds = s.holds })).0, s.names);
}

-- ---- expressions of statements

evaluated_holds : (around : Around) (scope : Scope) (a : Expr) (x : TypedExpr) → evaluated around scope a ≡ Some x → (rules : Rules) → Sees rules around.sight scope scope.kinds → evaluated_fits rules x ≡ true
evaluated_holds around scope a x h rules s =
    let b = bound (typing around.sight scope.bindings a) _ x h in
    ap (evaluated_fits rules) (sym (some_same _ x b.goes)) ∙ ap is_some (typing_stands rules around.sight scope.bindings s.sees s.names a b.value b.was).kind_is

condition_holds : (around : Around) (scope : Scope) (a : Expr) (x : TypedExpr) → condition around scope a ≡ Some x → (rules : Rules) → Sees rules around.sight scope scope.kinds → condition_fits rules x ≡ true
condition_holds around scope a x h rules s =
    let b = bound (typing around.sight scope.bindings a) _ x h in
    let is = held (operators.is_numeric b.value.kind) _ x b.goes in
    ap (condition_fits rules) (sym (some_same _ x (is.1))) ∙ numeric_is rules (tree_of b.value) b.value.kind (typing_stands rules around.sight scope.bindings s.sees s.names a b.value b.was).kind_is (is.0)

maybe_holds : (test : Rules → TypedExpr → Bool) (go : Expr → Option TypedExpr) (rules : Rules) → ((a : Expr) (x : TypedExpr) → go a ≡ Some x → test rules x ≡ true) → (a : Option Expr) (x : Option TypedExpr) → maybe go a ≡ Some x → if_any (test rules) x ≡ true
maybe_holds test go rules each None x h = ap (if_any (test rules)) (sym (some_same None x h))
maybe_holds test go rules each (Some a) x h = let b = bound (go a) _ x h in ap (if_any (test rules)) (sym (some_same _ x b.goes)) ∙ each a b.value b.was

returned_holds : (around : Around) (scope : Scope) (a : Option Expr) (x : Option TypedExpr) → returned around scope a ≡ Some x → (rules : Rules) → Sees rules around.sight scope scope.kinds → returned_fits rules around.result x ≡ true
returned_holds around scope None x h rules s =
    let is = held (same_kind around.result Void) _ x h in ap (returned_fits rules around.result) (sym (some_same None x (is.1))) ∙ is.0
returned_holds around scope (Some a) x h rules s =
    let is = held (not (same_kind around.result Void)) _ x h in
    let b = bound (typing around.sight scope.bindings a) _ x (is.1) in
    let y = bound (fit around.result b.value) _ x b.goes in
    let k = typing_stands rules around.sight scope.bindings s.sees s.names a b.value b.was in
    ap (returned_fits rules around.result) (sym (some_same _ x y.goes)) ∙ and_from _ _ (is.0) (kind_is around.result _ (fit_kinded rules around.result b.value y.value k.fits k.whole y.was))

-- ---- lists

flattened : (xs : List TypedStmt) → flat_map (λ ds. ds) (map declares xs) ≡ flat_map declares xs
flattened [] = refl
flattened (x ∷ xs) = ap (λ ds. declares x ++ ds) (flattened xs)

tested_all : (rules : Rules) (result : Kind) (in_loop : Bool) (xs : List TypedStmt) → list_all (λ fits. fits in_loop) (map (stmt_fits rules result) xs) ≡ list_all (λ x. stmt_fits rules result x in_loop) xs
tested_all rules result in_loop [] = refl
tested_all rules result in_loop (x ∷ xs) = ap (λ b. stmt_fits rules result x in_loop && b) (tested_all rules result in_loop xs)

same_list : {X : Type 0} (xs : List X) → map (λ x. x) xs ≡ xs
same_list [] = refl
same_list (x ∷ xs) = ap (λ ys. x ∷ ys) (same_list xs)

-- ---- statements

module _ (around : Around) where
  -- what a typed statement leaves
  abbrev Keeps : Bool → Scope → TypedStmt × Scope → Type 0
  Keeps in_loop scope r = Grows around.sight scope (declares (r.0)) (r.1) (λ rules. stmt_fits rules around.result (r.0) in_loop)

  abbrev Does : Going → Type 0
  Does go = (in_loop : Bool) (scope : Scope) (r : TypedStmt × Scope) → go in_loop scope ≡ Some r → Keeps in_loop scope r

  -- a part of a statement that is a block of its own
  part_keeps : (go : Going) → Does go → Does (inside go)
  part_keeps go does in_loop scope r h =
      let q = bound (go in_loop (enter scope)) _ r h in
      subst (Keeps in_loop scope) (some_same {A = TypedStmt × Scope} (q.value.0, leave scope (q.value.1)) r q.goes) (grows_inside around.sight scope (q.value.1) (declares (q.value.0)) _ (does in_loop (enter scope) q.value q.was))

  alone : (in_loop : Bool) (scope : Scope) (x : TypedStmt) (r : TypedStmt × Scope) → declares x ≡ [] → ((rules : Rules) → Sees rules around.sight scope scope.kinds → stmt_fits rules around.result x in_loop ≡ true) → ◌≡◌ {A = Option (TypedStmt × Scope)} (Some (x, scope)) (Some r) → Keeps in_loop scope r
  alone in_loop scope x r none fits h =
      subst (Keeps in_loop scope) (some_same {A = TypedStmt × Scope} (x, scope) r h)
      (grows_as around.sight scope scope [] (declares x) _ _ none (λ rules is. is) (grows_none around.sight scope (λ rules. stmt_fits rules around.result x in_loop) fits))

  -- a condition or another expression before a part
  before : (scope after : Scope) (ds : List Declared) (p q : Rules → Bool) → ((rules : Rules) → Sees rules around.sight scope scope.kinds → p rules ≡ true) → Grows around.sight scope ds after q → Grows around.sight scope ds after (λ rules. p rules && q rules)
  before scope after ds p q first g = grows_then around.sight scope scope after [] ds p q (grows_none around.sight scope p first) g

  -- and behind one
  behind : (scope after : Scope) (ds : List Declared) (p q : Rules → Bool) → Grows around.sight scope ds after p → ((rules : Rules) → Sees rules around.sight after after.kinds → q rules ≡ true) → Grows around.sight scope ds after (λ rules. p rules && q rules)
  behind scope after ds p q g last = grows_as around.sight scope after (ds ++ []) ds _ _ (sym (append_none ds)) (λ rules is. is) (grows_then around.sight scope after after ds [] p q g (grows_none around.sight after q last))

  declaration_keeps : (in_loop : Bool) (d : Declaration) (scope : Scope) (r : TypedStmt × Scope) → (declare_all around.sight d.ty d.vars scope >>= λ r. Some (t.Declare (r.0), r.1)) ≡ Some r → Keeps in_loop scope r
  declaration_keeps in_loop d scope r h =
      let q = bound (declare_all around.sight d.ty d.vars scope) _ r h in
      subst (Keeps in_loop scope) (some_same {A = TypedStmt × Scope} (t.Declare (q.value.0), q.value.1) r q.goes)
      (grows_as around.sight scope (q.value.1) (q.value.0) (declares (t.Declare (q.value.0))) _ _ (declares-Declare (q.value.0)) (λ rules is. fits-Declare rules around.result (q.value.0) in_loop ∙ is) (all_declared around.sight d.ty d.vars scope q.value q.was))

  started_keeps : (first : ForStart) (scope : Scope) (r : TypedForStart × Scope) → started around scope first ≡ Some r → Grows around.sight scope (declared_at (r.0)) (r.1) (λ rules. start_fits rules (r.0))
  started_keeps from.Nothing scope r h =
      subst (λ (r : TypedForStart × Scope). Grows around.sight scope (declared_at (r.0)) (r.1) (λ rules. start_fits rules (r.0))) (some_same {A = TypedForStart × Scope} (start.Nothing, scope) r h) (grows_none around.sight scope _ (λ rules s. refl))
  started_keeps (from.Expr a) scope r h =
      let x = bound (evaluated around scope a) _ r h in
      subst (λ (r : TypedForStart × Scope). Grows around.sight scope (declared_at (r.0)) (r.1) (λ rules. start_fits rules (r.0))) (some_same {A = TypedForStart × Scope} (start.Expr x.value, scope) r x.goes)
      (grows_none around.sight scope (λ rules. evaluated_fits rules x.value) (evaluated_holds around scope a x.value x.was))
  started_keeps (from.Declare d) scope r h =
      let q = bound (declare_all around.sight d.ty d.vars scope) _ r h in
      subst (λ (r : TypedForStart × Scope). Grows around.sight scope (declared_at (r.0)) (r.1) (λ rules. start_fits rules (r.0))) (some_same {A = TypedForStart × Scope} (start.Declare (q.value.0), q.value.1) r q.goes)
      (all_declared around.sight d.ty d.vars scope q.value q.was)

  while_keeps : (c : Expr) (go : Going) → Does go → (in_loop : Bool) (scope : Scope) (r : TypedStmt × Scope) → going_step around (o.While c go) in_loop scope ≡ Some r → Keeps in_loop scope r
  while_keeps c go does in_loop scope r h =
      let x = bound (condition around scope c) _ r h in
      let a = bound (inside go true scope) _ r x.goes in
      subst (Keeps in_loop scope) (some_same {A = TypedStmt × Scope} (t.While x.value (a.value.0), a.value.1) r a.goes)
      (grows_as around.sight scope (a.value.1) (declares (a.value.0)) (declares (t.While x.value (a.value.0))) _ _ (declares-While x.value (a.value.0)) (λ rules is. fits-While rules around.result x.value (a.value.0) in_loop ∙ is)
      (before scope (a.value.1) (declares (a.value.0)) (λ rules. condition_fits rules x.value) (λ rules. stmt_fits rules around.result (a.value.0) true) (condition_holds around scope c x.value x.was) (part_keeps go does true scope a.value a.was)))

  do_while_keeps : (go : Going) (c : Expr) → Does go → (in_loop : Bool) (scope : Scope) (r : TypedStmt × Scope) → going_step around (o.DoWhile go c) in_loop scope ≡ Some r → Keeps in_loop scope r
  do_while_keeps go c does in_loop scope r h =
      let a = bound (inside go true scope) _ r h in
      let x = bound (condition around (a.value.1) c) _ r a.goes in
      subst (Keeps in_loop scope) (some_same {A = TypedStmt × Scope} (t.DoWhile (a.value.0) x.value, a.value.1) r x.goes)
      (grows_as around.sight scope (a.value.1) (declares (a.value.0)) (declares (t.DoWhile (a.value.0) x.value)) _ _ (declares-DoWhile (a.value.0) x.value) (λ rules is. fits-DoWhile rules around.result (a.value.0) x.value in_loop ∙ is)
      (behind scope (a.value.1) (declares (a.value.0)) (λ rules. stmt_fits rules around.result (a.value.0) true) (λ rules. condition_fits rules x.value) (part_keeps go does true scope a.value a.was) (condition_holds around (a.value.1) c x.value x.was)))

  if_keeps : (c : Expr) (go : Going) → Does go → (in_loop : Bool) (scope : Scope) (r : TypedStmt × Scope) → going_step around (o.If c go None) in_loop scope ≡ Some r → Keeps in_loop scope r
  if_keeps c go does in_loop scope r h =
      let x = bound (condition around scope c) _ r h in
      let a = bound (inside go in_loop scope) _ r x.goes in
      subst (Keeps in_loop scope) (some_same {A = TypedStmt × Scope} (t.If x.value (a.value.0) None, a.value.1) r a.goes)
      (grows_as around.sight scope (a.value.1) (declares (a.value.0)) (declares (t.If x.value (a.value.0) None)) _ _ (declares-If x.value (a.value.0) ∙ append_none (declares (a.value.0)))
      (λ rules is. let p = and_parts (condition_fits rules x.value) (stmt_fits rules around.result (a.value.0) in_loop) is in fits-If rules around.result x.value (a.value.0) in_loop ∙ three _ _ _ (p.0) (p.1) refl)
      (before scope (a.value.1) (declares (a.value.0)) (λ rules. condition_fits rules x.value) (λ rules. stmt_fits rules around.result (a.value.0) in_loop) (condition_holds around scope c x.value x.was) (part_keeps go does in_loop scope a.value a.was)))

  if_else_keeps : (c : Expr) (go other : Going) → Does go → Does other → (in_loop : Bool) (scope : Scope) (r : TypedStmt × Scope) → going_step around (o.If c go (Some other)) in_loop scope ≡ Some r → Keeps in_loop scope r
  if_else_keeps c go other does others in_loop scope r h =
      let x = bound (condition around scope c) _ r h in
      let a = bound (inside go in_loop scope) _ r x.goes in
      let b = bound (inside other in_loop (a.value.1)) _ r a.goes in
      subst (Keeps in_loop scope) (some_same {A = TypedStmt × Scope} (t.If x.value (a.value.0) (Some (b.value.0)), b.value.1) r b.goes)
      (grows_as around.sight scope (b.value.1) (declares (a.value.0) ++ declares (b.value.0)) (declares (t.If x.value (a.value.0) (Some (b.value.0)))) _ _ (declares-If-else x.value (a.value.0) (b.value.0))
      (λ rules is. fits-If-else rules around.result x.value (a.value.0) (b.value.0) in_loop ∙ is)
      (grows_then around.sight scope (a.value.1) (b.value.1) (declares (a.value.0)) (declares (b.value.0)) (λ rules. condition_fits rules x.value && stmt_fits rules around.result (a.value.0) in_loop) (λ rules. stmt_fits rules around.result (b.value.0) in_loop)
      (before scope (a.value.1) (declares (a.value.0)) (λ rules. condition_fits rules x.value) (λ rules. stmt_fits rules around.result (a.value.0) in_loop) (condition_holds around scope c x.value x.was) (part_keeps go does in_loop scope a.value a.was))
      (part_keeps other others in_loop (a.value.1) b.value b.was)))

  for_keeps : (first : ForStart) (c step : Option Expr) (go : Going) → Does go → (in_loop : Bool) (scope : Scope) (r : TypedStmt × Scope) → going_step around (o.For first c step go) in_loop scope ≡ Some r → Keeps in_loop scope r
  for_keeps first c step go does in_loop scope r h =
      let b = bound (started around (enter scope) first) _ r h in
      let x = bound (maybe (condition around (b.value.1)) c) _ r b.goes in
      let y = bound (maybe (evaluated around (b.value.1)) step) _ r x.goes in
      let a = bound (inside go true (b.value.1)) _ r y.goes in
      subst (Keeps in_loop scope) (some_same {A = TypedStmt × Scope} (t.For (b.value.0) x.value y.value (a.value.0), leave scope (a.value.1)) r a.goes)
      (grows_as around.sight scope (leave scope (a.value.1)) (declared_at (b.value.0) ++ declares (a.value.0)) (declares (t.For (b.value.0) x.value y.value (a.value.0))) _ _ (declares-For (b.value.0) x.value y.value (a.value.0))
      (λ rules is. fits-For rules around.result (b.value.0) x.value y.value (a.value.0) in_loop ∙ is)
      (grows_inside around.sight scope (a.value.1) _ _
      (grows_then around.sight (enter scope) (b.value.1) (a.value.1) (declared_at (b.value.0)) (declares (a.value.0))
      (λ rules. start_fits rules (b.value.0) && if_any (condition_fits rules) x.value && if_any (evaluated_fits rules) y.value) (λ rules. stmt_fits rules around.result (a.value.0) true)
      (behind (enter scope) (b.value.1) (declared_at (b.value.0)) (λ rules. start_fits rules (b.value.0) && if_any (condition_fits rules) x.value) (λ rules. if_any (evaluated_fits rules) y.value)
      (behind (enter scope) (b.value.1) (declared_at (b.value.0)) (λ rules. start_fits rules (b.value.0)) (λ rules. if_any (condition_fits rules) x.value) (started_keeps first (enter scope) b.value b.was)
      (λ rules s. maybe_holds condition_fits (condition around (b.value.1)) rules (λ e z g. condition_holds around (b.value.1) e z g rules s) c x.value x.was))
      (λ rules s. maybe_holds evaluated_fits (evaluated around (b.value.1)) rules (λ e z g. evaluated_holds around (b.value.1) e z g rules s) step y.value y.was))
      (part_keeps go does true (b.value.1) a.value a.was))))

  abbrev ListKeeps : Bool → Scope → List TypedStmt × Scope → Type 0
  ListKeeps in_loop scope r = Grows around.sight scope (flat_map declares (r.0)) (r.1) (λ rules. list_all (λ x. stmt_fits rules around.result x in_loop) (r.0))

  module _ (Y : Type 0) (tree : Y → Stmt) (does : (y : Y) → Does (going around (tree y))) where
    all_keep : (ys : List Y) (in_loop : Bool) (scope : Scope) (r : List TypedStmt × Scope) → all_typed (map (going around) (map tree ys)) in_loop scope ≡ Some r → ListKeeps in_loop scope r
    unfolding all_typed
    all_keep [] in_loop scope r h = subst (ListKeeps in_loop scope) (some_same {A = List TypedStmt × Scope} ([], scope) r h) (grows_none around.sight scope (λ rules. true) (λ rules s. refl))
    all_keep (y ∷ ys) in_loop scope r h =
        let a = bound (going around (tree y) in_loop scope) _ r h in
        let rest = bound (all_typed (map (going around) (map tree ys)) in_loop (a.value.1)) _ r a.goes in
        subst (ListKeeps in_loop scope) (some_same {A = List TypedStmt × Scope} (a.value.0 ∷ rest.value.0, rest.value.1) r rest.goes)
        (grows_then around.sight scope (a.value.1) (rest.value.1) (declares (a.value.0)) (flat_map declares (rest.value.0)) (λ rules. stmt_fits rules around.result (a.value.0) in_loop) (λ rules. list_all (λ x. stmt_fits rules around.result x in_loop) (rest.value.0))
        (does y in_loop scope a.value a.was) (all_keep ys in_loop (a.value.1) rest.value rest.was))

    block_keeps : (ys : List Y) (in_loop : Bool) (scope : Scope) (r : TypedStmt × Scope) → going_step around (o.Block (map (going around) (map tree ys))) in_loop scope ≡ Some r → Keeps in_loop scope r
    block_keeps ys in_loop scope r h =
        let q = bound (all_typed (map (going around) (map tree ys)) in_loop (enter scope)) _ r h in
        subst (Keeps in_loop scope) (some_same {A = TypedStmt × Scope} (t.Block (q.value.0), leave scope (q.value.1)) r q.goes)
        (grows_as around.sight scope (leave scope (q.value.1)) (flat_map declares (q.value.0)) (declares (t.Block (q.value.0))) _ _
        (declares-Block (q.value.0) ∙ flattened (q.value.0)) (λ rules is. fits-Block rules around.result (q.value.0) in_loop ∙ tested_all rules around.result in_loop (q.value.0) ∙ is)
        (grows_inside around.sight scope (q.value.1) _ _ (all_keep ys in_loop (enter scope) q.value q.was)))

    step_keeps : (l : Stmt-F Y) → Does (going_step around (map-Stmt Stmt Going (going around) (map-Stmt Y Stmt tree l)))
    step_keeps o.Empty = λ in_loop scope r h. alone in_loop scope t.Empty r declares-Empty (λ rules s. fits-Empty rules around.result in_loop) h
    step_keeps (o.Block ys) = block_keeps ys
    step_keeps (o.Declare d) = λ in_loop scope r h. declaration_keeps in_loop d scope r h
    step_keeps (o.Expr a) = λ in_loop scope r h. let x = bound (evaluated around scope a) _ r h in
        alone in_loop scope (t.Expr x.value) r (declares-Expr x.value) (λ rules s. fits-Expr rules around.result x.value in_loop ∙ evaluated_holds around scope a x.value x.was rules s) x.goes
    step_keeps o.Break = λ in_loop scope r h. let is = held in_loop _ r h in alone in_loop scope t.Break r declares-Break (λ rules s. fits-Break rules around.result in_loop ∙ is.0) (is.1)
    step_keeps o.Continue = λ in_loop scope r h. let is = held in_loop _ r h in alone in_loop scope t.Continue r declares-Continue (λ rules s. fits-Continue rules around.result in_loop ∙ is.0) (is.1)
    step_keeps (o.Return a) = λ in_loop scope r h. let x = bound (returned around scope a) _ r h in
        alone in_loop scope (t.Return x.value) r (declares-Return x.value) (λ rules s. fits-Return rules around.result x.value in_loop ∙ returned_holds around scope a x.value x.was rules s) x.goes
    step_keeps (o.If c y None) = if_keeps c (going around (tree y)) (does y)
    step_keeps (o.If c y (Some z)) = if_else_keeps c (going around (tree y)) (going around (tree z)) (does y) (does z)
    step_keeps (o.While c y) = while_keeps c (going around (tree y)) (does y)
    step_keeps (o.DoWhile y c) = do_while_keeps (going around (tree y)) c (does y)
    step_keeps (o.For first c step y) = for_keeps first c step (going around (tree y)) (does y)

    layer_keeps : (l : Stmt-F Y) → Does (going around (roll-Stmt (map-Stmt Y Stmt tree l)))
    unfolding going
    layer_keeps l = subst Does (sym (fold-roll-Stmt Going (going_step around) (map-Stmt Y Stmt tree l))) (step_keeps l)

  pub going_keeps : (x : Stmt) → Does (going around x)
  going_keeps x = ind-Stmt (λ x. Does (going around x)) (λ l y same. subst (λ z. Does (going around (roll-Stmt z))) same (layer_keeps _ (λ w. w.0) (λ w. w.1) y)) x

  -- the statements of a body
  pub body_keeps : (body : List Stmt) (scope : Scope) (r : List TypedStmt × Scope) → body_typed around body scope ≡ Some r → Grows around.sight scope (declared_in (r.0)) (r.1) (λ rules. body_fits rules around.result (r.0))
  body_keeps body scope r h = all_keep Stmt (λ x. x) going_keeps body false scope r (ap (λ l. all_typed (map (going around) l) false scope) (same_list body) ∙ h)
