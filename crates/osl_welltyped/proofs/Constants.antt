-- Metadata: a constant is typed as such, whatever is in scope.
use Rattle.std.proofs.Common.{◌≡◌, ℕ, zero, suc, Bool, true, false, ◌&&◌, ◌||◌, List, [], ◌∷◌, length, map, Option, Some, None, refl, sym, ap, ◌∙◌, subst}
use Rattle.std.specs.Prelude.{ℤ, if◌then◌else◌, ◌==◌, slice_get}
use Rattle.std.specs.List.{list_all}
use Rattle.std.proofs.lemmas.Bool.{false≢true, and_from, and_parts}
use Rattle.osl_value.specs.declared.op_name.OpName.{OpName}
use Rattle.osl_value.specs.declared.op_name.OpName.TheVariants as op
use Rattle.osl_value.specs.declared.types.Base.TheVariants.{Int, Float, Matrix}
use Rattle.osl_value.specs.declared.types.Ty.{Ty}
use Rattle.osl_value.specs.AnyValue.{is_one_triple}
use Rattle.osl_value.specs.Types.{only, is_only}
use Rattle.osl_overload.specs.Cost.{cost}
use Rattle.osl_overload.specs.declared.signature.Kind.{Kind}
use Rattle.osl_overload.specs.declared.signature.Kind.TheVariants.{Value, Structure, Void}
use Rattle.osl_tree.specs.declared.expr.BaseType.{BaseType}
use Rattle.osl_tree.specs.declared.expr.PrefixOp.TheVariants as before
use Rattle.osl_tree.specs.declared.expr.Expr.{Expr, Expr-F, fold-roll-Expr, ind-Expr, roll-Expr}
use Rattle.osl_tree.specs.declared.expr.Expr.TheFolds.{map-Expr}
use Rattle.osl_tree.specs.declared.expr.Expr.TheOpen as o
use Rattle.osl_tree.specs.declared.stmt.Init.{Init}
use Rattle.osl_tree.specs.declared.stmt.Init.TheVariants as begin
use Rattle.osl_typed.specs.declared.expr.TypedExpr.{TypedExpr}
use Rattle.osl_typed.specs.declared.expr.TypedExpr.TheVariants as e
use Rattle.osl_typed.specs.declared.expr.Argument.TheOpen as node
use Rattle.osl_typed.specs.declared.expr.Argument.TheFolds.{fold-TypedExpr, fold-roll-TypedExpr}
use Rattle.osl_typed.specs.declared.found.Binding.{Binding}
use Rattle.osl_typed.specs.declared.found.Found.{Found}
use Rattle.osl_typed.specs.declared.shader.TypedShader.{TypedShader}
use Rattle.osl_typed.specs.declared.stmt.TypedInit.{TypedInit}
use Rattle.osl_typed.specs.declared.stmt.TypedInit.TheVariants as init
use Rattle.osl_typed.specs.FileTyping as typing_rules
use Rattle.osl_typed.specs.FileTyping.{Constancy, Numeral, Constant, Neither, is_constancy, constant_if, negated, constancy_step, constancy, kinds_of_fields}
use Rattle.osl_typed.specs.Operators.{base_named, is_arithmetic, is_convertible, conversion_of}
use Rattle.osl_typed.specs.Scopes.{Scope, Sight, StructureName, look}
use Rattle.osl_typed.specs.Typing.{◌>>=◌, sequence, expression, tree_of, as_argument, fit, fit_at, plain_type, prefixed, converted, trees, are_numbers, made_of, construct_from, construct, typing_step, found_form, typing}
use Rattle.osl_typed.specs.BodyTyping.{begun, listed_kinds, fit_first}
use Rattle.osl_welltyped.specs.StatementsFit.{init_fits}
use Rattle.osl_welltyped.specs.WellTyped.{makes_constants, constant_step, constant_passed, is_constant, is_constant_init, rules_of_constants}
use Rattle.osl_welltyped.proofs.BodiesFit.{begun_fits}
use Rattle.osl_welltyped.proofs.Steps.{none_is_not, some_same, bound, held}
use Rattle.osl_welltyped.proofs.Suffixes.{expression_is}

-- ---- what is constant

constant-Int : (n : ℤ) → is_constant (e.Int n) ≡ true
unfolding is_constant
constant-Int n = ap (fold-TypedExpr Bool Bool constant_passed constant_step) (sym (e.rolls-Int n)) ∙ fold-roll-TypedExpr Bool Bool constant_passed constant_step (node.Int n)

constant-Float : (units : ℤ) → is_constant (e.Float units) ≡ true
unfolding is_constant
constant-Float units = ap (fold-TypedExpr Bool Bool constant_passed constant_step) (sym (e.rolls-Float units)) ∙ fold-roll-TypedExpr Bool Bool constant_passed constant_step (node.Float units)

constant-Text : (bytes : List ℕ) → is_constant (e.Text bytes) ≡ true
unfolding is_constant
constant-Text bytes = ap (fold-TypedExpr Bool Bool constant_passed constant_step) (sym (e.rolls-Text bytes)) ∙ fold-roll-TypedExpr Bool Bool constant_passed constant_step (node.Text bytes)

constant-Promote : (ty : Ty) (a : TypedExpr) → is_constant (e.Promote ty a) ≡ is_constant a
unfolding is_constant
constant-Promote ty a = ap (fold-TypedExpr Bool Bool constant_passed constant_step) (sym (e.rolls-Promote ty a)) ∙ fold-roll-TypedExpr Bool Bool constant_passed constant_step (node.Promote ty a)

constant-Apply : (name : OpName) (ty : Ty) (xs : List TypedExpr) → is_constant (e.Apply name ty xs) ≡ (makes_constants name && list_all (λ x. x) (map is_constant xs))
unfolding is_constant
constant-Apply name ty xs = ap (fold-TypedExpr Bool Bool constant_passed constant_step) (sym (e.rolls-Apply name ty xs)) ∙ fold-roll-TypedExpr Bool Bool constant_passed constant_step (node.Apply name ty xs)

abbrev IsConst : Found → Type 0
IsConst a = is_constant (tree_of a) ≡ true

fit_const_at : (kind : Kind) (tree x : TypedExpr) (c : Option ℕ) → is_constant tree ≡ true → fit_at kind tree c ≡ Some x → is_constant x ≡ true
fit_const_at kind tree x None is h = none_is_not x h
fit_const_at kind tree x (Some zero) is h = ap is_constant (sym (some_same tree x h)) ∙ is
fit_const_at (Value ty) tree x (Some (suc n)) is h = ap is_constant (sym (some_same (e.Promote ty tree) x h)) ∙ constant-Promote ty tree ∙ is
fit_const_at (Structure j) tree x (Some (suc n)) is h = none_is_not x h
fit_const_at Void tree x (Some (suc n)) is h = none_is_not x h

fit_const : (kind : Kind) (a : Found) (x : TypedExpr) → IsConst a → fit kind a ≡ Some x → is_constant x ≡ true
unfolding fit
fit_const kind a x is h = fit_const_at kind (tree_of a) x (cost (as_argument a) kind) is h

expression_const : (a b : Found) → IsConst a → expression a ≡ Some b → IsConst b
expression_const a b is h = subst IsConst (expression_is a b h).1 is

one_const : (name : OpName) (ty : Ty) (a : Found) → makes_constants name ≡ true → IsConst a → is_constant (e.Apply name ty (tree_of a ∷ [])) ≡ true
one_const name ty a makes is = constant-Apply name ty (tree_of a ∷ []) ∙ and_from _ _ makes (and_from _ _ is refl)

conversion_makes : (to from : Ty) → makes_constants (conversion_of to from) ≡ true
conversion_makes to from = elim (is_only Int to && is_only Float from) as (λ t. makes_constants (if t then op.ToInt else op.Assign) ≡ true) [ true ↦ refl | false ↦ refl ]

converted_const : (to : Ty) (a c : Found) → IsConst a → converted to a ≡ Some c → IsConst c
converted_const to a c is h =
    let b = bound (expression a) _ c h in
    let ty = bound (plain_type b.value.kind) _ c b.goes in
    let t = held (is_convertible to ty.value) _ c ty.goes in
    subst IsConst (some_same _ c (t.1)) (one_const (conversion_of to ty.value) to b.value (conversion_makes to ty.value) (expression_const a b.value is b.was))

minus_const : (a c : Found) → IsConst a → prefixed before.Minus a ≡ Some c → IsConst c
unfolding prefixed
minus_const a c is h =
    let b = bound (expression a) _ c h in
    let ty = bound (plain_type b.value.kind) _ c b.goes in
    let t = held (is_arithmetic ty.value) _ c ty.goes in
    subst IsConst (some_same _ c (t.1)) (one_const op.Neg ty.value b.value refl (expression_const a b.value is b.was))

abbrev AllConst : List Found → Type 0
AllConst [] = Unit {0}
AllConst (a ∷ args) = IsConst a × AllConst args

expressions_const : (args bs : List Found) → AllConst args → sequence (map expression args) ≡ Some bs → AllConst bs
unfolding sequence
expressions_const [] bs is h = subst AllConst (some_same [] bs h) tt
expressions_const (a ∷ args) bs is h =
    let b = bound (expression a) _ bs h in
    let rest = bound (sequence (map expression args)) _ bs b.goes in
    subst AllConst (some_same (b.value ∷ rest.value) bs rest.goes) (expression_const a b.value (is.0) b.was, expressions_const args rest.value (is.1) rest.was)

trees_const : (args : List Found) → AllConst args → list_all (λ x. x) (map is_constant (trees args)) ≡ true
trees_const [] is = refl
trees_const (a ∷ args) is = and_from _ _ (is.0) (trees_const args (is.1))

made_const : (name : OpName) (ty : Ty) (args : List Found) (c : Found) → makes_constants name ≡ true → AllConst args → made_of name ty args ≡ Some c → IsConst c
made_const name ty args c makes is h =
    let t = held (are_numbers args) _ c h in
    subst IsConst (some_same _ c (t.1)) (constant-Apply name ty (trees args) ∙ and_from _ _ makes (trees_const args is))

abbrev converted_alone : Ty → List Found → Option Found
converted_alone ty args = elim args [ [] ↦ None | a ∷ more ↦ if length more == 0 then converted ty a else None ]

alone_const : (ty : Ty) (args : List Found) (c : Found) → AllConst args → converted_alone ty args ≡ Some c → IsConst c
alone_const ty [] c is h = none_is_not c h
alone_const ty (a ∷ more) c is h =
    (elim (length more == 0) as (λ t. (if t then converted ty a else None) ≡ Some c → IsConst c) [
      | true ↦ λ k. converted_const ty a c (is.0) k
      | false ↦ λ k. none_is_not c k
    ]) h

from_const : (ty : Ty) (args : List Found) (c : Found) → AllConst args → construct_from ty args ≡ Some c → IsConst c
from_const ty args c is h =
    (elim (is_only Matrix ty && (length args == 1 || length args == 16)) as (λ t. (if t then made_of op.Matrix ty args else (if is_one_triple ty && (length args == 3) then made_of op.Triple ty args else converted_alone ty args)) ≡ Some c → IsConst c) [
      | true ↦ λ k. made_const op.Matrix ty args c refl is k
      | false ↦ elim (is_one_triple ty && (length args == 3)) as (λ t. (if t then made_of op.Triple ty args else converted_alone ty args) ≡ Some c → IsConst c) [
        | true ↦ λ k. made_const op.Triple ty args c refl is k
        | false ↦ λ k. alone_const ty args c is k
      ]
    ]) h

construct_const : (to : BaseType) (args : List Found) (c : Found) → AllConst args → construct to args ≡ Some c → IsConst c
unfolding construct
construct_const to args c is h =
    let bs = bound (sequence (map expression args)) _ c h in
    from_const (only (base_named to)) bs.value c (expressions_const args bs.value is bs.was) bs.goes

-- ---- what sources are constant

constant_so : (t : Bool) → is_constancy (constant_if t) ≡ true → t ≡ true
constant_so true h = refl
constant_so false h = absurd (false≢true h)

negated_so : (c : Constancy) → is_constancy (negated c) ≡ true → is_constancy c ≡ true
negated_so Numeral h = refl
negated_so Constant h = absurd (false≢true h)
negated_so Neither h = absurd (false≢true h)

-- what is in scope where nothing but the structures is
abbrev bare : Sight → Sight
bare sight = record { structures = sight.structures; functions = λ word. [] }

abbrev nothing : Scope
nothing = record { bindings = []; depth = 0; kinds = [] }

-- a constant is typed the same without a scope, and its tree is constant
record IsSame (sight : Sight) (bindings : List Binding) (x : Expr) : Type 0 where
  same : found_form sight bindings x ≡ found_form (bare sight) [] x
  const : (a : Found) → found_form sight bindings x ≡ Some a → IsConst a

module _ (sight : Sight) (bindings : List Binding) where
  abbrev When : Expr → Type 0
  When x = is_constancy (constancy x) ≡ true → IsSame sight bindings x

  module _ (Y : Type 0) (tree : Y → Expr) (each : (y : Y) → When (tree y)) where
    abbrev l-of : Expr-F Y → Expr-F Expr
    l-of l = map-Expr Y Expr tree l

    all_same : (ys : List Y) → list_all is_constancy (map constancy (map tree ys)) ≡ true → map (found_form sight bindings) (map tree ys) ≡ map (found_form (bare sight) []) (map tree ys)
    all_same [] h = refl
    all_same (y ∷ ys) h =
        let p = and_parts (is_constancy (constancy (tree y))) (list_all is_constancy (map constancy (map tree ys))) h in
        λ i. (each y (p.0)).same i ∷ all_same ys (p.1) i

    all_const : (ys : List Y) (args : List Found) → list_all is_constancy (map constancy (map tree ys)) ≡ true → sequence (map (found_form sight bindings) (map tree ys)) ≡ Some args → AllConst args
    unfolding sequence
    all_const [] args c h = subst AllConst (some_same [] args h) tt
    all_const (y ∷ ys) args c h =
        let p = and_parts (is_constancy (constancy (tree y))) (list_all is_constancy (map constancy (map tree ys))) c in
        let a = bound (found_form sight bindings (tree y)) _ args h in
        let rest = bound (sequence (map (found_form sight bindings) (map tree ys))) _ args a.goes in
        subst AllConst (some_same (a.value ∷ rest.value) args rest.goes) ((each y (p.0)).const a.value a.was, all_const ys rest.value (p.1) rest.was)

    record StepSame (l : Expr-F Y) : Type 0 where
      same : typing_step sight bindings (map-Expr Expr (Option Found) (found_form sight bindings) (l-of l)) ≡ typing_step (bare sight) [] (map-Expr Expr (Option Found) (found_form (bare sight) []) (l-of l))
      const : (a : Found) → typing_step sight bindings (map-Expr Expr (Option Found) (found_form sight bindings) (l-of l)) ≡ Some a → IsConst a

    step_same : (l : Expr-F Y) → is_constancy (constancy_step (map-Expr Expr Constancy constancy (l-of l))) ≡ true → StepSame l
    step_same (o.Int n) h = record { same = refl; const = λ a g. subst IsConst (some_same _ a g) (constant-Int n) }
    step_same (o.Float units) h = record { same = refl; const = λ a g. subst IsConst (some_same _ a g) (constant-Float units) }
    step_same (o.Text bytes) h = record { same = refl; const = λ a g. subst IsConst (some_same _ a g) (constant-Text bytes) }
    step_same (o.Construct to ys) h =
        let c = constant_so (list_all is_constancy (map constancy (map tree ys))) h in
        record {
          same = ap (λ fs. sequence fs >>= construct to) (all_same ys c);
          const = λ a g. let args = bound (sequence (map (found_form sight bindings) (map tree ys))) _ a g in construct_const to args.value a (all_const ys args.value c args.was) args.goes;
        }
    step_same (o.Prefix before.Minus y) h =
        let c = negated_so (constancy (tree y)) h in
        let s = each y c in
        record {
          same = ap (λ f. f >>= prefixed before.Minus) s.same;
          const = λ a g. let b = bound (found_form sight bindings (tree y)) _ a g in minus_const b.value a (s.const b.value b.was) b.goes;
        }
    step_same _ h = absurd (false≢true h)

    layer_same : (l : Expr-F Y) → When (roll-Expr (l-of l))
    unfolding found_form constancy
    layer_same l h =
        let f = fold-roll-Expr (Option Found) (typing_step sight bindings) (l-of l) in
        let g = fold-roll-Expr (Option Found) (typing_step (bare sight) []) (l-of l) in
        let s = step_same l (ap is_constancy (sym (fold-roll-Expr Constancy constancy_step (l-of l))) ∙ h) in
        record { same = f ∙ s.same ∙ sym g; const = λ a k. s.const a (sym f ∙ k) }

  constant_same : (x : Expr) → When x
  constant_same x = ind-Expr When (λ l y same. subst (λ z. When (roll-Expr z)) same (layer_same _ (λ w. w.0) (λ w. w.1) y)) x

  typing_same : (x : Expr) → is_constancy (constancy x) ≡ true → typing sight bindings x ≡ typing (bare sight) [] x
  typing_same x h = ap (λ f. f >>= expression) (constant_same x h).same

  typing_const : (x : Expr) (a : Found) → is_constancy (constancy x) ≡ true → typing sight bindings x ≡ Some a → IsConst a
  typing_const x a c h = let b = bound (found_form sight bindings x) expression a h in expression_const b.value a ((constant_same x c).const b.value b.was) b.goes

  items_same : (xs : List Expr) → list_all typing_rules.is_constant xs ≡ true → map (typing sight bindings) xs ≡ map (typing (bare sight) []) xs
  items_same [] h = refl
  items_same (x ∷ xs) h = let p = and_parts (typing_rules.is_constant x) (list_all typing_rules.is_constant xs) h in λ i. typing_same x (p.0) i ∷ items_same xs (p.1) i

  items_const : (xs : List Expr) (all : List Found) → list_all typing_rules.is_constant xs ≡ true → sequence (map (typing sight bindings) xs) ≡ Some all → AllConst all
  unfolding sequence
  items_const [] all c h = subst AllConst (some_same [] all h) tt
  items_const (x ∷ xs) all c h =
      let p = and_parts (typing_rules.is_constant x) (list_all typing_rules.is_constant xs) c in
      let a = bound (typing sight bindings x) _ all h in
      let rest = bound (sequence (map (typing sight bindings) xs)) _ all a.goes in
      subst AllConst (some_same (a.value ∷ rest.value) all rest.goes) (typing_const x a.value (p.0) a.was, items_const xs rest.value (p.1) rest.was)

first_const : (kinds : List Kind) (all : List Found) (xs : List TypedExpr) → AllConst all → fit_first kinds all ≡ Some xs → list_all is_constant xs ≡ true
unfolding fit_first
first_const kinds [] xs c h = ap (list_all is_constant) (sym (some_same [] xs h))
first_const [] (a ∷ all) xs c h = none_is_not xs h
first_const (kind ∷ kinds) (a ∷ all) xs c h =
    let x = bound (fit kind a) _ xs h in
    let rest = bound (fit_first kinds all) _ xs x.goes in
    ap (list_all is_constant) (sym (some_same (x.value ∷ rest.value) xs rest.goes)) ∙ and_from _ _ (fit_const kind a x.value (c.0) x.was) (first_const kinds all rest.value (c.1) rest.was)

pub begun_const : (sight : Sight) (scope : Scope) (kind : Kind) (x : Init) (y : TypedInit) → typing_rules.is_constant_init x ≡ true → begun sight scope kind x ≡ Some y → is_constant_init y ≡ true
unfolding begun
begun_const sight scope kind (begin.Expr a) y c h =
    let f = bound (typing sight scope.bindings a >>= fit kind) _ y h in
    let b = bound (typing sight scope.bindings a) (fit kind) f.value f.was in
    ap is_constant_init (sym (some_same _ y f.goes)) ∙ fit_const kind b.value f.value (typing_const sight scope.bindings a b.value c b.was) b.goes
begun_const sight scope kind (begin.List items) y c h =
    let kinds = bound (listed_kinds sight.structures kind) _ y h in
    let all = bound (sequence (map (typing sight scope.bindings) items)) _ y kinds.goes in
    let xs = bound (fit_first kinds.value all.value) _ y all.goes in
    ap is_constant_init (sym (some_same _ y xs.goes)) ∙ first_const kinds.value all.value xs.value (items_const sight scope.bindings items all.value c all.was) xs.was

begun_bare : (sight : Sight) (scope : Scope) (kind : Kind) (x : Init) → typing_rules.is_constant_init x ≡ true → begun sight scope kind x ≡ begun (bare sight) nothing kind x
unfolding begun
begun_bare sight scope kind (begin.Expr a) c = ap (λ f. f >>= fit kind >>= λ x. Some (init.Expr x)) (typing_same sight scope.bindings a c)
begun_bare sight scope kind (begin.List items) c =
    ap (λ fs. listed_kinds sight.structures kind >>= λ kinds. sequence fs >>= λ all. fit_first kinds all >>= λ xs. Some (init.List xs)) (items_same sight scope.bindings items c)

-- a constant fits where nothing is in scope
pub constant_fits : (t : TypedShader) (sight : Sight) (scope : Scope) → ((m : ℕ) (s : StructureName) → slice_get sight.structures m ≡ Some s → slice_get t.structures m ≡ Some (kinds_of_fields s))
    → (kind : Kind) (x : Init) (y : TypedInit) → typing_rules.is_constant_init x ≡ true → begun sight scope kind x ≡ Some y → init_fits (rules_of_constants t) kind y ≡ true
unfolding look
constant_fits t sight scope structures kind x y c h =
    begun_fits (rules_of_constants t) (bare sight) nothing (record { structures = structures; functions = λ word k f at. none_is_not f at }) (record { bound = λ word b at. none_is_not b at }) kind x y (sym (begun_bare sight scope kind x c) ∙ h)
