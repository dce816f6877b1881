-- Every typed expression is well formed, and has the kind that typing gives it.
use Rattle.std.proofs.Common.{◌≡◌, List, [], ◌∷◌, map, Option, Some, refl, sym, subst}
use Rattle.std.specs.Prelude.{ℤ}
use Rattle.osl_value.specs.declared.types.Base.TheVariants.{Str}
use Rattle.osl_value.specs.Types.{only}
use Rattle.osl_overload.specs.declared.signature.Kind.TheVariants.{Value}
use Rattle.osl_tree.specs.declared.expr.Expr.{Expr, Expr-F, fold-roll-Expr, ind-Expr, roll-Expr}
use Rattle.osl_tree.specs.declared.expr.Expr.TheFolds.{map-Expr}
use Rattle.osl_tree.specs.declared.expr.Expr.TheOpen as o
use Rattle.osl_typed.specs.declared.expr.TypedExpr.TheVariants as e
use Rattle.osl_typed.specs.declared.found.Binding.{Binding}
use Rattle.osl_typed.specs.declared.found.Found.{Found}
use Rattle.osl_typed.specs.Operators.{float}
use Rattle.osl_typed.specs.Scopes.{Sight}
use Rattle.osl_typed.specs.Typing.{◌>>=◌, sequence, int_literal, expression, tree_of, typing_step, found_form, typing, index, field, postfixed, prefixed, cast, binary, assign}
use Rattle.osl_welltyped.specs.Kinded.{Rules, kinded}
use Rattle.osl_welltyped.specs.Agreement.{SightFits, NamesFit}
use Rattle.osl_welltyped.proofs.Assignments.{assign_fits}
use Rattle.osl_welltyped.proofs.CallsFit.{call_keeps}
use Rattle.osl_welltyped.proofs.Constructors.{AllFit, construct_fits}
use Rattle.osl_welltyped.proofs.FoundFits.{FoundFits}
use Rattle.osl_welltyped.proofs.KindedLaws.{kinded-Int, kinded-Float, kinded-Text}
use Rattle.osl_welltyped.proofs.OperatorsFit.{Stands, stands, value_fits, parens_fit, prefixed_fits, postfixed_fits, cast_fits, binary_fits, choice_fits}
use Rattle.osl_welltyped.proofs.Steps.{some_same, bound}
use Rattle.osl_welltyped.proofs.Suffixes.{name_fits, index_fits, field_fits}

module _ (rules : Rules) (sight : Sight) (bindings : List Binding) (seen : SightFits rules sight) (names : NamesFit rules bindings) where
  -- what typing answers, if it does
  abbrev Sound : Option Found → Type 0
  Sound answer = (a : Found) → answer ≡ Some a → FoundFits rules a

  one : (x : Option Found) (f : Found → Option Found) → Sound x → ((a b : Found) → FoundFits rules a → f a ≡ Some b → FoundFits rules b) → Sound (x >>= f)
  one x f sx keeps c h = let b = bound x f c h in keeps b.value c (sx b.value b.was) b.goes

  two : (x y : Option Found) (f : Found → Found → Option Found) → Sound x → Sound y → ((a b c : Found) → FoundFits rules a → FoundFits rules b → f a b ≡ Some c → FoundFits rules c) → Sound (x >>= λ a. y >>= f a)
  two x y f sx sy keeps c h =
      let a = bound x _ c h in let b = bound y _ c a.goes in
      keeps a.value b.value c (sx a.value a.was) (sy b.value b.was) b.goes

  int_fits : (n : ℤ) → Sound (Some (int_literal n))
  int_fits n a h = subst (FoundFits rules) (some_same _ a h) (record { form = record { holds = kinded-Int rules n; no_row = refl }; zero_is = λ is. refl })

  module _ (Y : Type 0) (tree : Y → Expr) (sound : (y : Y) → Sound (found_form sight bindings (tree y))) where
    all_fit : (ys : List Y) (args : List Found) → sequence (map (found_form sight bindings) (map tree ys)) ≡ Some args → AllFit rules args
    unfolding sequence
    all_fit [] args h = subst (AllFit rules) (some_same [] args h) tt
    all_fit (y ∷ ys) args h =
        let p = bound (found_form sight bindings (tree y)) _ args h in
        let q = bound (sequence (map (found_form sight bindings) (map tree ys))) _ args p.goes in
        subst (AllFit rules) (some_same (p.value ∷ q.value) args q.goes) (sound y p.value p.was, all_fit ys q.value q.was)

    step_fits : (l : Expr-F Y) → Sound (typing_step sight bindings (map-Expr Expr (Option Found) (found_form sight bindings) (map-Expr Y Expr tree l)))
    step_fits (o.Int n) = int_fits n
    step_fits (o.Float units) = λ a h. subst (FoundFits rules) (some_same _ a h) (value_fits rules (e.Float units) float (kinded-Float rules units))
    step_fits (o.Text bytes) = λ a h. subst (FoundFits rules) (some_same _ a h) (value_fits rules (e.Text bytes) (Value (only Str)) (kinded-Text rules bytes))
    step_fits (o.Name word) = λ a h. name_fits rules bindings word a names h
    step_fits (o.Call word ys) = λ c h. let args = bound (sequence (map (found_form sight bindings) (map tree ys))) _ c h in call_keeps rules sight word args.value c seen (all_fit ys args.value args.was) args.goes
    step_fits (o.Construct to ys) = λ c h. let args = bound (sequence (map (found_form sight bindings) (map tree ys))) _ c h in construct_fits rules to args.value c (all_fit ys args.value args.was) args.goes
    step_fits (o.Paren x) = one (found_form sight bindings (tree x)) _ (sound x) (λ a c fa h. let b = bound (expression a) _ c h in subst (FoundFits rules) (some_same _ c b.goes) (parens_fit rules b.value (stands rules a b.value fa b.was)))
    step_fits (o.Index x i) = two (found_form sight bindings (tree x)) (found_form sight bindings (tree i)) index (sound x) (sound i) (index_fits rules)
    step_fits (o.Field x word) = one (found_form sight bindings (tree x)) (field sight.structures word) (sound x) (λ a c fa h. field_fits rules sight word a c seen fa h)
    step_fits (o.Postfix operator x) = one (found_form sight bindings (tree x)) (postfixed operator) (sound x) (postfixed_fits rules operator)
    step_fits (o.Prefix operator x) = one (found_form sight bindings (tree x)) (prefixed operator) (sound x) (prefixed_fits rules operator)
    step_fits (o.Cast to x) = one (found_form sight bindings (tree x)) (cast to) (sound x) (cast_fits rules to)
    step_fits (o.Binary operator x y) = two (found_form sight bindings (tree x)) (found_form sight bindings (tree y)) (binary operator) (sound x) (sound y) (binary_fits rules operator)
    step_fits (o.Choice t x y) = λ c h.
        let p = bound (found_form sight bindings (tree t)) _ c h in
        let a = bound (found_form sight bindings (tree x)) _ c p.goes in
        let b = bound (found_form sight bindings (tree y)) _ c a.goes in
        choice_fits rules p.value a.value b.value c (sound t p.value p.was) (sound x a.value a.was) (sound y b.value b.was) b.goes
    step_fits (o.Assign operator x y) = two (found_form sight bindings (tree x)) (found_form sight bindings (tree y)) (assign operator) (sound x) (sound y) (assign_fits rules operator)

    layer_fits : (l : Expr-F Y) → Sound (found_form sight bindings (roll-Expr (map-Expr Y Expr tree l)))
    unfolding found_form
    layer_fits l = subst Sound (sym (fold-roll-Expr (Option Found) (typing_step sight bindings) (map-Expr Y Expr tree l))) (step_fits l)

  pub form_fits : (x : Expr) (a : Found) → found_form sight bindings x ≡ Some a → FoundFits rules a
  form_fits x = ind-Expr (λ x. Sound (found_form sight bindings x)) (λ l y same. subst (λ z. Sound (found_form sight bindings (roll-Expr z))) same (layer_fits _ (λ w. w.0) (λ w. w.1) y)) x

  -- a typed expression is known, and no row
  pub typing_stands : (x : Expr) (a : Found) → typing sight bindings x ≡ Some a → Stands rules a
  typing_stands x a h = let b = bound (found_form sight bindings x) expression a h in stands rules b.value a (form_fits x b.value b.was) b.goes

  pub typing_kinded : (x : Expr) (a : Found) → typing sight bindings x ≡ Some a → kinded rules (tree_of a) ≡ Some a.kind
  typing_kinded x a h = (typing_stands x a h).kind_is
