-- Expressions keep states typed and give leaves of their kinds: by induction on the tree.
use Rattle.std.proofs.Common.{◌≡◌, ℕ, max, List, [], ◌∷◌, map, Option, sym, ap, ◌∙◌, refl, subst, arith}
use Rattle.osl_layer.specs.Layer.{Inputs}
use Rattle.osl_overload.specs.declared.signature.Formal.{Formal}
use Rattle.osl_overload.specs.declared.signature.Kind.{Kind}
use Rattle.osl_typed.specs.declared.expr.Argument.{Argument}
use Rattle.osl_typed.specs.declared.expr.Argument.TheFolds.{fold-roll-TypedExpr, fold-roll-Argument, ind-TypedExpr, map-TypedExpr, map-Argument}
use Rattle.osl_typed.specs.declared.expr.Argument.TheOpen as o
use Rattle.osl_typed.specs.declared.expr.Argument.TheOpen.{TypedExpr-F, Argument-F}
use Rattle.osl_typed.specs.declared.expr.Argument.TheViews.{roll-TypedExpr, roll-Argument}
use Rattle.osl_typed.specs.declared.expr.TypedExpr.{TypedExpr}
use Rattle.osl_typed.specs.Expressions as source
use Rattle.osl_typed.specs.Expressions.{Meaning, Calls, Passing, expr_step, eval, pass}
use Rattle.osl_welltyped.specs.Kinded.{Rules, kind_step, argument_step, kinded, passed_kind}
use Rattle.osl_welltyped.specs.Measures.{by_fault, greatest_of, place_measured, measure_step, measure_passed, measured, argument_measured}
use Rattle.osl_typed_runs.specs.Typed.{frame_by, IsTypedFrame, CallsKeep}
use Rattle.osl_typed_runs.proofs.CallTypes.{SoundArgument, SoundArguments, in_sound, out_sound, call_sound}
use Rattle.osl_typed_runs.proofs.NodeTypes.{Sound, Sounds, variable_sound, assigned_sound, chosen_sound, int_sound, float_sound, text_sound, paren_sound, exit_sound, promote_sound, apply_sound, and_sound, or_sound, taken_sound, updated_sound, stepped_sound}

-- ---- no fault in parts

pub left_good : (a b : ℕ) → max a b ≡ 0 → a ≡ 0
left_good a b h = omega (arith, h)

pub right_good : (a b : ℕ) → max a b ≡ 0 → b ≡ 0
right_good a b h = omega (arith, h)

same_greatest : (ns : List ℕ) → greatest_of (map (λ n. n) ns) ≡ greatest_of ns
same_greatest [] = refl
same_greatest (n ∷ ns) = ap (max n) (same_greatest ns)

place_good : (ns : List ℕ) → place_measured by_fault ns ≡ 0 → greatest_of ns ≡ 0
place_good ns h = sym (same_greatest ns) ∙ right_good 0 (greatest_of (map (λ n. n) ns)) h

module _ (rules : Rules) (inputs : Inputs) (calls : Calls) (fit : IsTypedFrame rules inputs) (keep : CallsKeep rules.structures rules.functions calls) where
  -- literals are in range, so it is sound
  abbrev pub ExprSound : TypedExpr → Type 0
  ExprSound x = measured by_fault x ≡ 0 → Sound rules inputs calls fit (kinded rules x) (eval (frame_by rules inputs) calls x)

  abbrev pub ArgumentSound : Argument → Type 0
  ArgumentSound x = argument_measured by_fault x ≡ 0 → SoundArgument rules inputs calls fit (passed_kind rules x) (pass (frame_by rules inputs) calls x)

  module _ (Y Z : Type 0) (arg : Y → Argument) (tree : Z → TypedExpr) (arg_sound : (y : Y) → ArgumentSound (arg y)) (sound : (z : Z) → ExprSound (tree z)) where
    all_sound : (zs : List Z) → greatest_of (map (measured by_fault) (map tree zs)) ≡ 0
        → Sounds rules inputs calls fit (map (kinded rules) (map tree zs)) (map (eval (frame_by rules inputs) calls) (map tree zs))
    all_sound [] h = tt
    all_sound (z ∷ zs) h =
        let first = measured by_fault (tree z) in
        let rest = greatest_of (map (measured by_fault) (map tree zs)) in
        (sound z (left_good first rest h), all_sound zs (right_good first rest h))

    all_arguments : (ys : List Y) → greatest_of (map (argument_measured by_fault) (map arg ys)) ≡ 0
        → SoundArguments rules inputs calls fit (map (passed_kind rules) (map arg ys)) (map (pass (frame_by rules inputs) calls) (map arg ys))
    all_arguments [] h = tt
    all_arguments (y ∷ ys) h =
        let first = argument_measured by_fault (arg y) in
        let rest = greatest_of (map (argument_measured by_fault) (map arg ys)) in
        (arg_sound y (left_good first rest h), all_arguments ys (right_good first rest h))

    -- the indices of a place
    placed : (zs : List Z) → place_measured by_fault (map (measured by_fault) (map tree zs)) ≡ 0
        → Sounds rules inputs calls fit (map (kinded rules) (map tree zs)) (map (eval (frame_by rules inputs) calls) (map tree zs))
    placed zs h = all_sound zs (place_good (map (measured by_fault) (map tree zs)) h)

    abbrev at : Z → ℕ
    at z = measured by_fault (tree z)

    abbrev all : List Z → ℕ
    all zs = greatest_of (map (measured by_fault) (map tree zs))

    abbrev places : List Z → ℕ
    places zs = place_measured by_fault (map (measured by_fault) (map tree zs))

    abbrev kind : Z → Option Kind
    kind z = kinded rules (tree z)

    abbrev kinds : List Z → List (Option Kind)
    kinds zs = map (kinded rules) (map tree zs)

    abbrev means : Z → Meaning
    means z = eval (frame_by rules inputs) calls (tree z)

    abbrev all_mean : List Z → List Meaning
    all_mean zs = map (eval (frame_by rules inputs) calls) (map tree zs)

    -- ---- one node

    node_sound : (l : TypedExpr-F Y Z)
        → measure_step by_fault (map-TypedExpr Argument TypedExpr ℕ ℕ (argument_measured by_fault) (measured by_fault) (map-TypedExpr Y Z Argument TypedExpr arg tree l)) ≡ 0
        → Sound rules inputs calls fit (kind_step rules (map-TypedExpr Argument TypedExpr (Option Formal) (Option Kind) (passed_kind rules) (kinded rules) (map-TypedExpr Y Z Argument TypedExpr arg tree l)))
        (expr_step (frame_by rules inputs) calls (map-TypedExpr Argument TypedExpr Passing Meaning (pass (frame_by rules inputs) calls) (eval (frame_by rules inputs) calls) (map-TypedExpr Y Z Argument TypedExpr arg tree l)))
    node_sound (o.Int n) h = int_sound rules inputs calls fit n h
    node_sound (o.Float units) h = float_sound rules inputs calls fit units h
    node_sound (o.Text bytes) h = text_sound rules inputs calls fit bytes
    node_sound (o.Variable root part is) h = variable_sound rules inputs calls fit root part (kinds is) (all_mean is) (placed is h)
    node_sound (o.PartOf k a part is) h = taken_sound rules inputs calls fit k (kind a) (means a) part (kinds is) (all_mean is) (sound a (left_good (at a) (all is) h)) (all_sound is (right_good (at a) (all is) h))
    node_sound (o.Paren k a) h = paren_sound rules inputs calls fit k (kind a) (means a) (sound a h)
    node_sound (o.Promote ty a) h = promote_sound rules inputs calls fit ty (kind a) (means a) (sound a h)
    node_sound (o.Apply op ty operands) h = apply_sound rules inputs calls fit op ty (kinds operands) (all_mean operands) (all_sound operands h)
    node_sound (o.And a b) h = and_sound rules inputs calls fit (kind a) (kind b) (means a) (means b) (sound a (left_good (at a) (at b) h)) (sound b (right_good (at a) (at b) h))
    node_sound (o.Or a b) h = or_sound rules inputs calls fit (kind a) (kind b) (means a) (means b) (sound a (left_good (at a) (at b) h)) (sound b (right_good (at a) (at b) h))
    node_sound (o.Choose k c a b) h =
        let r = right_good (at c) (max (at a) (at b)) h in
        chosen_sound rules inputs calls fit k (kind c) (kind a) (kind b) (means c) (means a) (means b) (sound c (left_good (at c) (max (at a) (at b)) h)) (sound a (left_good (at a) (at b) r)) (sound b (right_good (at a) (at b) r))
    node_sound (o.Assign root part is a) h =
        assigned_sound rules inputs calls fit root part (kinds is) (all_mean is) (kind a) (means a) (placed is (left_good (places is) (at a) h)) (sound a (right_good (places is) (at a) h))
    node_sound (o.Update op ty root part is a) h =
        updated_sound rules inputs calls fit op ty root part (kinds is) (all_mean is) (kind a) (means a) (placed is (left_good (places is) (at a) h)) (sound a (right_good (places is) (at a) h))
    node_sound (o.Step step ty root) h = stepped_sound rules inputs calls fit step ty root
    node_sound (o.Call f k args) h = call_sound rules inputs calls fit keep f k (map (passed_kind rules) (map arg args)) (map (pass (frame_by rules inputs) calls) (map arg args)) (all_arguments args h)
    node_sound o.Exit h = exit_sound rules inputs calls fit

    passed_sound : (l : Argument-F Y Z)
        → measure_passed by_fault (map-Argument Argument TypedExpr ℕ ℕ (argument_measured by_fault) (measured by_fault) (map-Argument Y Z Argument TypedExpr arg tree l)) ≡ 0
        → SoundArgument rules inputs calls fit (argument_step rules (map-Argument Argument TypedExpr (Option Formal) (Option Kind) (passed_kind rules) (kinded rules) (map-Argument Y Z Argument TypedExpr arg tree l)))
        (source.argument_step (frame_by rules inputs) (map-Argument Argument TypedExpr Passing Meaning (pass (frame_by rules inputs) calls) (eval (frame_by rules inputs) calls) (map-Argument Y Z Argument TypedExpr arg tree l)))
    passed_sound (o.In a) h = in_sound rules inputs calls fit (kind a) (means a) (sound a h)
    passed_sound (o.Out root part is) h = out_sound rules inputs calls fit root part (kinds is) (all_mean is) (placed is h)

    -- ---- one layer of the tree

    layer_sound : (l : TypedExpr-F Y Z) → ExprSound (roll-TypedExpr (map-TypedExpr Y Z Argument TypedExpr arg tree l))
    unfolding kinded passed_kind measured argument_measured eval pass
    layer_sound l good =
        let x = map-TypedExpr Y Z Argument TypedExpr arg tree l in
        let m = fold-roll-TypedExpr ℕ ℕ (measure_passed by_fault) (measure_step by_fault) x in
        let k = fold-roll-TypedExpr (Option Formal) (Option Kind) (argument_step rules) (kind_step rules) x in
        let v = fold-roll-TypedExpr Passing Meaning (source.argument_step (frame_by rules inputs)) (expr_step (frame_by rules inputs) calls) x in
        subst (λ z. Sound rules inputs calls fit (kinded rules (roll-TypedExpr x)) z) (sym v) (
        subst (λ z. Sound rules inputs calls fit z (expr_step (frame_by rules inputs) calls (map-TypedExpr Argument TypedExpr Passing Meaning (pass (frame_by rules inputs) calls) (eval (frame_by rules inputs) calls) x))) (sym k) (
        node_sound l (sym m ∙ good)))

    argument_layer : (l : Argument-F Y Z) → ArgumentSound (roll-Argument (map-Argument Y Z Argument TypedExpr arg tree l))
    unfolding kinded passed_kind measured argument_measured eval pass
    argument_layer l good =
        let x = map-Argument Y Z Argument TypedExpr arg tree l in
        let m = fold-roll-Argument ℕ ℕ (measure_passed by_fault) (measure_step by_fault) x in
        let k = fold-roll-Argument (Option Formal) (Option Kind) (argument_step rules) (kind_step rules) x in
        let v = fold-roll-Argument Passing Meaning (source.argument_step (frame_by rules inputs)) (expr_step (frame_by rules inputs) calls) x in
        subst (λ z. SoundArgument rules inputs calls fit (passed_kind rules (roll-Argument x)) z) (sym v) (
        subst (λ z. SoundArgument rules inputs calls fit z (source.argument_step (frame_by rules inputs) (map-Argument Argument TypedExpr Passing Meaning (pass (frame_by rules inputs) calls) (eval (frame_by rules inputs) calls) x))) (sym k) (
        passed_sound l (sym m ∙ good)))

  -- ---- all expressions

  pub expr_sound : (x : TypedExpr) → ExprSound x
  expr_sound x = ind-TypedExpr ArgumentSound ExprSound
      (λ l y same. subst (λ z. ArgumentSound (roll-Argument z)) same (argument_layer _ _ (λ w. w.0) (λ w. w.0) (λ w. w.1) (λ w. w.1) y))
      (λ l y same. subst (λ z. ExprSound (roll-TypedExpr z)) same (layer_sound _ _ (λ w. w.0) (λ w. w.0) (λ w. w.1) (λ w. w.1) y)) x
