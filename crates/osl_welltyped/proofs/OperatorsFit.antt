-- Operators, casts and choices keep what is known.
use Rattle.std.proofs.Common.{◌≡◌, ℕ, Bool, true, false, not, ◌&&◌, List, [], ◌∷◌, length, map, Option, Some, None, refl, sym, ap, ◌∙◌, subst}
use Rattle.std.specs.Prelude.{if◌then◌else◌, ◌==◌, is_some}
use Rattle.std.proofs.lemmas.Bool.{false≢true, and_from, and_parts, eqb-true}
use Rattle.osl_value.proofs.SameTypes.{same_type-refl}
use Rattle.osl_value.specs.declared.op_name.OpName.{OpName}
use Rattle.osl_value.specs.declared.op_name.OpName.TheVariants as op
use Rattle.osl_value.specs.declared.types.Base.TheVariants.{Int}
use Rattle.osl_value.specs.declared.types.Ty.{Ty}
use Rattle.osl_value.specs.AnyValue.{is_number}
use Rattle.osl_value.specs.Types.{only, is_only}
use Rattle.osl_overload.specs.declared.signature.Kind.{Kind}
use Rattle.osl_overload.specs.declared.signature.Kind.TheVariants.{Value, Structure, Void}
use Rattle.osl_tree.specs.declared.expr.BaseType.{BaseType}
use Rattle.osl_tree.specs.declared.expr.BinaryOp.{BinaryOp}
use Rattle.osl_tree.specs.declared.expr.BinaryOp.TheVariants as by
use Rattle.osl_tree.specs.declared.expr.PostfixOp.{PostfixOp}
use Rattle.osl_tree.specs.declared.expr.PostfixOp.TheVariants as after
use Rattle.osl_tree.specs.declared.expr.PrefixOp.{PrefixOp}
use Rattle.osl_tree.specs.declared.expr.PrefixOp.TheVariants as before
use Rattle.osl_typed.specs.declared.expr.Part.{Part}
use Rattle.osl_typed.specs.declared.expr.Root.{Root}
use Rattle.osl_typed.specs.declared.expr.Increment.{Increment}
use Rattle.osl_typed.specs.declared.expr.TypedExpr.{TypedExpr}
use Rattle.osl_typed.specs.declared.expr.TypedExpr.TheVariants as e
use Rattle.osl_typed.specs.declared.found.Form.{Form}
use Rattle.osl_typed.specs.declared.found.Form.TheVariants.{Place, Piece, Whole}
use Rattle.osl_typed.specs.declared.found.Found.{Found}
use Rattle.osl_typed.specs.Operators as operators
use Rattle.osl_typed.specs.Operators.{int, operation, is_arithmetic, is_convertible, conversion_of, base_named}
use Rattle.osl_typed.specs.Typing.{expression, tree_of, value, plain_type, applied, stepped, whole_variable, is_whole, prefixed, postfixed, converted, cast, operated, joined_by, binary, common, choice, fit, in_parens}
use Rattle.osl_welltyped.specs.Kinded.{Rules, is_numeric, plain_types, takes, steps, led_to, kinded}
use Rattle.osl_welltyped.proofs.FoundFits.{FoundFits, FormFits, PlaceFits, told, pair_same, tree_fits, fit_kinded, three}
use Rattle.osl_welltyped.proofs.KindedLaws.{kinded-Apply, kinded-And, kinded-Or, kinded-Choose, kinded-Step, kinded-Paren}
use Rattle.osl_welltyped.proofs.Steps.{none_is_not, some_same, bound, held, kind_is, only_if_so}
use Rattle.osl_welltyped.proofs.Suffixes.{expression_is, whole_told}
use Rattle.osl_welltyped.proofs.TypeTables.{operation_takes, neg_takes, plus_takes, compl_takes, not_takes, conversion_takes}

-- an expression that is no row, and its tree
pub record Stands (rules : Rules) (a : Found) : Type 0 where
  pub fits : FoundFits rules a
  pub whole : a.is_row ≡ false
  pub kind_is : kinded rules (tree_of a) ≡ Some a.kind

pub stands : (rules : Rules) (a b : Found) → FoundFits rules a → expression a ≡ Some b → Stands rules b
stands rules a b fa h =
    let is = expression_is a b h in
    let fits : FoundFits rules b = subst (FoundFits rules) (is.1) fa in
    let whole : b.is_row ≡ false = ap (λ (x : Found). x.is_row) (sym (is.1)) ∙ is.0 in
    record { fits = fits; whole = whole; kind_is = tree_fits rules b fits whole }

-- an expression that is no variable
pub value_fits : (rules : Rules) (x : TypedExpr) (kind : Kind) → kinded rules x ≡ Some kind → FoundFits rules (value x kind)
value_fits rules x kind h = record { form = record { holds = h; no_row = refl }; zero_is = λ f. absurd (false≢true f) }

pub plain_is : (kind : Kind) (ty : Ty) → plain_type kind ≡ Some ty → kind ≡ Value ty
plain_is (Value t) ty h = ap Value (some_same t ty h)
plain_is (Structure m) ty h = none_is_not ty h
plain_is Void ty h = none_is_not ty h

pub apply_kinded : (rules : Rules) (name : OpName) (ty : Ty) (xs : List TypedExpr) → takes name ty (plain_types (map (kinded rules) xs)) ≡ true → kinded rules (e.Apply name ty xs) ≡ Some (Value ty)
apply_kinded rules name ty xs h = kinded-Apply rules name ty xs ∙ only_if_so _ _ h

-- ---- parentheses

pub parens_fit : (rules : Rules) (a : Found) → Stands rules a → FoundFits rules (in_parens a)
parens_fit rules a s = value_fits rules (e.Paren a.kind (tree_of a)) a.kind (kinded-Paren rules a.kind (tree_of a) ∙ only_if_so _ _ (kind_is a.kind (kinded rules (tree_of a)) s.kind_is))

-- ---- operators of one operand

applied_fits : (rules : Rules) (name : OpName) (test : Ty → Bool) (gives : Ty → Ty) → ((ty : Ty) → test ty ≡ true → takes name (gives ty) (Some (ty ∷ [])) ≡ true) → (a c : Found) → FoundFits rules a
    → applied name a test gives ≡ Some c → FoundFits rules c
applied_fits rules name test gives table a c fa h =
    let b = bound (expression a) _ c h in
    let ty = bound (plain_type b.value.kind) _ c b.goes in
    let t = held (test ty.value) _ c ty.goes in
    let s = stands rules a b.value fa b.was in
    let is : kinded rules (tree_of b.value) ≡ Some (Value ty.value) = s.kind_is ∙ ap Some (plain_is b.value.kind ty.value ty.was) in
    subst (FoundFits rules) (some_same _ c (t.1)) (value_fits rules _ _ (apply_kinded rules name (gives ty.value) (tree_of b.value ∷ [])
    (ap (λ o. takes name (gives ty.value) (plain_types (o ∷ []))) is ∙ table ty.value (t.0))))

-- a whole variable
record IsWhole (form : Form) (root : Root) : Type 0 where
  part : Part
  form_is : form ≡ Place root true part []
  no_fields : part.fields ≡ []
  no_component : part.component ≡ None

no_items : {X : Type 0} (xs : List X) → (length xs == 0) ≡ true → xs ≡ []
no_items [] h = refl
no_items (x ∷ xs) h = let e : length (x ∷ xs) ≡ 0 = eqb-true (length (x ∷ xs)) 0 h in absurd cc

no_some : (o : Option ℕ) → not (is_some o) ≡ true → o ≡ None
no_some None h = refl
no_some (Some c) h = absurd (false≢true h)

root_same : (a b : Root) → ◌≡◌ {A = Option Root} (Some a) (Some b) → a ≡ b
root_same a b h = some_same a b h

whole_is : (form : Form) (root : Root) → whole_variable form ≡ Some root → IsWhole form root
whole_is (Place r writable part indices) root h =
    (elim (writable && is_whole part indices) as (λ t. (writable && is_whole part indices) ≡ t → (if t then Some r else None) ≡ Some root → IsWhole (Place r writable part indices) root) [
      | true ↦ λ all g.
          let p = and_parts writable (is_whole part indices) all in
          let q = and_parts ((length part.fields == 0) && not (is_some part.component)) (length indices == 0) (p.1) in
          let s = and_parts (length part.fields == 0) (not (is_some part.component)) (q.0) in
          record {
            part = part;
            form_is = λ i. Place (root_same r root g i) (p.0 i) part (no_items indices (q.1) i);
            no_fields = no_items part.fields (s.0);
            no_component = no_some part.component (s.1);
          }
      | false ↦ λ all g. none_is_not root g
    ]) refl h
whole_is (Piece from a part indices) root h = none_is_not root h
whole_is (Whole a) root h = none_is_not root h

whole_kind : (rules : Rules) (root : Root) (part : Part) (kind : Kind) (fields : List ℕ) → fields ≡ [] → part.component ≡ None → (from : Kind) → led_to rules.structures (Some from) fields ≡ Some part.kind
    → told part.kind 0 part.component ≡ Some (kind, false) → from ≡ kind
whole_kind rules root part kind fields none bare from led t =
    let a : from ≡ part.kind = some_same from part.kind (ap (λ fs. led_to rules.structures (Some from) fs) (sym none) ∙ led) in
    let b = pair_same part.kind kind false false (sym (whole_told part.kind) ∙ ap (λ c. told part.kind 0 c) (sym bare) ∙ t) in
    a ∙ b.0

stepped_fits : (rules : Rules) (step : Increment) (a c : Found) → FoundFits rules a → stepped step a ≡ Some c → FoundFits rules c
stepped_fits rules step a c fa h =
    let b = bound (expression a) _ c h in
    let ty = bound (plain_type b.value.kind) _ c b.goes in
    let t = held (is_number ty.value) _ c ty.goes in
    let r = bound (whole_variable b.value.form) _ c (t.1) in
    let s = stands rules a b.value fa b.was in
    let w = whole_is b.value.form r.value r.was in
    let is : b.value.kind ≡ Value ty.value = plain_is b.value.kind ty.value ty.was in
    let f : PlaceFits rules r.value true w.part [] b.value.kind false = subst (λ form. FormFits rules form b.value.kind false) w.form_is (subst (FormFits rules b.value.form b.value.kind) s.whole s.fits.form) in
    let from : f.from ≡ Value ty.value = whole_kind rules r.value w.part b.value.kind w.part.fields w.no_fields w.no_component f.from f.leads.fields f.leads.selected ∙ is in
    let k : kinded rules (e.Step step ty.value r.value) ≡ Some (Value ty.value) =
    kinded-Step rules step ty.value r.value ∙ only_if_so _ _ (and_from _ _ (f.writes refl) (ap (steps ty.value) (f.rooted ∙ ap Some from) ∙ and_from _ _ (same_type-refl ty.value) (t.0))) in
    subst (FoundFits rules) (some_same _ c r.goes) (value_fits rules _ _ (k ∙ ap Some (sym is)))

pub prefixed_fits : (rules : Rules) (o : PrefixOp) (a c : Found) → FoundFits rules a → prefixed o a ≡ Some c → FoundFits rules c
unfolding prefixed
prefixed_fits rules before.Minus a c fa h = applied_fits rules op.Neg (λ ty. is_arithmetic ty) (λ ty. ty) neg_takes a c fa h
prefixed_fits rules before.Plus a c fa h = applied_fits rules op.Assign (λ ty. is_arithmetic ty) (λ ty. ty) plus_takes a c fa h
prefixed_fits rules before.Complement a c fa h = applied_fits rules op.Compl (is_only Int) (λ ty. ty) compl_takes a c fa h
prefixed_fits rules before.Not a c fa h = applied_fits rules op.Not (λ ty. is_number ty) (λ ty. only Int) not_takes a c fa h
prefixed_fits rules before.Increment a c fa h = stepped_fits rules _ a c fa h
prefixed_fits rules before.Decrement a c fa h = stepped_fits rules _ a c fa h

pub postfixed_fits : (rules : Rules) (o : PostfixOp) (a c : Found) → FoundFits rules a → postfixed o a ≡ Some c → FoundFits rules c
unfolding postfixed
postfixed_fits rules after.Increment a c fa h = stepped_fits rules _ a c fa h
postfixed_fits rules after.Decrement a c fa h = stepped_fits rules _ a c fa h

-- ---- casts

pub converted_fits : (rules : Rules) (to : Ty) (a c : Found) → FoundFits rules a → converted to a ≡ Some c → FoundFits rules c
converted_fits rules to a c fa h =
    let b = bound (expression a) _ c h in
    let ty = bound (plain_type b.value.kind) _ c b.goes in
    let t = held (is_convertible to ty.value) _ c ty.goes in
    let s = stands rules a b.value fa b.was in
    let is : kinded rules (tree_of b.value) ≡ Some (Value ty.value) = s.kind_is ∙ ap Some (plain_is b.value.kind ty.value ty.was) in
    subst (FoundFits rules) (some_same _ c (t.1)) (value_fits rules _ _ (apply_kinded rules (conversion_of to ty.value) to (tree_of b.value ∷ [])
    (ap (λ o. takes (conversion_of to ty.value) to (plain_types (o ∷ []))) is ∙ conversion_takes to ty.value (t.0))))

pub cast_fits : (rules : Rules) (to : BaseType) (a c : Found) → FoundFits rules a → cast to a ≡ Some c → FoundFits rules c
unfolding cast
cast_fits rules to a c fa h = converted_fits rules (only (base_named to)) a c fa h

-- ---- operators of two operands

pub numeric_is : (rules : Rules) (x : TypedExpr) (kind : Kind) → kinded rules x ≡ Some kind → operators.is_numeric kind ≡ true → is_numeric (kinded rules x) ≡ true
numeric_is rules x (Value ty) is h = ap is_numeric is ∙ h
numeric_is rules x (Structure m) is h = absurd (false≢true h)
numeric_is rules x Void is h = absurd (false≢true h)

record AreNumbers (rules : Rules) (a b : Found) : Type 0 where
  left : is_numeric (kinded rules (tree_of a)) ≡ true
  right : is_numeric (kinded rules (tree_of b)) ≡ true

numbers : (rules : Rules) (a b : Found) → Stands rules a → Stands rules b → (operators.is_numeric a.kind && operators.is_numeric b.kind) ≡ true → AreNumbers rules a b
numbers rules a b sa sb h =
    let p = and_parts (operators.is_numeric a.kind) (operators.is_numeric b.kind) h in
    record { left = numeric_is rules (tree_of a) a.kind sa.kind_is (p.0); right = numeric_is rules (tree_of b) b.kind sb.kind_is (p.1) }

operated_fits : (rules : Rules) (o : BinaryOp) (a b c : Found) → Stands rules a → Stands rules b → operated o a b ≡ Some c → FoundFits rules c
operated_fits rules o a b c sa sb h =
    let r = bound (operation o a.kind b.kind) _ c h in
    let left = bound (fit r.value.left a) _ c r.goes in
    let right = bound (fit r.value.right b) _ c left.goes in
    let l = fit_kinded rules r.value.left a left.value sa.fits sa.whole left.was in
    let k = fit_kinded rules r.value.right b right.value sb.fits sb.whole right.was in
    subst (FoundFits rules) (some_same _ c right.goes) (value_fits rules _ _ (apply_kinded rules r.value.op r.value.ty (left.value ∷ right.value ∷ [])
    ((λ i. takes r.value.op r.value.ty (plain_types (l i ∷ k i ∷ []))) ∙ operation_takes o a.kind b.kind r.value r.was)))

joined_by_fits : (rules : Rules) (o : BinaryOp) (a b c : Found) → Stands rules a → Stands rules b → joined_by o a b ≡ Some c → FoundFits rules c
joined_by_fits rules by.And a b c sa sb h =
    let t = held (operators.is_numeric a.kind && operators.is_numeric b.kind) _ c h in
    let n = numbers rules a b sa sb (t.0) in
    subst (FoundFits rules) (some_same _ c (t.1)) (value_fits rules _ _ (kinded-And rules (tree_of a) (tree_of b) ∙ only_if_so _ _ (and_from _ _ n.left n.right)))
joined_by_fits rules by.Or a b c sa sb h =
    let t = held (operators.is_numeric a.kind && operators.is_numeric b.kind) _ c h in
    let n = numbers rules a b sa sb (t.0) in
    subst (FoundFits rules) (some_same _ c (t.1)) (value_fits rules _ _ (kinded-Or rules (tree_of a) (tree_of b) ∙ only_if_so _ _ (and_from _ _ n.left n.right)))
joined_by_fits rules o a b c sa sb h = operated_fits rules o a b c sa sb h

pub binary_fits : (rules : Rules) (o : BinaryOp) (a b c : Found) → FoundFits rules a → FoundFits rules b → binary o a b ≡ Some c → FoundFits rules c
unfolding binary
binary_fits rules o a b c fa fb h =
    let left = bound (expression a) _ c h in
    let right = bound (expression b) _ c left.goes in
    joined_by_fits rules o left.value right.value c (stands rules a left.value fa left.was) (stands rules b right.value fb right.was) right.goes

-- ---- choice

pub choice_fits : (rules : Rules) (t a b c : Found) → FoundFits rules t → FoundFits rules a → FoundFits rules b → choice t a b ≡ Some c → FoundFits rules c
unfolding choice
choice_fits rules t a b c ft fa fb h =
    let test = bound (expression t) _ c h in
    let first = bound (expression a) _ c test.goes in
    let second = bound (expression b) _ c first.goes in
    let is = held (operators.is_numeric test.value.kind) _ c second.goes in
    let kind = bound (common first.value second.value) _ c (is.1) in
    let left = bound (fit kind.value first.value) _ c kind.goes in
    let right = bound (fit kind.value second.value) _ c left.goes in
    let st = stands rules t test.value ft test.was in
    let sa = stands rules a first.value fa first.was in
    let sb = stands rules b second.value fb second.was in
    subst (FoundFits rules) (some_same _ c right.goes) (value_fits rules _ _ (kinded-Choose rules kind.value (tree_of test.value) left.value right.value ∙ only_if_so _ _
    (three _ _ _ (numeric_is rules (tree_of test.value) test.value.kind st.kind_is (is.0))
    (kind_is kind.value _ (fit_kinded rules kind.value first.value left.value sa.fits sa.whole left.was))
    (kind_is kind.value _ (fit_kinded rules kind.value second.value right.value sb.fits sb.whole right.was)))))
