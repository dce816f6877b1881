-- Assignments keep what is known.
use Rattle.std.proofs.Common.{◌≡◌, true, false, map, Option, Some, None, refl, ap, ◌∙◌, subst}
use Rattle.std.proofs.lemmas.Bool.{and_from}
use Rattle.osl_tree.specs.declared.expr.AssignOp.{AssignOp}
use Rattle.osl_tree.specs.declared.expr.BinaryOp.{BinaryOp}
use Rattle.osl_typed.specs.declared.found.Form.{Form}
use Rattle.osl_typed.specs.declared.found.Form.TheVariants.{Place, Piece, Whole}
use Rattle.osl_typed.specs.declared.found.Found.{Found}
use Rattle.osl_typed.specs.Operators.{operation, operator_of}
use Rattle.osl_typed.specs.Selections.{part_kind}
use Rattle.osl_typed.specs.Typing.{expression, Target, target_form, set_to, updated_by, stored, assign, fit}
use Rattle.osl_welltyped.specs.Kinded.{Rules, is_kind, stored_fits, updates_by, kinded}
use Rattle.osl_welltyped.proofs.FoundFits.{FoundFits, FormFits, PlaceFits, place_read, fit_kinded}
use Rattle.osl_welltyped.proofs.KindedLaws.{kinded-Assign, kinded-Update}
use Rattle.osl_welltyped.proofs.OperatorsFit.{Stands, stands, value_fits}
use Rattle.osl_welltyped.proofs.Steps.{none_is_not, some_same, bound, held, kind_is, only_if_so}
use Rattle.osl_welltyped.proofs.TypeTables.{goes_to, operation_updates}

pub target_is : (form : Form) (t : Target) → target_form form ≡ Some t → form ≡ Place t.root true t.part t.indices
target_is (Place root true part indices) t h = let e : record { root = root; part = part; indices = indices } ≡ t = some_same _ t h in λ i. Place (e i).root true (e i).part (e i).indices
target_is (Place root false part indices) t h = none_is_not t h
target_is (Piece kind a part indices) t h = none_is_not t h
target_is (Whole a) t h = none_is_not t h

-- what may be assigned, by the rules
pub record TargetFits (rules : Rules) (a : Found) (t : Target) : Type 0 where
  pub stores : stored_fits rules t.root t.part (map (kinded rules) t.indices) ≡ true
  pub kind_is : part_kind t.part (map (kinded rules) t.indices) ≡ a.kind
  pub plain : part_kind t.part t.indices ≡ a.kind

pub target_fits : (rules : Rules) (a : Found) (t : Target) → Stands rules a → target_form a.form ≡ Some t → TargetFits rules a t
target_fits rules a t s h =
    let f : PlaceFits rules t.root true t.part t.indices a.kind false =
    subst (λ form. FormFits rules form a.kind false) (target_is a.form t h) (subst (FormFits rules a.form a.kind) s.whole s.fits.form) in
    let r = place_read rules t.root true t.part t.indices a.kind f in
    record { stores = and_from _ _ (f.writes refl) r.fits; kind_is = r.kind_is; plain = r.plain }

set_fits : (rules : Rules) (a b c : Found) (t : Target) → TargetFits rules a t → Stands rules b → set_to a t b ≡ Some c → FoundFits rules c
set_fits rules a b c t ft sb h =
    let right = bound (fit a.kind b) _ c h in
    let k = fit_kinded rules a.kind b right.value sb.fits sb.whole right.was in
    subst (FoundFits rules) (some_same _ c right.goes) (value_fits rules _ _ (kinded-Assign rules t.root t.part t.indices right.value
    ∙ only_if_so _ _ (and_from _ _ ft.stores (ap (λ kind. is_kind kind (kinded rules right.value)) ft.kind_is ∙ kind_is a.kind (kinded rules right.value) k))
    ∙ ap Some ft.kind_is))

updated_fits : (rules : Rules) (o : AssignOp) (operator : BinaryOp) (a b c : Found) (t : Target) → operator_of o ≡ Some operator → TargetFits rules a t → Stands rules b → updated_by operator a t b ≡ Some c → FoundFits rules c
updated_fits rules o operator a b c t is ft sb h =
    let r = bound (operation operator a.kind b.kind) _ c h in
    let right = bound (fit r.value.right b) _ c r.goes in
    let goes = held (goes_to r.value.ty a.kind) _ c right.goes in
    let k = fit_kinded rules r.value.right b right.value sb.fits sb.whole right.was in
    subst (FoundFits rules) (some_same _ c (goes.1)) (value_fits rules _ _ (kinded-Update rules r.value.op r.value.ty t.root t.part t.indices right.value
    ∙ only_if_so _ _ (and_from _ _ ft.stores ((λ i. updates_by r.value.op r.value.ty (ft.kind_is i) (k i)) ∙ operation_updates o operator a.kind b.kind r.value is r.was (goes.0)))
    ∙ ap Some ft.kind_is))

stored_keeps : (rules : Rules) (o : AssignOp) (a b c : Found) (t : Target) (operator : Option BinaryOp) → operator_of o ≡ operator → TargetFits rules a t → Stands rules b → stored operator a t b ≡ Some c → FoundFits rules c
stored_keeps rules o a b c t None is ft sb h = set_fits rules a b c t ft sb h
stored_keeps rules o a b c t (Some operator) is ft sb h = updated_fits rules o operator a b c t is ft sb h

pub assign_fits : (rules : Rules) (o : AssignOp) (a b c : Found) → FoundFits rules a → FoundFits rules b → assign o a b ≡ Some c → FoundFits rules c
unfolding assign
assign_fits rules o a b c fa fb h =
    let left = bound (expression a) _ c h in
    let right = bound (expression b) _ c left.goes in
    let t = bound (target_form left.value.form) _ c right.goes in
    stored_keeps rules o left.value right.value c t.value (operator_of o) refl (target_fits rules left.value t.value (stands rules a left.value fa left.was) t.was) (stands rules b right.value fb right.was) t.goes
