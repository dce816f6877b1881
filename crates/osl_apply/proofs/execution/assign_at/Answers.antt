use Rattle.std.proofs.Common.{◌≡◌, ◌≤◌, ◌<◌, true, set, get_or, sym, ap, subst, ◌∙◌, rules, w32, to_z, of_z}
use Rattle.std.proofs.lemmas.Int.{to_z-of_z}
use Rattle.std.proofs.lemmas.List.{map-set}
use Rattle.osl_value.specs.declared.types.Ty.{Ty}
use Rattle.osl_value.specs.AnyValue.{type_of, is_array, element_type, with_element}
use Rattle.osl_value.specs.Forms.{AnInt, fits, seen_of}
use Rattle.osl_value.specs.Geometry.{place}
use Rattle.osl_apply.specs.Elements.{element_value}
use Rattle.osl_apply.specs.Slots.{seen}
use Rattle.osl_apply.specs.Operands.{values, held}
use Rattle.osl_apply.proofs.ArrayParts.{some_items, place_below}
use Rattle.osl_apply.proofs.Forms.{int_seen}
use Rattle.osl_apply.proofs.Holding.{held_is}
use Rattle.osl_apply.proofs.Special.{new_element}
use Rattle.osl_apply.proofs.execution.assign_at.Goals as goal

pub int-requires : goal.int-requires
int-requires c =
    subst (λ v. fits AnInt (type_of v) ≡ true) (held_is c.args.slots.now c.args.index c.index-slots-index.result c.requires.index) (new_element (type_of (held c.args.slots.now c.args.target)) (held c.args.slots.now c.args.target) (held c.args.slots.now c.args.index) (held c.args.slots.now c.args.element) c.requires.takes).index

pub place-place-requires-clause-some : goal.place-place-requires-clause-some
place-place-requires-clause-some c =
    subst (λ (t : Ty). 1 ≤ t.len) (sym (c.ty-ty.ensures.value ∙ ap type_of (sym (held_is c.args.slots.now c.args.target c.index-slots-target.result c.requires.target)))) (some_items (type_of (held c.args.slots.now c.args.target)) (new_element (type_of (held c.args.slots.now c.args.target)) (held c.args.slots.now c.args.target) (held c.args.slots.now c.args.index) (held c.args.slots.now c.args.element) c.requires.takes).array)

pub element_in-requires-clause-element : goal.element_in-requires-clause-element
element_in-requires-clause-element c =
    ap type_of (sym (held_is c.args.slots.now c.args.element c.index-slots-element.result c.requires.element)) ∙ (new_element (type_of (held c.args.slots.now c.args.target)) (held c.args.slots.now c.args.target) (held c.args.slots.now c.args.index) (held c.args.slots.now c.args.element) c.requires.takes).element ∙ ap element_type (sym (c.ty-ty.ensures.value ∙ ap type_of (sym (held_is c.args.slots.now c.args.target c.index-slots-target.result c.requires.target))))

pub element_in-requires-clause-array : goal.element_in-requires-clause-array
element_in-requires-clause-array c =
    subst (λ t. is_array t ≡ true) (sym (c.ty-ty.ensures.value ∙ ap type_of (sym (held_is c.args.slots.now c.args.target c.index-slots-target.result c.requires.target)))) (new_element (type_of (held c.args.slots.now c.args.target)) (held c.args.slots.now c.args.target) (held c.args.slots.now c.args.index) (held c.args.slots.now c.args.element) c.requires.takes).array

pub write_in-requires-clause-array : goal.write_in-requires-clause-array
write_in-requires-clause-array c =
    subst (λ v. is_array (type_of v) ≡ true) (held_is c.args.slots.now c.args.target c.index-slots-target-2.result c.requires.target) (new_element (type_of (held c.args.slots.now c.args.target)) (held c.args.slots.now c.args.target) (held c.args.slots.now c.args.index) (held c.args.slots.now c.args.element) c.requires.takes).array

pub write_in-requires-clause-place : goal.write_in-requires-clause-place
write_in-requires-clause-place c =
    let old = held_is c.args.slots.now c.args.target c.index-slots-target-2.result c.requires.target in
    let below = place_below (to_z w32 (of_z w32 c.int.result)) c.ty-ty.result.len (subst (λ (t : Ty). 1 ≤ t.len) (sym (c.ty-ty.ensures.value ∙ ap type_of (sym (held_is c.args.slots.now c.args.target c.index-slots-target.result c.requires.target)))) (some_items (type_of (held c.args.slots.now c.args.target)) (new_element (type_of (held c.args.slots.now c.args.target)) (held c.args.slots.now c.args.target) (held c.args.slots.now c.args.index) (held c.args.slots.now c.args.element) c.requires.takes).array)) in
    subst (λ n. n < (type_of (seen (get_or c.args.slots.now c.args.target c.index-slots-target-2.result))).len) (sym c.place-place.ensures)
    (subst (λ (t : Ty). place (to_z w32 (of_z w32 c.int.result)) c.ty-ty.result.len < t.len) ((c.ty-ty.ensures.value ∙ ap type_of (sym (held_is c.args.slots.now c.args.target c.index-slots-target.result c.requires.target))) ∙ ap type_of old) below)

pub returns : goal.returns
returns c =
    let slots = c.args.slots.now in
    let old = held_is slots c.args.target c.index-slots-target-2.result c.requires.target in
    let e = (new_element (type_of (held c.args.slots.now c.args.target)) (held c.args.slots.now c.args.target) (held c.args.slots.now c.args.index) (held c.args.slots.now c.args.element) c.requires.takes) in
    let at_place = c.place-place.ensures
    ∙ ap (λ n. place n c.ty-ty.result.len) (to_z-of_z w32 c.int.result (search rules) ∙ int_seen _ _ c.int.ensures ∙ ap (seen_of AnInt) (sym (held_is slots c.args.index c.index-slots-index.result c.requires.index)))
    ∙ ap (λ (t : Ty). place (seen_of AnInt (held slots c.args.index)) t.len) (c.ty-ty.ensures.value ∙ ap type_of (sym (held_is c.args.slots.now c.args.target c.index-slots-target.result c.requires.target))) in
    let new = sym c.in_ok-new.ensures.value ∙ sym (held_is slots c.args.element c.index-slots-element.result c.requires.element) in
    let base_is = ap (λ (t : Ty). t.base) (sym (ap type_of old) ∙ sym (c.ty-ty.ensures.value ∙ ap type_of (sym (held_is c.args.slots.now c.args.target c.index-slots-target.result c.requires.target)))) in
    map-set seen slots c.args.target c.write_in.new.slot
    ∙ ap (λ x. set (values slots) c.args.target x)
    (c.in_ok-write_in.ensures ∙ (λ i. with_element (sym old i) (at_place i) (element_value (base_is i) c.in_ok-new.new)) ∙ ap (with_element (held slots c.args.target) (place (seen_of AnInt (held slots c.args.index)) (type_of (held slots c.args.target)).len)) new ∙ sym e.value)
