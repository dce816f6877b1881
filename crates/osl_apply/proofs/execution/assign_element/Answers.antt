use Rattle.std.proofs.Common.{◌≡◌, ◌∷◌, [], true, set, get_or, refl, sym, ap, subst, ◌∙◌, arith}
use Rattle.osl_value.specs.declared.op_name.OpName.TheVariants.{AAssign}
use Rattle.osl_value.specs.AnyValue.{type_of}
use Rattle.osl_value.specs.Apply.{apply}
use Rattle.osl_apply.specs.Operands.{values, held, held_all, takes}
use Rattle.osl_apply.proofs.Holding.{length_held, three_held, first_is, below_at}
use Rattle.osl_apply.proofs.Special.{three_for_element}
use Rattle.osl_apply.proofs.execution.assign_element.Goals as goal

pub bounds-sources-1 : goal.bounds-sources-1
bounds-sources-1 c =
    let n = sym (length_held c.args.slots.now c.args.sources.now) ∙ three_for_element (type_of (held c.args.slots.now c.args.target)) (held_all c.args.slots.now c.args.sources.now) c.requires.takes in
    omega (arith, n)

pub bounds-sources-2 : goal.bounds-sources-2
bounds-sources-2 c =
    let n = sym (length_held c.args.slots.now c.args.sources.now) ∙ three_for_element (type_of (held c.args.slots.now c.args.target)) (held_all c.args.slots.now c.args.sources.now) c.requires.takes in
    omega (arith, n)

pub assign_at-requires-clause-index : goal.assign_at-requires-clause-index
assign_at-requires-clause-index c =
    let n = sym (length_held c.args.slots.now c.args.sources.now) ∙ three_for_element (type_of (held c.args.slots.now c.args.target)) (held_all c.args.slots.now c.args.sources.now) c.requires.takes in
    below_at _ c.args.sources.now 1 c.requires.places (omega (arith, n))

pub assign_at-requires-clause-element : goal.assign_at-requires-clause-element
assign_at-requires-clause-element c =
    let n = sym (length_held c.args.slots.now c.args.sources.now) ∙ three_for_element (type_of (held c.args.slots.now c.args.target)) (held_all c.args.slots.now c.args.sources.now) c.requires.takes in
    below_at _ c.args.sources.now 2 c.requires.places (omega (arith, n))

pub assign_at-requires-clause-takes : goal.assign_at-requires-clause-takes
assign_at-requires-clause-takes c =
    let slots = c.args.slots.now in
    let sources = c.args.sources.now in
    let n = sym (length_held slots sources) ∙ three_for_element (type_of (held slots c.args.target)) (held_all slots sources) c.requires.takes in
    subst (λ args. takes AAssign (type_of (held slots c.args.target)) args ≡ true)
    (three_held slots sources n ∙ ap (λ k. held slots k ∷ held slots (get_or sources 1 0) ∷ held slots (get_or sources 2 0) ∷ []) (first_is c.args.target sources (c.requires.updates refl)))
    c.requires.takes

pub returns : goal.returns
returns c =
    let slots = c.args.slots.now in
    let sources = c.args.sources.now in
    let n = sym (length_held slots sources) ∙ three_for_element (type_of (held slots c.args.target)) (held_all slots sources) c.requires.takes in
    c.in_ok-assign_at.ensures
    ∙ ap (λ args. set (values slots) c.args.target (apply AAssign (type_of (held slots c.args.target)) args))
    (sym (three_held slots sources n ∙ ap (λ k. held slots k ∷ held slots (get_or sources 1 0) ∷ held slots (get_or sources 2 0) ∷ []) (first_is c.args.target sources (c.requires.updates refl))))
