use Rattle.std.proofs.Common.{set, sym, ap, ◌∙◌}
use Rattle.std.proofs.lemmas.List.{map-set}
use Rattle.osl_value.specs.AnyValue.{type_of}
use Rattle.osl_value.specs.Apply.{apply}
use Rattle.osl_value.specs.declared.types.Base.TheVariants.{Matrix}
use Rattle.osl_value.specs.Types.{only}
use Rattle.osl_value.proofs.SameTypes.{same_type-true}
use Rattle.osl_apply.specs.Slots.{seen}
use Rattle.osl_apply.specs.Operands.{values, held_all}
use Rattle.osl_apply.proofs.Holding.{held_is}
use Rattle.osl_apply.proofs.execution.execute.Goals as goal

pub returns-then-is_matrix : goal.returns-then-is_matrix
returns-then-is_matrix c =
    let slots = c.args.slots.now in
    let args = held_all slots c.args.sources.now in
    let ty_is = c.ty-ty.ensures.value ∙ ap type_of (sym (held_is slots c.args.target c.index-slots-target.result c.requires.target)) in
    let matrix_is = same_type-true c.ty-ty.result (only Matrix) (sym c.if-is_matrix.ensures) in
    map-set seen slots c.args.target c.write_matrix.new.slot
    ∙ ap (λ x. set (values slots) c.args.target x)
    (c.in_ok-write_matrix.ensures ∙ c.matrix-floats.ensures ∙ ap (λ ty. apply c.args.name ty args) (sym matrix_is ∙ ty_is))

pub returns : goal.returns
returns c =
    let slots = c.args.slots.now in
    let args = held_all slots c.args.sources.now in
    let ty_is = c.ty-ty.ensures.value ∙ ap type_of (sym (held_is slots c.args.target c.index-slots-target.result c.requires.target)) in
    map-set seen slots c.args.target c.in_ok-value.value ∙ ap (λ x. set (values slots) c.args.target x) (c.in_ok-value.ensures ∙ ap (λ ty. apply c.args.name ty args) ty_is)
