use Rattle.std.proofs.Common.{◌≡◌, None, arith}
use Rattle.std.proofs.lemmas.Grind.{common_steps}
use Rattle.osl_typed.specs.FileTyping.{fields_added}
use Rattle.osl_check.specs.FileParts.{field_added}
use Rattle.osl_check.proofs.FileWalks.{fields_carried}
use Rattle.osl_check.proofs.Walks.{carry_more, carry_stops, carry_ends}
use Rattle.osl_check.proofs.definitions.add_fields.Goals as goal

pub returns-in_err-add_field : goal.returns-in_err-add_field
returns-in_err-add_field c =
    let stops : field_added c.plain_kind-plain.result c.item-item.result c.loop-item.fields ≡ None → fields_added c.args.structures.now c.args.ty.now c.args.items.now c.args.fields.now ≡ None =
    carry_stops _ _ (fields_carried c.args.structures.now c.args.ty.now c.plain_kind-plain.result c.plain_kind-plain.ensures) c.args.items.now c.loop-item.item-index c.item-item.result c.loop-item.fields _ c.loop-item-test.true c.item-item.is c.loop-item.invariant in
    grind (arith, common_steps, stops)

pub loop-item-preserved : goal.loop-item-preserved
loop-item-preserved c =
    carry_more _ _ (fields_carried c.args.structures.now c.args.ty.now c.plain_kind-plain.result c.plain_kind-plain.ensures) c.args.items.now c.loop-item.item-index c.item-item.result c.loop-item.fields c.add_field.new.fields _ c.loop-item-test.true c.item-item.is c.in_ok-add_field.ensures c.loop-item.invariant

pub returns : goal.returns
returns c = carry_ends _ _ (fields_carried c.args.structures.now c.args.ty.now c.plain_kind-plain.result c.plain_kind-plain.ensures) c.args.items.now c.loop-item.item-index c.loop-item.fields _ c.loop-item-test.false c.loop-item.invariant
