use Rattle.std.proofs.Common.{arith, ap, sym, ◌∙◌}
use Rattle.osl_typed.specs.Measured.{cut}
use Rattle.osl_typed.specs.Sizes.{◌&◌}
use Rattle.osl_typed.proofs.Weights.{one_field, no_field, all_summed, cut_twice}
use Rattle.osl_typed.proofs.tables.Tables.fields.Goals as goal

pub loop-field-preserved : goal.loop-field-preserved
loop-field-preserved c = record {
  whole = one_field c.args.self.now.structures.now c.args.holds_value c.loop-field.kind c.field_kind-kind.result c.args.fields.now c.loop-field.field-index c.loop-field.sum c.node.result c.and-sum.result _
      (omega arith) c.field_kind-kind.ensures c.node.ensures c.and-sum.ensures c.loop-field.invariant.whole;
  small = ap cut c.and-sum.ensures ∙ cut_twice (c.loop-field.sum & c.node.result) ∙ sym c.and-sum.ensures;
}

pub returns : goal.returns
returns c = all_summed c.loop-field.sum _ c.loop-field.invariant.small
    (ap (λ w. cut (c.loop-field.sum & w)) (sym (no_field c.args.self.now.structures.now c.args.holds_value c.loop-field.kind c.args.fields.now c.loop-field.field-index (omega arith))) ∙ c.loop-field.invariant.whole)
