use Rattle.std.proofs.Common.{ap, ◌∙◌}
use Rattle.osl_typed.specs.Measured.{cut}
use Rattle.osl_typed.specs.Sizes.{held, selections, selected_types}
use Rattle.osl_typed.proofs.Weights.{variable_sum}
use Rattle.osl_typed.proofs.tables.Tables.variable.Goals as goal

pub returns : goal.returns
returns c = variable_sum c.args.self.now.structures.now c.args.self.now.kinds.now c.args.root c.args.part.now _ c.root_kind-from.result c.as_slice.result.now
    c.bare.result c.fields.result c.and.result c.held.result c.and-2.result c.selected.result c.and-3.result
    c.root_kind-from.ensures c.as_slice.ensures c.bare.ensures c.fields.ensures c.and.ensures
    (c.held.ensures ∙ ap (λ n. cut (held c.args.self.now.structures.now c.args.part.now.kind (selected_types c.args.part.now.kind n))) c.depth_of-depth.ensures) c.and-2.ensures
    (c.selected.ensures ∙ ap (λ n. cut (selections c.args.self.now.structures.now (selected_types c.args.part.now.kind n))) c.depth_of-depth.ensures) c.and-3.ensures
