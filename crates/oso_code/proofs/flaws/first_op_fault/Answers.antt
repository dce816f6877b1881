use Rattle.std.proofs.Common.{sym, ◌∙◌}
use Rattle.oso_code.specs.Faults.{misfits, least, sooner}
use Rattle.oso_code.specs.Ops.{op_in_fits, op_at_fits}
use Rattle.oso_code.specs.Sections.{section_faults}
use Rattle.oso_code.proofs.Places.{least_append}
use Rattle.oso_code.proofs.flaws.first_op_fault.Goals as goal

pub returns : goal.returns
returns c =
    let raw = c.args.raw.now in
    let op = c.first_wrong_op-op.ensures ∙ (λ i. least (misfits (op_in_fits raw.kind (c.as_slice-symbols.ensures i) (c.as_slice.ensures i)) 0 (c.as_slice-2.ensures i))) in
    c.sooner_of.ensures
    ∙ (λ i. sooner (op i) (c.in_ok-section.ensures i))
    ∙ sym (least_append (misfits (op_at_fits raw) 0 raw.ops) (section_faults raw raw.sections))
