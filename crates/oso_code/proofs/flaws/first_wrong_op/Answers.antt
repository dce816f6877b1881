use Rattle.std.proofs.Common.{◌+◌, sym, ap, ◌∙◌, arith}
use Rattle.oso_code.specs.Ops.{owner_of, op_fits, op_in_fits}
use Rattle.oso_code.proofs.Firsts.{stops_here, goes_on, all_fit_to}
use Rattle.oso_code.proofs.Chained.{end_before_later}
use Rattle.oso_code.proofs.flaws.first_wrong_op.Goals as goal

pub returns-then-not-op_fits : goal.returns-then-not-op_fits
returns-then-not-op_fits c =
    let owner = c.owner_in.ensures ∙ ap owner_of c.section_from-section.ensures.section in
    stops_here (op_in_fits c.args.kind c.args.symbols.now c.args.sections.now) c.args.ops.now c.loop-at.at c.index-ops-at.result c.loop-at.invariant.2 c.loop-at-test.true c.index-ops-at.is
    (ap (λ o. op_fits c.args.kind c.args.symbols.now o c.index-ops-at.result) (sym owner) ∙ sym c.if-not-op_fits.ensures)

pub loop-at-preserved : goal.loop-at-preserved
loop-at-preserved c =
    let owner = c.owner_in.ensures ∙ ap owner_of c.section_from-section.ensures.section in (
      c.section_from-section.ensures.within,
      end_before_later c.args.sections.now c.section_from-section.result c.loop-at.at (c.loop-at.at + 1) (omega arith) c.section_from-section.ensures.past,
      goes_on (op_in_fits c.args.kind c.args.symbols.now c.args.sections.now) c.args.ops.now c.loop-at.at c.index-ops-at.result c.loop-at.invariant.2 c.loop-at-test.true c.index-ops-at.is
          (ap (λ o. op_fits c.args.kind c.args.symbols.now o c.index-ops-at.result) (sym owner) ∙ sym c.if-not-op_fits.ensures),
    )

pub returns : goal.returns
returns c = all_fit_to (op_in_fits c.args.kind c.args.symbols.now c.args.sections.now) c.args.ops.now c.loop-at.at c.loop-at.invariant.2 c.loop-at-test.false
