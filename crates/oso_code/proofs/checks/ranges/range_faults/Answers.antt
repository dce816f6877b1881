use Rattle.std.proofs.Common.{◌≡◌, ◌+◌, ◌<◌, ◌++◌, ◌^◌, [], reverse, length, sym, ap, ◌∙◌, subst, arith}
use Rattle.oso_code.specs.Ops.{section_at}
use Rattle.oso_code.specs.Walk.{close, inside_of, open_ranges, fits_inside, section_end, or_deep}
use Rattle.oso_code.proofs.Chained.{end_before_later}
use Rattle.oso_code.proofs.RangeLoop.{Walking, walk_ends, walk_stops, walk_goes, walk_depth}
use Rattle.oso_code.proofs.checks.ranges.range_faults.Goals as goal

pub returns-then-not-fits_inside : goal.returns-then-not-fits_inside
returns-then-not-fits_inside c symbols =
    let section = c.section_in-here.ensures ∙ c.section_from-section.ensures.section in
    let end = c.section_end.ensures ∙ ap section_end section in
    let stack = ap reverse c.as_slice.ensures.value ∙ c.close.ensures in
    let inside = c.inside_of-inside.ensures ∙ ap (λ e. inside_of e (reverse c.as_slice.result.now)) end ∙ ap (inside_of (section_end (section_at c.args.sections.now c.loop-at.at))) stack in
    walk_stops symbols c.args.sections.now c.args.ops.now c.loop-at.at c.loop-at.stack.items c.loop-at.deep (c.loop-at.invariant.2 symbols) c.index-ops-at.result c.loop-at-test.true c.index-ops-at.is
    (sym (ap (λ s. fits_inside c.index-ops-at.result c.loop-at.at s c.inside_of-inside.result) section ∙ ap (fits_inside c.index-ops-at.result c.loop-at.at (section_at c.args.sections.now c.loop-at.at)) inside) ∙ sym c.if-not-fits_inside.ensures)

pub open_ranges-requires-clause-depth : goal.open_ranges-requires-clause-depth
open_ranges-requires-clause-depth c =
    let section = c.section_in-here.ensures ∙ c.section_from-section.ensures.section in
    let end = c.section_end.ensures ∙ ap section_end section in
    let stack = ap reverse c.as_slice.ensures.value ∙ c.close.ensures in
    let inside = c.inside_of-inside.ensures ∙ ap (λ e. inside_of e (reverse c.as_slice.result.now)) end ∙ ap (inside_of (section_end (section_at c.args.sections.now c.loop-at.at))) stack in
    let depth = ap (λ i. i.depth) inside in
    let low = walk_depth [] c.args.sections.now c.args.ops.now c.loop-at.at c.loop-at.stack.items c.loop-at.deep (c.loop-at.invariant.2 []) c.index-ops-at.result c.loop-at-test.true c.index-ops-at.is in
    let lt = c.loop-at-test.true in
    let few : length c.args.ops.now < 2 ^ 32 = c.requires in
    omega (arith, depth, low, lt, few)

pub loop-at-preserved : goal.loop-at-preserved
loop-at-preserved c =
    let section = c.section_in-here.ensures ∙ c.section_from-section.ensures.section in
    let end = c.section_end.ensures ∙ ap section_end section in
    let stack = ap reverse c.as_slice.ensures.value ∙ c.close.ensures in
    let inside = c.inside_of-inside.ensures ∙ ap (λ e. inside_of e (reverse c.as_slice.result.now)) end ∙ ap (inside_of (section_end (section_at c.args.sections.now c.loop-at.at))) stack in
    let op = c.index-ops-at.result in
    let grown = c.in_ok-open_ranges.ensures ∙ ap (λ i. open_ranges i c.loop-at.at op.name op.args op.jumps ++ reverse c.close.new.stack.items) inside ∙ ap (λ s. open_ranges (inside_of (section_end (section_at c.args.sections.now c.loop-at.at)) (close c.loop-at.at (reverse c.loop-at.stack.items))) c.loop-at.at op.name op.args op.jumps ++ s) c.close.ensures in
    let deep = c.or_deep-deep.ensures ∙ ap (λ i. or_deep c.loop-at.deep op i c.loop-at.at) inside in (
      c.section_from-section.ensures.within,
      end_before_later c.args.sections.now c.section_from-section.result c.loop-at.at (c.loop-at.at + 1) (omega arith) c.section_from-section.ensures.past,
      (λ symbols. subst (Walking symbols c.args.sections.now c.args.ops.now (c.loop-at.at + 1) c.open_ranges.new.stack.items) (sym deep)
          (walk_goes symbols c.args.sections.now c.args.ops.now c.loop-at.at c.loop-at.stack.items c.loop-at.deep (c.loop-at.invariant.2 symbols) op c.loop-at-test.true c.index-ops-at.is c.open_ranges.new.stack.items
          (sym (ap (λ s. fits_inside op c.loop-at.at s c.inside_of-inside.result) section ∙ ap (fits_inside op c.loop-at.at (section_at c.args.sections.now c.loop-at.at)) inside) ∙ sym c.if-not-fits_inside.ensures)
          grown)),
    )

pub returns : goal.returns
returns c symbols =
    let past = c.loop-at-test.false in
    let before = c.loop-at.auto.at-end in
    let all : c.loop-at.at ≡ length c.args.ops.now = omega (arith, past, before) in
    walk_ends symbols c.args.sections.now c.args.ops.now c.loop-at.at c.loop-at.stack.items c.loop-at.deep (c.loop-at.invariant.2 symbols) all
