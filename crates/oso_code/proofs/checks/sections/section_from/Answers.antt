use Rattle.std.proofs.Common.{◌≡◌, length, subst, arith}
use Rattle.oso_code.specs.Sections.{EndBefore}
use Rattle.oso_code.proofs.Chained.{walk_here, walk_end, walk_on}
use Rattle.oso_code.proofs.checks.sections.section_from.Goals as goal

pub returns-then-at-sections-clause-section : goal.returns-then-at-sections-clause-section
returns-then-at-sections-clause-section c = walk_here c.args.sections.now c.loop-number.number c.args.at _ c.loop-number.invariant c.if-at-sections.true

pub loop-number-preserved : goal.loop-number-preserved
loop-number-preserved c = walk_on c.args.sections.now c.loop-number.number c.args.at _ c.loop-number.invariant c.if-at-sections.false

pub returns-clause-section : goal.returns-clause-section
returns-clause-section c =
    let past = c.loop-number-test.false in
    let end = c.loop-number.auto.number-end in
    let e : c.loop-number.number ≡ length c.args.sections.now = omega (arith, past, end c.requires.within) in
    walk_end c.args.sections.now c.args.at (subst (λ n. EndBefore c.args.sections.now n c.args.at) e c.loop-number.invariant)
