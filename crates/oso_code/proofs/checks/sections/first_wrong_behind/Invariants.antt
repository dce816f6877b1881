use Rattle.std.proofs.Common.{◌≡◌, drop}
use Rattle.oso_code.proofs.SectionWalk.{with_behind}
use Rattle.oso_code.proofs.checks.sections.first_wrong_behind.Given as goal

abbrev pub invariant-loop-section : goal.invariant-loop-section
invariant-loop-section l =
    with_behind l.fn.raw l.found l.before (drop l.section-index l.fn.others) ≡ with_behind l.fn.raw l.fn.found l.fn.first l.fn.others
