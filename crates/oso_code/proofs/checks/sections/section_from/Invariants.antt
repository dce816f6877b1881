use Rattle.oso_code.specs.Sections.{EndBefore}
use Rattle.oso_code.proofs.checks.sections.section_from.Given as goal

abbrev pub invariant-loop-number : goal.invariant-loop-number
invariant-loop-number l = EndBefore l.sections l.number l.fn.at
