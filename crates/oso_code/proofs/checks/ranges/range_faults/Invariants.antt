use Rattle.std.proofs.Common.{◌≤◌, length, List}
use Rattle.oso_code.specs.declared.symbol.Symbol.{Symbol}
use Rattle.oso_code.specs.Sections.{EndBefore}
use Rattle.oso_code.proofs.RangeLoop.{Walking}
use Rattle.oso_code.proofs.checks.ranges.range_faults.Given as goal

abbrev pub invariant-loop-at : goal.invariant-loop-at
invariant-loop-at l =
    (l.section ≤ length l.sections)
    × EndBefore l.sections l.section l.at
    × ((symbols : List Symbol) → Walking symbols l.sections l.ops l.at l.stack.items l.deep)
