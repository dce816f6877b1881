use Rattle.std.proofs.Common.{◌≡◌, reverse, length}
use Rattle.oso_code.specs.Walk.{close}
use Rattle.oso_code.proofs.checks.ranges.close.Given as goal

abbrev pub invariant-loop-range : goal.invariant-loop-range
invariant-loop-range l = close l.at (reverse l.stack.items) ≡ close l.fn.at (reverse l.fn.stack.items)

abbrev pub decreases-loop-range : goal.decreases-loop-range
decreases-loop-range l = length l.stack.items
