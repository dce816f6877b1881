use Rattle.std.proofs.Common.{◌≡◌, drop}
use Rattle.oso_code.specs.Ranges.{ascends}
use Rattle.oso_code.proofs.checks.ranges.ascends.Given as goal

abbrev pub invariant-loop-jump : goal.invariant-loop-jump
invariant-loop-jump l = ascends l.place (drop l.jump-index l.jumps) ≡ ascends l.fn.from l.fn.jumps
