use Rattle.std.proofs.Common.{◌≡◌, map, drop}
use Rattle.osl_typed.specs.Longest.{◌and◌, all_of, in_stmt}
use Rattle.osl_check.proofs.longest.+walking.Given as goal

-- the longest so far and what is still to come are all of it
abbrev pub invariant-body-loop-s : goal.invariant-body-loop-s
invariant-body-loop-s l = l.longest and all_of (map in_stmt (drop l.s-index l.statements)) ≡ all_of (map in_stmt l.statements)
