use Rattle.std.proofs.Common.{◌≡◌, map, drop}
use Rattle.osl_typed.specs.Longest.{◌and◌, all_of, in_expr}
use Rattle.osl_check.proofs.longest.+measuring.Given as goal

-- the longest so far and what is still to come are all of it
abbrev pub invariant-exprs-loop-item : goal.invariant-exprs-loop-item
invariant-exprs-loop-item l = l.longest and all_of (map in_expr (drop l.item-index l.items)) ≡ all_of (map in_expr l.items)
