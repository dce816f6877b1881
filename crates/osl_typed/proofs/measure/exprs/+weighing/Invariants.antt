use Rattle.std.proofs.Common.{◌≡◌, map, drop}
use Rattle.osl_typed.specs.Measured.{cut}
use Rattle.osl_typed.specs.Seen.{seen}
use Rattle.osl_typed.specs.Sizes.{◌&◌, all_of, weight, weight_passed}
use Rattle.osl_typed.proofs.measure.exprs.+weighing.Given as goal

-- the sum so far and what is still to come are all of it
abbrev pub invariant-all-loop-item : goal.invariant-all-loop-item
invariant-all-loop-item l = record {
  whole : cut (l.sum & all_of (map (weight (seen l.tables)) (drop l.item-index l.items))) ≡ cut (all_of (map (weight (seen l.tables)) l.items));
  small : cut l.sum ≡ l.sum;
}

abbrev pub invariant-passed-loop-arg : goal.invariant-passed-loop-arg
invariant-passed-loop-arg l = record {
  whole : cut (l.sum & all_of (map (weight_passed (seen l.tables)) (drop l.arg-index l.args))) ≡ cut (all_of (map (weight_passed (seen l.tables)) l.args));
  small : cut l.sum ≡ l.sum;
}
