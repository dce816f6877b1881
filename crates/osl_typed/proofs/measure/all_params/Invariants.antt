use Rattle.std.proofs.Common.{◌≡◌, map, drop}
use Rattle.osl_typed.specs.Measured.{cut}
use Rattle.osl_typed.specs.Seen.{seen}
use Rattle.osl_typed.specs.Sizes.{◌&◌, all_of, param_weight}
use Rattle.osl_typed.proofs.measure.all_params.Given as goal

-- the sum so far and what is still to come are all of it
abbrev pub invariant-loop-p : goal.invariant-loop-p
invariant-loop-p l = record {
  whole : cut (l.sum & all_of (map (param_weight (seen l.tables)) (drop l.p-index l.params))) ≡ cut (all_of (map (param_weight (seen l.tables)) l.params));
  small : cut l.sum ≡ l.sum;
}
