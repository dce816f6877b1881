use Rattle.std.proofs.Common.{◌≡◌, map, drop}
use Rattle.osl_typed.specs.Measured.{cut}
use Rattle.osl_typed.specs.Seen.{seen}
use Rattle.osl_typed.specs.Sizes.{◌&◌, all_of, declared_weight}
use Rattle.osl_typed.proofs.measure.stmts.all_declared.Given as goal

-- the sum so far and what is still to come are all of it
abbrev pub invariant-loop-d : goal.invariant-loop-d
invariant-loop-d l = record {
  whole : cut (l.sum & all_of (map (declared_weight (seen l.tables)) (drop l.d-index l.ds))) ≡ cut (all_of (map (declared_weight (seen l.tables)) l.ds));
  small : cut l.sum ≡ l.sum;
}
