use Rattle.std.proofs.Common.{◌≡◌, map, drop}
use Rattle.osl_typed.specs.Measured.{cut}
use Rattle.osl_typed.specs.Seen.{seen}
use Rattle.osl_typed.specs.Sizes.{◌&◌, all_of, weight_done}
use Rattle.osl_typed.proofs.measure.stmts.+stepping.Given as goal

-- the sum so far and what is still to come are all of it
abbrev pub invariant-body-loop-s : goal.invariant-body-loop-s
invariant-body-loop-s l = record {
  whole : cut (l.sum & all_of (map (weight_done (seen l.tables)) (drop l.s-index l.statements))) ≡ cut (all_of (map (weight_done (seen l.tables)) l.statements));
  small : cut l.sum ≡ l.sum;
}
