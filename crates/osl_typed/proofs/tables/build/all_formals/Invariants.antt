use Rattle.std.proofs.Common.{◌≡◌, map, drop}
use Rattle.osl_typed.specs.Measured.{cut}
use Rattle.osl_typed.specs.Sizes.{◌&◌, all_of, formal_weight}
use Rattle.osl_typed.proofs.tables.build.all_formals.Given as goal

-- the sum so far and what is still to come are all of it
abbrev pub invariant-loop-f : goal.invariant-loop-f
invariant-loop-f l = record {
  whole : cut (l.sum & all_of (map (formal_weight l.tables.structures.now) (drop l.f-index l.formals))) ≡ cut (all_of (map (formal_weight l.tables.structures.now) l.formals));
  small : cut l.sum ≡ l.sum;
}
