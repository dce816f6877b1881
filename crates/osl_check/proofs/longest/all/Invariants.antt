use Rattle.std.proofs.Common.{◌≡◌, map, drop}
use Rattle.osl_typed.specs.Longest.{◌and◌, all_of}
use Rattle.osl_check.proofs.longest.all.Given as goal

-- the longest so far and what is still to come are all of it
abbrev pub invariant-loop-part : goal.invariant-loop-part
invariant-loop-part g l = l.longest and all_of (map g.T.Measured.longest (drop l.part-index l.parts)) ≡ all_of (map g.T.Measured.longest l.parts)
