use Rattle.std.proofs.Common.{◌≡◌, drop, false}
use Rattle.osl_lex.specs.Scan.{string_end}
use Rattle.osl_lex.proofs.scan.string_end.Given as goal

abbrev pub invariant-loop-at : goal.invariant-loop-at
invariant-loop-at l = string_end l.at l.escaped (drop l.at l.inside) ≡ string_end 0 false l.inside
