use Rattle.std.proofs.Common.{◌≡◌, drop, false}
use Rattle.osl_lex.specs.Scan.{comment_end}
use Rattle.osl_lex.proofs.scan.comment_end.Given as goal

abbrev pub invariant-loop-at : goal.invariant-loop-at
invariant-loop-at l = comment_end l.at l.star (drop l.at l.inside) ≡ comment_end 0 false l.inside
