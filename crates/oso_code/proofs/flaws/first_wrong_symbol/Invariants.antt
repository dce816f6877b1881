use Rattle.oso_code.proofs.Naming.{Passed}
use Rattle.oso_code.proofs.flaws.first_wrong_symbol.Given as goal

abbrev pub invariant-loop-at : goal.invariant-loop-at
invariant-loop-at l = Passed l.symbols l.at l.names.keys l.leading
