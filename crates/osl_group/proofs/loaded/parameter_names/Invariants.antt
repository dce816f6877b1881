use Rattle.std.proofs.Common.{◌≡◌, take}
use Rattle.osl_group.proofs.Parameters.{names_in}
use Rattle.osl_group.proofs.loaded.parameter_names.Given as goal

-- the names of the parameters among the symbols so far
abbrev pub invariant-loop-symbol : goal.invariant-loop-symbol
invariant-loop-symbol l = l.names ≡ names_in (take l.symbol-index l.symbol-items)
