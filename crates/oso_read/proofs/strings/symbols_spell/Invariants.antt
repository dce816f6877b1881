use Rattle.std.proofs.Common.{◌≡◌, true, take}
use Rattle.std.specs.List.{list_all}
use Rattle.oso_read.specs.Spelt.{symbol_spells}
use Rattle.oso_read.proofs.strings.symbols_spell.Given as goal

abbrev pub invariant-loop-symbol : goal.invariant-loop-symbol
invariant-loop-symbol l = list_all symbol_spells (take l.symbol-index l.symbols) ≡ true
