use Rattle.std.proofs.Common.{◌≡◌, drop}
use Rattle.osl_valuetext.specs.Literals.{each}
use Rattle.oso_read.specs.Reading.{symbol_number}
use Rattle.osl_valuetext.specs.Scan.{spoken}
use Rattle.osl_valuetext.proofs.Each.{behind_front}
use Rattle.oso_read.proofs.owner.numbers_of.Given as goal

-- the numbers so far, and those of the names left, are all
abbrev pub invariant-loop-name : goal.invariant-loop-name
invariant-loop-name l =
    behind_front l.numbers.items (each (symbol_number l.table.symbols.items) (spoken (drop l.name-index l.names))) ≡ each (symbol_number l.table.symbols.items) (spoken l.names)
