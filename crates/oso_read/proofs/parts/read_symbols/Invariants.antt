use Rattle.std.proofs.Common.{◌≡◌, [], length}
use Rattle.oso_read.specs.Left.{left, line_after}
use Rattle.oso_read.specs.Reading.{declared_from}
use Rattle.oso_read.proofs.parts.read_symbols.Given as goal

-- the symbols so far, and those of the lines left, are all
abbrev pub invariant-loop-line : goal.invariant-loop-line
invariant-loop-line l =
    record {
      all : declared_from l.table.symbols.items (left l.reader) ≡ declared_from [] (left l.fn.reader);
      after : line_after l.reader ≡ line_after l.fn.reader;
    }

abbrev pub decreases-loop-line : goal.decreases-loop-line
decreases-loop-line l = length (left l.reader)
