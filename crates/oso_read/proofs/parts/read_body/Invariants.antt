use Rattle.std.proofs.Common.{◌≡◌, length}
use Rattle.oso_read.specs.BodyLines.{body_of}
use Rattle.oso_read.specs.Left.{left, line_after}
use Rattle.oso_read.specs.Reading.{empty_body, filled_from}
use Rattle.oso_read.proofs.parts.read_body.Given as goal

-- the sections and ops so far, and those of the lines left, are all
abbrev pub invariant-loop-line : goal.invariant-loop-line
invariant-loop-line l =
    record {
      all : filled_from l.kind l.table.symbols.items (body_of l.body) (left l.reader) ≡ filled_from l.kind l.table.symbols.items empty_body (left l.fn.reader);
      after : line_after l.reader ≡ line_after l.fn.reader;
    }

abbrev pub decreases-loop-line : goal.decreases-loop-line
decreases-loop-line l = length (left l.reader)
