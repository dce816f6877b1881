use Rattle.std.proofs.Common.{◌≡◌, ◌+◌, length}
use Rattle.std.specs.Str.Lines.{lines}
use Rattle.oso_read.specs.Text.{told_from}
use Rattle.oso_read.proofs.lines.Lines.next.Given as goal

-- what was passed over means nothing
abbrev pub invariant-loop-line : goal.invariant-loop-line
invariant-loop-line l =
    record {
      same : told_from l.self.number l.self.rest.now ≡ told_from l.fn.self.number l.fn.self.rest.now;
      counted : l.self.number + length (lines l.self.rest.now) ≡ l.fn.self.number + length (lines l.fn.self.rest.now);
    }

abbrev pub decreases-loop-line : goal.decreases-loop-line
decreases-loop-line l = length l.self.rest.now
