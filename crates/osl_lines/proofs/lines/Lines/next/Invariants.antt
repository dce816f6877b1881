use Rattle.std.proofs.Common.{◌≡◌, ◌+◌, length}
use Rattle.std.specs.Str.Lines.{lines}
use Rattle.osl_lines.specs.Lines.{meant_from}
use Rattle.osl_lines.proofs.lines.Lines.next.Given as goal

-- what was passed over means nothing
abbrev pub invariant-loop-comments : goal.invariant-loop-comments
invariant-loop-comments l =
    record {
      same : meant_from l.comments l.self.number l.self.rest.now ≡ meant_from l.comments l.fn.self.number l.fn.self.rest.now;
      counted : l.self.number + length (lines l.self.rest.now) ≡ l.fn.self.number + length (lines l.fn.self.rest.now);
    }

abbrev pub decreases-loop-comments : goal.decreases-loop-comments
decreases-loop-comments l = length l.self.rest.now
