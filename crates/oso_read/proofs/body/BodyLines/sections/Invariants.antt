use Rattle.std.proofs.Common.{◌≡◌, ◌++◌, length, drop}
use Rattle.oso_read.specs.Reading.{sections_of}
use Rattle.oso_read.proofs.body.BodyLines.sections.Given as goal

-- the sections so far, and those of the starts left, are all
abbrev pub invariant-loop-at : goal.invariant-loop-at
invariant-loop-at l =
    l.sections.items ++ sections_of (drop l.at l.self.starts.items) (length l.self.ops.items) ≡ sections_of l.self.starts.items (length l.self.ops.items)
