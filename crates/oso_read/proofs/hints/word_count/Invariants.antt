use Rattle.std.proofs.Common.{◌≡◌, ◌+◌, drop}
use Rattle.oso_read.specs.Hints.{word_count}
use Rattle.osl_valuetext.specs.Scan.{spoken}
use Rattle.oso_read.proofs.hints.word_count.Given as goal

abbrev pub invariant-loop-at : goal.invariant-loop-at
invariant-loop-at l = l.at + word_count (spoken (drop l.at l.line)) ≡ word_count (spoken l.line)
