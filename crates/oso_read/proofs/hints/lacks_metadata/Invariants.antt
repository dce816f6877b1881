use Rattle.std.proofs.Common.{◌≡◌, ◌==◌, drop, filter, length}
use Rattle.oso_read.specs.Hints.{is_datum}
use Rattle.osl_valuetext.specs.Scan.{spoken}
use Rattle.oso_read.proofs.hints.lacks_metadata.Given as goal

abbrev pub invariant-loop-hint : goal.invariant-loop-hint
invariant-loop-hint l =
    (length (filter is_datum (spoken (drop l.hint-index l.said.hints.now))) == 0) ≡ (length (filter is_datum (spoken l.said.hints.now)) == 0)
