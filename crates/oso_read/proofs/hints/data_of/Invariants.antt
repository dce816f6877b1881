use Rattle.std.proofs.Common.{◌≡◌, ◌++◌, drop, filter}
use Rattle.oso_read.specs.Hints.{is_datum}
use Rattle.osl_valuetext.specs.Scan.{spoken}
use Rattle.oso_read.proofs.hints.data_of.Given as goal

-- the data so far, and those of the hints left, are all
abbrev pub invariant-loop-hint : goal.invariant-loop-hint
invariant-loop-hint l = spoken l.found.items ++ filter is_datum (spoken (drop l.hint-index l.hints)) ≡ filter is_datum (spoken l.hints)
