use Rattle.std.proofs.Common.{◌≡◌, ◌+◌, drop}
use Rattle.std.specs.List.{position_or_len}
use Rattle.osl_valuetext.specs.Scan.{spoken}
use Rattle.osl_grouptext.specs.Reading.{is_semicolon}
use Rattle.osl_grouptext.proofs.read.semicolon.Given as goal

abbrev pub invariant-loop-at : goal.invariant-loop-at
invariant-loop-at l = l.at + position_or_len is_semicolon (spoken (drop l.at l.words)) ≡ position_or_len is_semicolon (spoken l.words)
