use Rattle.std.proofs.Common.{◌≡◌, drop}
use Rattle.std.specs.List.{list_all}
use Rattle.oso_read.specs.Hints.{is_hint}
use Rattle.osl_valuetext.specs.Scan.{spoken}
use Rattle.oso_read.proofs.hints.are_hints.Given as goal

abbrev pub invariant-loop-word : goal.invariant-loop-word
invariant-loop-word l = list_all is_hint (spoken (drop l.word-index l.words)) ≡ list_all is_hint (spoken l.words)
