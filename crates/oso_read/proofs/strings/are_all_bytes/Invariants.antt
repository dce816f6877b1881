use Rattle.std.proofs.Common.{◌≡◌, true, take}
use Rattle.std.specs.List.{list_all}
use Rattle.osl_valuetext.specs.Spells.{are_bytes}
use Rattle.oso_read.proofs.strings.are_all_bytes.Given as goal

abbrev pub invariant-loop-text : goal.invariant-loop-text
invariant-loop-text l = list_all are_bytes (take l.text-index l.texts) ≡ true
