use Rattle.std.proofs.Common.{◌≡◌, true, take}
use Rattle.std.specs.List.{list_all}
use Rattle.osl_valuetext.specs.Spells.{is_text}
use Rattle.osl_valuetext.proofs.laws.are_texts.Given as goal

abbrev pub invariant-loop-text : goal.invariant-loop-text
invariant-loop-text l = list_all is_text (take l.text-index l.texts) ≡ true
