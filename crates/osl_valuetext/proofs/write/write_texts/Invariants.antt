use Rattle.std.proofs.Common.{◌≡◌, ◌++◌, map, take}
use Rattle.osl_valuetext.specs.Words.{behind, string_text}
use Rattle.osl_valuetext.proofs.write.write_texts.Given as goal

abbrev pub invariant-loop-text : goal.invariant-loop-text
invariant-loop-text l = l.out.items ≡ l.fn.out.items ++ behind 32 (map string_text (take l.text-index l.texts))
