use Rattle.std.proofs.Common.{◌≡◌, drop}
use Rattle.osl_valuetext.specs.Literals.{each, text_at}
use Rattle.osl_valuetext.specs.Scan.{spoken}
use Rattle.osl_valuetext.proofs.Each.{behind_front}
use Rattle.osl_valuetext.proofs.values.texts_at.Given as goal

-- the strings so far, and those of the words left, are all
abbrev pub invariant-loop-word : goal.invariant-loop-word
invariant-loop-word l = behind_front l.texts.items (each text_at (spoken (drop l.word-index l.words))) ≡ each text_at (spoken l.words)
