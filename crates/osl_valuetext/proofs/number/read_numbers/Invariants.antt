use Rattle.std.proofs.Common.{◌≡◌, drop}
use Rattle.osl_valuetext.specs.Literals.{each, number_at}
use Rattle.osl_valuetext.specs.Scan.{spoken}
use Rattle.osl_valuetext.proofs.Each.{behind_front}
use Rattle.osl_valuetext.proofs.number.read_numbers.Given as goal

-- the numbers so far, and those of the words left, are all
abbrev pub invariant-loop-word : goal.invariant-loop-word
invariant-loop-word l = behind_front l.numbers.items (each (number_at l.spelling l.base) (spoken (drop l.word-index l.words))) ≡ each (number_at l.spelling l.base) (spoken l.words)
