use Rattle.osl_bits.specs.Words.{Combined, word_minus}
use Rattle.osl_bits.proofs.words.minus_rest.Given as goal

abbrev pub invariant-loop-k : goal.invariant-loop-k
invariant-loop-k l = Combined word_minus l.initial.words l.others l.words l.from l.k
