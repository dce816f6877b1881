use Rattle.osl_bits.specs.Words.{SameWords}
use Rattle.osl_bits.proofs.words.equal_rest.Given as goal

abbrev pub invariant-loop-k : goal.invariant-loop-k
invariant-loop-k l = SameWords l.words l.others l.from l.k
