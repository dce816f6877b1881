use Rattle.std.specs.Prelude.{bit_or}
use Rattle.osl_bits.specs.Words.{Combined}
use Rattle.osl_bits.proofs.words.union_rest.Given as goal

abbrev pub invariant-loop-k : goal.invariant-loop-k
invariant-loop-k l = Combined bit_or l.initial.words l.others l.words l.from l.k
