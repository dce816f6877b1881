use Rattle.std.proofs.Common.{◌≤◌, ◌-◌, length}
use Rattle.std.specs.Prelude.{bit_or}
use Rattle.osl_bits.specs.Words.{Combined}
use Rattle.osl_bits.proofs.words.union_vectors.Given as goal

abbrev pub invariant-loop-words : goal.invariant-loop-words
invariant-loop-words l = record {
  within : l.at ≤ length l.words;
  words : Combined bit_or l.initial.words l.others l.words 0 l.at;
}

abbrev pub decreases-loop-words : goal.decreases-loop-words
decreases-loop-words l = length l.words - l.at
