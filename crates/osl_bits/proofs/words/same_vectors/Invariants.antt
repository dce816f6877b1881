use Rattle.std.proofs.Common.{◌≤◌, ◌-◌, length}
use Rattle.osl_bits.specs.Words.{SameWords}
use Rattle.osl_bits.proofs.words.same_vectors.Given as goal

abbrev pub invariant-loop-at : goal.invariant-loop-at
invariant-loop-at l = record {
  within : l.at ≤ length l.words;
  same : SameWords l.words l.others 0 l.at;
}

abbrev pub decreases-loop-at : goal.decreases-loop-at
decreases-loop-at l = length l.words - l.at
