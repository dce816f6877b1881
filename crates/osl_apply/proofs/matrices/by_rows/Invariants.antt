use Rattle.std.proofs.Common.{◌≡◌, ℕ, ◌<◌, length}
use Rattle.osl_value.specs.Geometry.{number_at}
use Rattle.osl_apply.specs.Operands.{numbers_held}
use Rattle.osl_apply.proofs.matrices.by_rows.Given as goal

abbrev pub invariant-loop-k : goal.invariant-loop-k
invariant-loop-k l = record {
  count : length l.matrix ≡ 16;
  filled : (j : ℕ) → j < l.k → number_at l.matrix j ≡ number_at (numbers_held l.slots l.sources) j;
}
