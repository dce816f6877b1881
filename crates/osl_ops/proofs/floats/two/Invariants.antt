-- The floats so far are written.
use Rattle.std.proofs.Common.{length, [], ◌∷◌}
use Rattle.osl_value.specs.Table.{table}
use Rattle.osl_ops.proofs.Components.{IsWritten}
use Rattle.osl_ops.proofs.floats.two.Given as goal

abbrev pub invariant-loop-k : goal.invariant-loop-k
invariant-loop-k l = IsWritten (table l.op).floats (l.a ∷ l.b ∷ []) l.k (length l.initial.out) l.out
