use Rattle.std.proofs.Common.{◌≡◌, ℕ, ◌<◌, length, false, get_or}
use Rattle.osl_flow.proofs.uses.clear.Given as goal

abbrev pub invariant-loop-k : goal.invariant-loop-k
invariant-loop-k l = record { len : length l.row ≡ length l.initial.row; cleared : (j : ℕ) → j < l.k → get_or l.row j false ≡ false }
