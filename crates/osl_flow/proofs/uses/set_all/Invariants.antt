use Rattle.std.proofs.Common.{◌≡◌, ℕ, length, take, false, get_or}
use Rattle.std.specs.Prelude.{◌||◌}
use Rattle.osl_flow.specs.Uses.{has}
use Rattle.osl_flow.proofs.uses.set_all.Given as goal

abbrev pub invariant-loop-k : goal.invariant-loop-k
invariant-loop-k l = record { len : length l.row ≡ length l.initial.row; bits : (j : ℕ) → get_or l.row j false ≡ (get_or l.initial.row j false || has (take l.k-index l.symbols) j) }
