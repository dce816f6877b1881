use Rattle.std.proofs.Common.{◌≡◌, ◌++◌, false, replicate}
use Rattle.osl_flow.proofs.liveness.push_empty.Given as goal

abbrev pub invariant-loop-i : goal.invariant-loop-i
invariant-loop-i l = l.rows.items ≡ l.initial.rows.items ++ replicate l._i (replicate l.symbols false)
