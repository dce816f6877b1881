use Rattle.std.proofs.Common.{◌≡◌, ℕ, ◌<◌, ◌≤◌, false, length, replicate}
use Rattle.osl_flow.specs.Rows.{Passed, SettledOp}
use Rattle.osl_flow.specs.Table.{table_of}
use Rattle.osl_flow.proofs.passes.pass_ops.Given as goal

abbrev pub invariant-loop-i : goal.invariant-loop-i
invariant-loop-i l = record {
  within : l.i ≤ l.fn.end;
  passed : Passed l.fn.code (table_of l.fn.around) l.initial.rows l.rows l.changed;
  settled : l.changed ≡ false → (k : ℕ) → l.i ≤ k → k < l.fn.end → SettledOp l.fn.code (table_of l.fn.around) l.rows k;
  emptied : l.more ≡ replicate (length l.fn.code.symbols) false;
}

abbrev pub decreases-loop-i : goal.decreases-loop-i
decreases-loop-i l = l.i
