use Rattle.std.proofs.Common.{◌≡◌, ◌+◌, false, length, replicate}
use Rattle.std.specs.Prelude.{if◌then◌else◌}
use Rattle.osl_rewrites.specs.declared.point.Spot.{Spot}
use Rattle.osl_flow.specs.Rows.{all_lack, IsReal, SettledAt, Reached}
use Rattle.osl_flow.specs.Table.{table_of}
use Rattle.osl_flow.proofs.passes.settle.Given as goal

abbrev pub invariant-loop-changed : goal.invariant-loop-changed
invariant-loop-changed l = record {
  reached : Reached l.fn.code (table_of l.fn.around) l.initial.rows l.rows;
  settled : l.changed ≡ false → (p : Spot) → IsReal l.fn.code p → SettledAt l.fn.code (table_of l.fn.around) l.rows p;
  emptied : l.more ≡ replicate (length l.fn.code.symbols) false;
}

abbrev pub decreases-loop-changed : goal.decreases-loop-changed
decreases-loop-changed l = all_lack l.rows + (if l.changed then 1 else 0)
