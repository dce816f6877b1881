use Rattle.std.proofs.Common.{◌≡◌, length}
use Rattle.oso_code.specs.Ranges.{steps_of}
use Rattle.osl_flow.specs.Table.{table_of, Walked}
use Rattle.osl_flow.proofs.table.note_ops.Given as goal

abbrev pub invariant-loop-op : goal.invariant-loop-op
invariant-loop-op l = record {
  place : l.i ≡ l.op-index;
  size : length l.table ≡ length l.fn.code.ops;
  walked : Walked (steps_of l.fn.code) l.fn.code.sections l.op-index (table_of l.table);
}
