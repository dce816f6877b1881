use Rattle.std.proofs.Common.{◌≡◌, length}
use Rattle.oso_code.specs.Ranges.{steps_of}
use Rattle.osl_flow.specs.Table.{table_of}
use Rattle.osl_flow.proofs.Walk.{Laid, Begun}
use Rattle.osl_flow.proofs.table.note_sections.Given as goal

abbrev pub invariant-loop-section : goal.invariant-loop-section
invariant-loop-section l = record {
  place : l.j ≡ l.section-index;
  size : length l.table ≡ length l.fn.code.ops;
  begun : (laid : Laid (steps_of l.fn.code) l.fn.code.sections) → Begun (steps_of l.fn.code) l.fn.code.sections laid l.section-index (table_of l.table);
}
