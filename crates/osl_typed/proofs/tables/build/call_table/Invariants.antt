use Rattle.std.proofs.Common.{◌≡◌, length}
use Rattle.osl_typed.specs.Measured.{IsCallTable}
use Rattle.osl_typed.proofs.tables.build.call_table.Given as goal

abbrev pub invariant-loop-f : goal.invariant-loop-f
invariant-loop-f l = record {
  known : IsCallTable l.structures l.functions l.table.items;
  so_far : length l.table.items ≡ l.f-index;
}
