use Rattle.std.proofs.Common.{◌≡◌, length}
use Rattle.osl_typed.specs.Measured.{IsLeafTable}
use Rattle.osl_typed.proofs.tables.build.leaf_table.Given as goal

abbrev pub invariant-loop-structure : goal.invariant-loop-structure
invariant-loop-structure l = record {
  known : IsLeafTable l.structures l.table.items;
  so_far : length l.table.items ≡ l.structure-index;
}
