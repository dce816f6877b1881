use Rattle.std.proofs.Common.{◌≡◌, length, drop}
use Rattle.std.specs.List.{flat_map}
use Rattle.osl_typed.specs.Frames.{leaves_with, leaves_below}
use Rattle.osl_typed.specs.Measured.{leaves_sum, shortened}
use Rattle.osl_typed.proofs.tables.build.leaves_of_fields.Given as goal

-- the leaves so far and those still to come are all of them
abbrev pub invariant-loop-field : goal.invariant-loop-field
invariant-loop-field l = record {
  whole : leaves_sum l.sum (shortened (flat_map (leaves_with (leaves_below l.structures (length l.table))) (drop l.field-index l.fields)))
      ≡ shortened (flat_map (leaves_with (leaves_below l.structures (length l.table))) l.fields);
  small : leaves_sum l.sum (record { count = 0; slots = 0 }) ≡ l.sum;
}
