use Rattle.std.proofs.Common.{◌≡◌, drop}
use Rattle.std.specs.Prelude.{map}
use Rattle.osl_typed.specs.Measured.{cut, fields_node}
use Rattle.osl_typed.specs.Sizes.{◌&◌, all_of, field_kinds}
use Rattle.osl_typed.proofs.tables.Tables.fields.Given as goal

-- the sum so far and the fields to come are all of them
abbrev pub invariant-loop-field : goal.invariant-loop-field
invariant-loop-field l = record {
  whole : cut (l.sum & all_of (map (fields_node l.holds_value l.self.structures.now) (field_kinds l.self.structures.now l.kind (drop l.field-index l.fields))))
      ≡ cut (all_of (map (fields_node l.holds_value l.self.structures.now) (field_kinds l.self.structures.now l.fn.from l.fields)));
  small : cut l.sum ≡ l.sum;
}
