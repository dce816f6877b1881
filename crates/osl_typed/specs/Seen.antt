-- What the tables of the measure mean.
use Rattle.std.specs.Prelude.{length}
use Rattle.osl_typed.specs.declared.tables.Tables.{Tables}
use Rattle.osl_typed.specs.Sizes.{Scale, calls_below}

abbrev pub seen : Tables → Scale
seen t = record {
  structures = t.structures.now;
  kinds = t.kinds.now;
  calls = calls_below t.structures.now t.functions.now (length t.calls.now);
}
