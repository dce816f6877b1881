-- Structs of the code as what they stand for.
use Rattle.osl_valuetext.specs.Identifiers.{Pair}
use Rattle.osl_grouptext.specs.declared.statement.PairTexts.{PairTexts}

abbrev pub pair_seen : PairTexts → Pair
pair_seen pair = record { layer = pair.layer; param = pair.param }
