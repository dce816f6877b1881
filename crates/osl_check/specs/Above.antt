-- What the tables of the checker mean.
use Rattle.osl_calls.specs.Table as tables
use Rattle.osl_typed.specs.FileTyping.{Above}
use Rattle.osl_typed.specs.Scopes.{Sight}
use Rattle.osl_check.specs.declared.above.Above as above_tables
use Rattle.osl_check.specs.declared.above.Sight as sight_tables

abbrev pub sight_of : sight_tables.Sight → Sight
sight_of sight = tables.sight_of sight.structures sight.functions

abbrev pub above_of : above_tables.Above → Above
above_of above = record { sight = sight_of above.sight; functions = above.functions }
