use Rattle.osl_welltyped.proofs.TypingsFit.{typing_well}
use Rattle.osl_welltyped.proofs.laws.typings_are_well_typed.Goals as goal

pub returns : goal.returns
returns c = λ t h. typing_well t h
