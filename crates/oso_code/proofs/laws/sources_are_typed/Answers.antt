use Rattle.oso_code.proofs.TypedStart.{sources_typed}
use Rattle.oso_code.proofs.laws.sources_are_typed.Goals as goal

pub returns : goal.returns
returns c = λ raw inputs valid fit. sources_typed raw valid inputs fit
