use Rattle.oso_code.proofs.TypedStart.{start_typed}
use Rattle.oso_code.proofs.laws.start_is_typed.Goals as goal

pub returns : goal.returns
returns c = λ raw inputs point budget valid fit in_range. start_typed raw valid inputs fit c.globals_are_typed.ensures point in_range budget
