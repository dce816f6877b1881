use Rattle.osl_interp.proofs.Whole.{is_spent_as_code}
use Rattle.osl_interp.proofs.laws.is_spent_as_code.Goals as goal

pub returns : goal.returns
returns c = is_spent_as_code
