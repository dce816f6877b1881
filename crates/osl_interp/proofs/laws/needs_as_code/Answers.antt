use Rattle.osl_interp.proofs.Whole.{needs_as_code}
use Rattle.osl_interp.proofs.laws.needs_as_code.Goals as goal

pub returns : goal.returns
returns c = needs_as_code
