use Rattle.osl_interp.proofs.Whole.{starts_as_code}
use Rattle.osl_interp.proofs.laws.starts_as_code.Goals as goal

pub returns : goal.returns
returns c = starts_as_code
