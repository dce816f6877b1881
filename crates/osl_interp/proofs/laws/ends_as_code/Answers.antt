use Rattle.osl_interp.proofs.Whole.{ends_as_code}
use Rattle.osl_interp.proofs.laws.ends_as_code.Goals as goal

pub returns : goal.returns
returns c = ends_as_code
