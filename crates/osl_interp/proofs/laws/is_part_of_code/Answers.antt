use Rattle.osl_interp.proofs.Whole.{is_part_of_code}
use Rattle.osl_interp.proofs.laws.is_part_of_code.Goals as goal

pub returns : goal.returns
returns c = is_part_of_code
