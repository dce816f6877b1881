use Rattle.osl_value.proofs.Unweighted as U
use Rattle.osl_value.proofs.laws.closures_keep.Goals as goal

pub returns : goal.returns
returns c = U.closures_keep
