use Rattle.osl_rewrites.proofs.Pruned.{prune_law}
use Rattle.osl_rewrites.proofs.laws.dead_ops_drop.Goals as goal

pub returns : goal.returns
returns c = λ raw kept around asked row inputs point budget valid surrounds settled dies. prune_law raw valid kept around surrounds asked row settled inputs dies point budget
