use Rattle.osl_tree.proofs.Within.{tokens_lie_within}
use Rattle.osl_tree.proofs.laws.tokens_lie_within.Goals as goal

pub returns : goal.returns
returns c = tokens_lie_within
