use Rattle.osl_tree.proofs.Parsed.{one_tree}
use Rattle.osl_tree.proofs.laws.one_tree.Goals as goal

pub returns : goal.returns
returns c = one_tree
