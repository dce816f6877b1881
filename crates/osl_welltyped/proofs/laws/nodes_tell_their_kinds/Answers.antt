use Rattle.osl_welltyped.proofs.KindsTold.{told_by_node}
use Rattle.osl_welltyped.proofs.laws.nodes_tell_their_kinds.Goals as goal

pub returns : goal.returns
returns c = λ rules x kind h. told_by_node rules x kind h
