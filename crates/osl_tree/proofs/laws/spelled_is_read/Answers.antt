use Rattle.osl_tree.proofs.Parsed.{parsed_again}
use Rattle.osl_tree.proofs.laws.spelled_is_read.Goals as goal

pub returns : goal.returns
returns c = parsed_again
