use Rattle.osl_tree.proofs.Parsed.{parsed_spells}
use Rattle.osl_tree.proofs.laws.read_is_spelled.Goals as goal

pub returns : goal.returns
returns c = parsed_spells
