use Rattle.osl_grouptext.proofs.Again.{words_found}
use Rattle.osl_grouptext.proofs.laws.words_are_found.Goals as goal

pub returns : goal.returns
returns c = words_found
