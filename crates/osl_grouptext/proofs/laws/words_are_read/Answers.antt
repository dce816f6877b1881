use Rattle.osl_grouptext.proofs.Rounds.{statement_written}
use Rattle.osl_grouptext.proofs.laws.words_are_read.Goals as goal

pub returns : goal.returns
returns c = statement_written
