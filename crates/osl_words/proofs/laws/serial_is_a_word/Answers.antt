use Rattle.osl_words.proofs.Jobs.{serial_law}
use Rattle.osl_words.proofs.laws.serial_is_a_word.Goals as goal

pub returns : goal.returns
returns c = serial_law
