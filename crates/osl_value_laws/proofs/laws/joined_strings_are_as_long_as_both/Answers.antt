use Rattle.osl_value_laws.proofs.Joined.{length_is}
use Rattle.osl_value_laws.proofs.laws.joined_strings_are_as_long_as_both.Goals as goal

pub returns : goal.returns
returns c = length_is
