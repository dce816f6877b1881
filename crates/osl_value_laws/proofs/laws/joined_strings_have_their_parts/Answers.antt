use Rattle.osl_value_laws.proofs.Joined.{front_is, rest_is}
use Rattle.osl_value_laws.proofs.laws.joined_strings_have_their_parts.Goals as goal

pub returns : goal.returns
returns c = record { front = front_is; rest = rest_is }
