use Rattle.osl_value.proofs.TableLaws.{floats_give_floats}
use Rattle.osl_value.proofs.laws.floats_give_floats.Goals as goal

pub returns : goal.returns
returns c = floats_give_floats
