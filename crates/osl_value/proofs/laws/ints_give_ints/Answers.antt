use Rattle.osl_value.proofs.TableLaws.{ints_give_ints}
use Rattle.osl_value.proofs.laws.ints_give_ints.Goals as goal

pub returns : goal.returns
returns c = ints_give_ints
