use Rattle.osl_value.proofs.TableLaws.{applied_type}
use Rattle.osl_value.proofs.laws.applied_type.Goals as goal

pub returns : goal.returns
returns c = applied_type
