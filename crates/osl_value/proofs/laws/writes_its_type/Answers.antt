use Rattle.osl_value.proofs.TableLaws.{writes_its_type}
use Rattle.osl_value.proofs.laws.writes_its_type.Goals as goal

pub returns : goal.returns
returns c = writes_its_type
