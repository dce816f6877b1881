use Rattle.osl_value.proofs.TableLaws.{copies_its_type}
use Rattle.osl_value.proofs.laws.copies_its_type.Goals as goal

pub returns : goal.returns
returns c = copies_its_type
