use Rattle.oso_code.proofs.Validity.{validity_exact}
use Rattle.oso_code.proofs.laws.validity_is_exact.Goals as goal

pub returns : goal.returns
returns c = validity_exact
