use Rattle.oso_code.proofs.Nested.{valid_nested}
use Rattle.oso_code.proofs.laws.ranges_nest.Goals as goal

pub returns : goal.returns
returns c = valid_nested
