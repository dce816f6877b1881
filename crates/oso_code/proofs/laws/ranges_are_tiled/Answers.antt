use Rattle.oso_code.proofs.Tiled.{valid_tiled}
use Rattle.oso_code.proofs.laws.ranges_are_tiled.Goals as goal

pub returns : goal.returns
returns c = valid_tiled
