use Rattle.oso_code.proofs.TypedRuns.{valid_typed}
use Rattle.oso_code.proofs.laws.ops_are_typed.Goals as goal

pub returns : goal.returns
returns c = valid_typed
