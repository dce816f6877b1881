use Rattle.oso_code.proofs.Uses.{step_uses}
use Rattle.oso_code.proofs.laws.steps_use_as_ops.Goals as goal

pub returns : goal.returns
returns c = step_uses
