use Rattle.osl_typed_runs.proofs.LayerTypes.{functions_keep}
use Rattle.osl_typed_runs.proofs.laws.calls_keep_types.Goals as goal

pub returns : goal.returns
returns c = λ t well. functions_keep t well.rules well.bounds.numbers
