use Rattle.osl_typed_runs.proofs.LayerTypes.{start_typed}
use Rattle.osl_typed_runs.proofs.laws.start_is_typed.Goals as goal

pub returns : goal.returns
returns c = λ t inputs point budget well are in_range. start_typed t well.rules well.bounds.numbers inputs are c.globals_are_typed.ensures point budget in_range
