use Rattle.osl_typed_runs.proofs.LayerTypes.{layer_typed}
use Rattle.osl_typed_runs.proofs.laws.layers_keep_types.Goals as goal

pub returns : goal.returns
returns c = λ t inputs point budget well are in_range. layer_typed t well.rules well.bounds.numbers inputs are c.globals_are_typed.ensures point budget in_range
