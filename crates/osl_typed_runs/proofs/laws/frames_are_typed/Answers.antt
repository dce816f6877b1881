use Rattle.osl_typed_runs.proofs.LayerTypes.{frame_typed}
use Rattle.osl_typed_runs.proofs.laws.frames_are_typed.Goals as goal

pub returns : goal.returns
returns c = λ t inputs ready well are. frame_typed t well.rules well.bounds.numbers inputs are ready
