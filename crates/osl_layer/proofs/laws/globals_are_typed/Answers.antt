use Rattle.osl_layer.proofs.GlobalValues.{globals_are_typed}
use Rattle.osl_layer.proofs.laws.globals_are_typed.Goals as goal

pub returns : goal.returns
returns c = globals_are_typed
