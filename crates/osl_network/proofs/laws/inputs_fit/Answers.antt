use Rattle.osl_network.proofs.InputsFit.{inputs_fit}
use Rattle.osl_network.proofs.laws.inputs_fit.Goals as goal

pub returns : goal.returns
returns c = inputs_fit c.gives_values.ensures c.writes_its_type.ensures
