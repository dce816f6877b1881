use Rattle.osl_value.proofs.GivesValues as G
use Rattle.osl_value.proofs.laws.gives_values.Goals as goal

pub returns : goal.returns
returns c = G.gives_values
