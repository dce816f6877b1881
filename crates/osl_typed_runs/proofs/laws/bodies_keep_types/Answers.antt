use Rattle.osl_typed_runs.proofs.StatementTypes.{statements_keep}
use Rattle.osl_typed_runs.proofs.laws.bodies_keep_types.Goals as goal

pub returns : goal.returns
returns c = λ rules inputs calls result body s fit keep fits good typed. statements_keep rules inputs calls fit keep result body fits good s typed
