use Rattle.osl_typed_runs.proofs.InitTypes.{begun_typed}
use Rattle.osl_typed_runs.proofs.laws.initialisers_keep_types.Goals as goal

pub returns : goal.returns
returns c = λ rules inputs calls kind x s fit keep is fits good typed. begun_typed rules inputs calls fit keep kind x is fits good s typed
