use Rattle.osl_typed_runs.proofs.StatementTypes.{stmt_sound}
use Rattle.osl_typed_runs.proofs.laws.statements_keep_types.Goals as goal

pub returns : goal.returns
returns c = λ rules inputs calls result x in_loop s fit keep fits good typed. stmt_sound rules inputs calls fit keep result x good in_loop fits s typed
