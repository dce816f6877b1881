use Rattle.osl_typed_runs.proofs.ExpressionTypes.{expr_sound}
use Rattle.osl_typed_runs.proofs.laws.expressions_keep_types.Goals as goal

pub returns : goal.returns
returns c = λ rules inputs calls x kind s fit keep is good typed. expr_sound rules inputs calls fit keep x good kind is s typed
