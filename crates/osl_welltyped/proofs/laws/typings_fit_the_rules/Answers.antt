use Rattle.osl_welltyped.proofs.ShaderFits.{typing_fits}
use Rattle.osl_welltyped.proofs.laws.typings_fit_the_rules.Goals as goal

pub returns : goal.returns
returns c = λ tree t h. typing_fits tree t h
