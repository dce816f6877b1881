use Rattle.osl_welltyped.proofs.ExpressionsFit.{typing_kinded}
use Rattle.osl_welltyped.proofs.laws.expressions_are_well_typed.Goals as goal

pub returns : goal.returns
returns c = λ rules sight bindings x a seen names h. typing_kinded rules sight bindings seen names x a h
