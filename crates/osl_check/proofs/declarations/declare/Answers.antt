use Rattle.osl_check.proofs.Bodies.{keeps_declared}
use Rattle.osl_check.proofs.declarations.declare.Goals as goal

pub returns-clause-keeps : goal.returns-clause-keeps
returns-clause-keeps c = keeps_declared _ _ _ _ _ c.in_ok-number.ensures.declared
