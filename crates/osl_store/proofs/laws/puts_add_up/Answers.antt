use Rattle.osl_store.proofs.Written.{nothing, whole, both, front, unwritten}
use Rattle.osl_store.proofs.laws.puts_add_up.Goals as goal

pub returns-clause-nothing : goal.returns-clause-nothing
returns-clause-nothing c = nothing

pub returns-clause-whole : goal.returns-clause-whole
returns-clause-whole c = whole

pub returns-clause-both : goal.returns-clause-both
returns-clause-both c = both

pub returns-clause-front : goal.returns-clause-front
returns-clause-front c = front

pub returns-clause-unwritten : goal.returns-clause-unwritten
returns-clause-unwritten c = unwritten
