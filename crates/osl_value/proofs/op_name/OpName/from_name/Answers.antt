-- An operation that had the name would be among all, and none of all has it.
use Rattle.osl_value.proofs.OpNames.{no_name}
use Rattle.osl_value.proofs.op_name.OpName.from_name.Goals as goal

pub returns-clause-none : goal.returns-clause-none
returns-clause-none c = no_name c.find_named.result c.args.name.now c.find_named.ensures.none
