use Rattle.oso_code.specs.Ops.{type_at}
use Rattle.oso_code.proofs.Conditions.{never_two}
use Rattle.oso_code.proofs.checks.ops.takes_condition.Goals as goal

pub returns-in_default : goal.returns-in_default
returns-in_default c = never_two c.args.name (type_at c.args.symbols.now) c.args.args.now c.in_default.len_at_least
