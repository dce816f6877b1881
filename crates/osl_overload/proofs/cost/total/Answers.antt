use Rattle.std.proofs.Common.{sym}
use Rattle.osl_overload.proofs.Totals.{total-other_length}
use Rattle.osl_overload.proofs.cost.total.Goals as goal

pub returns-then-formals-args : goal.returns-then-formals-args
returns-then-formals-args c = sym (total-other_length c.args.formals.now c.args.args.now c.if-formals-args.true)
