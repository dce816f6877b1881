use Rattle.std.proofs.Common.{sym, subst}
use Rattle.osl_typed.specs.declared.found.Callee.{Callee}
use Rattle.osl_typed.specs.declared.found.Callee.TheVariants.{Operation, SubstrToEnd}
use Rattle.osl_typed.specs.Typing.{called_as}
use Rattle.osl_typing.specs.Says.{Says}
use Rattle.osl_calls.specs.Named.{candidate}
use Rattle.osl_calls.proofs.passing.called_as.Goals as goal

pub returns-in-Operation : goal.returns-in-Operation
returns-in-Operation c =
    subst (λ (k : Callee). Says (called_as k (candidate c.args.signature.now k) c.args.args.items) c.operation_call.result) (sym c.in-Operation.is) (c.operation_call.ensures (Operation c.in-Operation.name))

pub returns-in-SubstrToEnd : goal.returns-in-SubstrToEnd
returns-in-SubstrToEnd c =
    subst (λ (k : Callee). Says (called_as k (candidate c.args.signature.now k) c.args.args.items) c.substr_to_end.result) (sym c.in-SubstrToEnd.is) (c.substr_to_end.ensures SubstrToEnd)
