use Rattle.std.proofs.Common.{◌≡◌, drop}
use Rattle.osl_value.specs.AnyValue.{argument}
use Rattle.osl_apply.specs.Operands.{values}
use Rattle.oso_code.specs.CodeRun.{closure_from}
use Rattle.osl_interp.proofs.outputs.closure_in_slots.Given as goal

abbrev pub invariant-loop-k : goal.invariant-loop-k
invariant-loop-k l = closure_from l.k (drop l.k l.symbols) (argument (values l.slots)) ≡ closure_from 0 l.symbols (argument (values l.slots))
