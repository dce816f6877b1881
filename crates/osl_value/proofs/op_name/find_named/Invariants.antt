-- No operation so far has the name.
use Rattle.std.proofs.Common.{◌≢◌, take}
use Rattle.std.specs.List.{All}
use Rattle.osl_value.specs.OpText.{name_of}
use Rattle.osl_value.proofs.op_name.find_named.Given as goal

abbrev pub invariant-loop-op : goal.invariant-loop-op
invariant-loop-op l = All (λ op. name_of op ≢ l.name) (take l.op-index l.ops)
