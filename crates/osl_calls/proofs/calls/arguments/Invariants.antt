use Rattle.std.proofs.Common.{◌≡◌, map, take}
use Rattle.osl_typed.specs.Typing.{as_argument}
use Rattle.osl_calls.proofs.calls.arguments.Given as goal

abbrev pub invariant-loop-arg : goal.invariant-loop-arg
invariant-loop-arg l = l.passed.items ≡ map as_argument (take l.arg-index l.args)
