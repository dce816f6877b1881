use Rattle.std.proofs.Common.{◌≡◌, drop, map}
use Rattle.osl_typed.specs.Choosing.{apart}
use Rattle.osl_typed.specs.Typing.{root_of}
use Rattle.osl_calls.specs.Roots.{passes, passed_in}
use Rattle.osl_calls.proofs.outputs.apart.Given as goal

abbrev pub invariant-loop-i : goal.invariant-loop-i
invariant-loop-i l =
    passes (passed_in l.roots) (drop l.i l.formals) (drop l.i (map root_of l.args)) ≡ apart l.formals (map root_of l.args)
