use Rattle.std.proofs.Common.{◌≡◌, drop, map}
use Rattle.osl_typed.specs.Typing.{sequence, found_form}
use Rattle.osl_check.specs.Above.{sight_of}
use Rattle.osl_check.proofs.Walks.{before}
use Rattle.osl_check.proofs.expr.+typing.Given as goal

abbrev pub invariant-arguments-loop-arg : goal.invariant-arguments-loop-arg
invariant-arguments-loop-arg l =
    before l.found.items (sequence (map (found_form (sight_of l.sight) l.scope.bindings) (drop l.arg-index l.args))) ≡ sequence (map (found_form (sight_of l.sight) l.scope.bindings) l.args)
