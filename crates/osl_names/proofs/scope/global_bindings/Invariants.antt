use Rattle.std.proofs.Common.{◌≡◌, drop, map}
use Rattle.osl_typed.specs.Scopes.{global_binding}
use Rattle.osl_names.specs.Kept.{is_assignable}
use Rattle.osl_names.proofs.scope.global_bindings.Given as goal

abbrev pub invariant-loop-at : goal.invariant-loop-at
invariant-loop-at l = l.bindings ≡ map (global_binding (is_assignable l.shader)) (drop l.at l.globals)
