use Rattle.std.proofs.Common.{◌≡◌, drop}
use Rattle.std.specs.Vec.Iter.{into_iter_items}
use Rattle.osl_calls.specs.Calling.{behind}
use Rattle.osl_calls.proofs.Passed.{fit_formals}
use Rattle.osl_calls.proofs.passing.fit_all.Given as goal

abbrev pub invariant-loop-formal : goal.invariant-loop-formal
invariant-loop-formal l =
    behind l.fitted (fit_formals (drop l.formal-index l.formals) (into_iter_items l.rest)) ≡ fit_formals l.formals l.fn.args.items
