use Rattle.std.proofs.Common.{◌≡◌, drop}
use Rattle.std.specs.Vec.Iter.{into_iter_items}
use Rattle.osl_typed.specs.Typing.{pass_all}
use Rattle.osl_calls.specs.Calling.{behind}
use Rattle.osl_calls.proofs.passing.pass_all.Given as goal

abbrev pub invariant-loop-formal : goal.invariant-loop-formal
invariant-loop-formal l =
    behind l.passed (pass_all (drop l.formal-index l.formals) (into_iter_items l.rest)) ≡ pass_all l.formals l.fn.args.items
