use Rattle.std.proofs.Common.{◌≡◌, drop}
use Rattle.osl_typed.specs.FileTyping.{formals_added}
use Rattle.osl_check.proofs.Walks.{behind}
use Rattle.osl_check.proofs.definitions.add_formals.Given as goal

abbrev pub invariant-loop-formal : goal.invariant-loop-formal
invariant-loop-formal l = behind l.formals (formals_added l.structures (drop l.formal-index l.all) l.scope) ≡ formals_added l.structures l.all l.initial.scope
