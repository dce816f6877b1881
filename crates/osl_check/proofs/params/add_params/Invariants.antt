use Rattle.std.proofs.Common.{◌≡◌, drop}
use Rattle.osl_typed.specs.FileTyping.{params_added}
use Rattle.osl_check.specs.Above.{sight_of}
use Rattle.osl_check.proofs.Walks.{behind}
use Rattle.osl_check.proofs.params.add_params.Given as goal

abbrev pub invariant-loop-param : goal.invariant-loop-param
invariant-loop-param l = behind l.all (params_added (sight_of l.sight) (drop l.param-index l.params) l.scope) ≡ params_added (sight_of l.sight) l.params l.initial.scope
