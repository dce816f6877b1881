use Rattle.std.proofs.Common.{◌≡◌, drop}
use Rattle.osl_names.specs.Kept.{Keeps}
use Rattle.osl_typed.specs.BodyTyping.{declare_all}
use Rattle.osl_check.specs.Above.{sight_of}
use Rattle.osl_check.proofs.Walks.{behind}
use Rattle.osl_check.proofs.declarations.declare_all.Given as goal

-- what is left of the variables gives what all of them give, and what was declared before stays
abbrev pub invariant-loop-var : goal.invariant-loop-var
invariant-loop-var l = record {
  typed : behind l.all (declare_all (sight_of l.sight) l.ty (drop l.var-index l.vars) l.scope) ≡ declare_all (sight_of l.sight) l.ty l.vars l.initial.scope;
  keeps : Keeps l.initial.scope l.scope;
}
