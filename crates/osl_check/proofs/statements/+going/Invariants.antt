use Rattle.std.proofs.Common.{◌≡◌, drop, map}
use Rattle.osl_names.specs.Kept.{Keeps}
use Rattle.osl_typed.specs.BodyTyping.{all_typed, going}
use Rattle.osl_check.specs.Above.{sight_of}
use Rattle.osl_check.specs.BodyParts.{around}
use Rattle.osl_check.proofs.Walks.{behind}
use Rattle.osl_check.proofs.statements.+going.Given as goal

-- what is left of the statements gives what all of them give, and what was declared before stays
abbrev pub invariant-all_typed-loop-s : goal.invariant-all_typed-loop-s
invariant-all_typed-loop-s l = record {
  typed : behind l.all (all_typed (map (going (around (sight_of l.sight) l.kind)) (drop l.s-index l.statements)) l.in_loop l.scope)
      ≡ all_typed (map (going (around (sight_of l.sight) l.kind)) l.statements) l.in_loop l.initial.scope;
  keeps : Keeps l.initial.scope l.scope;
}
