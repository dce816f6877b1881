use Rattle.std.proofs.Common.{◌≡◌, drop, map}
use Rattle.osl_typed.specs.Typing.{sequence}
use Rattle.osl_typed.specs.FileTyping.{datum_typed}
use Rattle.osl_check.specs.Above.{sight_of}
use Rattle.osl_check.proofs.Walks.{before}
use Rattle.osl_check.proofs.metadata.metadata.Given as goal

abbrev pub invariant-loop-x : goal.invariant-loop-x
invariant-loop-x l = before l.all (sequence (map (datum_typed (sight_of l.sight) l.scope) (drop l.x-index l.list))) ≡ sequence (map (datum_typed (sight_of l.sight) l.scope) l.list)
