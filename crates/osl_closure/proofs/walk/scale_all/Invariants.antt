use Rattle.std.proofs.Common.{◌≡◌, ◌++◌, map, take, drop}
use Rattle.osl_closure.specs.Walk.{found_weighted}
use Rattle.osl_closure.proofs.walk.scale_all.Given as goal

abbrev pub invariant-loop-part : goal.invariant-loop-part
invariant-loop-part l = l.found ≡ map (found_weighted l.by) (take l.part-index l.initial.found) ++ drop l.part-index l.initial.found
