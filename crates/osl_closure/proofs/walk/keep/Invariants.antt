use Rattle.std.proofs.Common.{◌≡◌, take}
use Rattle.osl_value.specs.Closures.{shown}
use Rattle.osl_closure.specs.Walk.{seen_all}
use Rattle.osl_closure.proofs.walk.keep.Given as goal

abbrev pub invariant-loop-part : goal.invariant-loop-part
invariant-loop-part l = l.parts.items ≡ shown (seen_all (take l.part-index l.found))
