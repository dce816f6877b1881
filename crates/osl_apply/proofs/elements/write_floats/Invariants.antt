use Rattle.std.proofs.Common.{◌≡◌}
use lib.Seq.{paste}
use Rattle.osl_apply.proofs.elements.write_floats.Given as goal

abbrev pub invariant-loop-k : goal.invariant-loop-k
invariant-loop-k l = l.value ≡ record l.initial.value { nums = paste l.initial.value.nums l.from l.floats l.k }
