use Rattle.std.proofs.Common.{◌≡◌, drop}
use Rattle.osl_calls.proofs.SameKinds.{have_same}
use Rattle.osl_calls.proofs.named.have_one_kind.Given as goal

abbrev pub invariant-loop-i : goal.invariant-loop-i
invariant-loop-i l =
    have_same (drop l.i l.some) (drop l.i l.others) ≡ have_same l.some l.others
