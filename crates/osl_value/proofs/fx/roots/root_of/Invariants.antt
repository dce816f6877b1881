-- The bits that are left make up less than one of the bit above them.
use Rattle.std.proofs.Common.{◌*◌, ◌^◌, ◌<◌, ◌+◌, ◌≤◌}
use Rattle.osl_value.proofs.fx.roots.root_of.Given as goal

abbrev pub invariant-loop-bit : goal.invariant-loop-bit
invariant-loop-bit l = record {
  small : l.root + 2 ^ l.bit ≤ 2 ^ 47;
  not_above : l.root * l.root ≤ l.n;
  below_next : l.n < (l.root + 2 ^ l.bit) * (l.root + 2 ^ l.bit);
}
