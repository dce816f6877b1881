use Rattle.std.proofs.Common.{◌≡◌, ◌+◌, ◌/◌, ◌%◌, ◌^◌, ◌≤◌, drop}
use Rattle.osl_decimal.specs.Canonical.{places}
use Rattle.osl_decimal.proofs.write.write_fraction.Given as goal

abbrev pub invariant-loop-place : goal.invariant-loop-place
invariant-loop-place l = record {
  room : l.end ≤ l.start + l._place;
  within : l.start ≤ l.end;
  left : l.left ≡ l.fraction / 10 ^ l._place;
  written : drop l.start l.bytes ≡ places l._place (l.fraction % 10 ^ l._place);
}
