use Rattle.std.proofs.Common.{◌≡◌}
use Rattle.osl_turnlock.specs.Seats.{IsOf, IsFree, seat_spare}
use Rattle.osl_turnlock.proofs.tests.write_many.Given as goal

abbrev pub invariant-loop-i : goal.invariant-loop-i
invariant-loop-i g l = IsOf l.lock l.seat × IsFree l.seat × (seat_spare l.seat ≡ seat_spare l.initial.seat)
