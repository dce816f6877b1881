use Rattle.std.proofs.Common.{rules, arith}
use Rattle.osl_turnlock.proofs.Telling.{splits}
use Rattle.osl_turnlock.proofs.lock.TurnLock.cut.Goals as goal

pub split_seat-requires : goal.split_seat-requires
split_seat-requires g c = (search rules, search rules, splits g.T.Held.log g.T.Held.mark g.T.Held.base _ _ _ g.G.Giving.give c.requires.idle (omega (arith, c.requires.lock.1, c.requires.room.0)))
