use Rattle.std.proofs.Common.{◌-◌, ◌*◌}
use Rattle.osl_turnlock.proofs.tests.+write_all.Given as goal

abbrev pub decreases-join+arg2 : goal.decreases-join+arg2
decreases-join+arg2 g l = 2 * l.depth - 1

abbrev pub decreases-join+arg3 : goal.decreases-join+arg3
decreases-join+arg3 g l = 2 * l.depth - 1

abbrev pub decreases-write_all : goal.decreases-write_all
decreases-write_all g l = 2 * l.depth
