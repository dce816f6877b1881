-- The sum so far, and the total of the arguments that are left, make the whole total.
use Rattle.std.proofs.Common.{◌≡◌, ◌*◌, ◌≤◌, drop, Some}
use Rattle.osl_overload.specs.Cost.{plus, total}
use Rattle.osl_overload.proofs.cost.total.Given as goal

abbrev pub invariant-loop-i : goal.invariant-loop-i
invariant-loop-i l = record {
  in_all : plus (Some l.sum) (total (drop l.i l.formals) (drop l.i l.args)) ≡ total l.formals l.args;
  small : l.sum ≤ 3 * l.i;
}
