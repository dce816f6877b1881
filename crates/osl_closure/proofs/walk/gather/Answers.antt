use Rattle.std.proofs.Common.{lit≤}
use Rattle.osl_closure.proofs.Walking.{visit_first}
use Rattle.osl_closure.proofs.walk.gather.Goals as goal

pub loop-task-init : goal.loop-task-init
loop-task-init c = record {
  same = rw (c.in_ok-push.ensures.items, c.new-tasks.ensures.items, c.new-found.ensures.items) (visit_first c.args.shape);
  short = rw c.new-found.ensures.items (lit≤ tt);
}
