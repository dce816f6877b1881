use Rattle.std.proofs.Common.{◌≡◌, ◌≤◌, length}
use Rattle.std.specs.Prelude.{sum_by}
use Rattle.osl_closure.specs.Parts.{parts}
use Rattle.osl_closure.specs.Walk.{finish_up, seen_all, work_of}
use Rattle.osl_closure.proofs.walk.gather.Given as goal

abbrev pub invariant-loop-task : goal.invariant-loop-task
invariant-loop-task l = record {
  same : finish_up l.tasks.items (seen_all l.found.items) ≡ parts l.shape;
  short : length l.found.items ≤ 256;
}

abbrev pub decreases-loop-task : goal.decreases-loop-task
decreases-loop-task l = sum_by work_of l.tasks.items
