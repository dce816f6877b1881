use Rattle.std.proofs.Common.{◌≡◌, ◌-◌, [], length, true}
use Rattle.std.specs.List.{list_all}
use Rattle.osl_job.specs.SmallNames.{assignment_fits}
use Rattle.osl_job.specs.Small.{more_assignments}
use Rattle.osl_job.proofs.shader.assignments.Given as goal

abbrev pub invariant-loop-turn : goal.invariant-loop-turn
invariant-loop-turn l = record {
  read : more_assignments l.params l.room [] l.fn.tokens ≡ more_assignments l.params (l.room - l._turn) l.body l.tokens;
  tied : list_all (assignment_fits (length l.params)) l.body ≡ true;
}
