use Rattle.std.proofs.Common.{◌≡◌, ◌+◌, ◌-◌, ◌≤◌, length}
use Rattle.osl_job.specs.Small.{more_params, AreTied}
use Rattle.osl_job.proofs.shader.more_params.Given as goal

abbrev pub invariant-loop-turn : goal.invariant-loop-turn
invariant-loop-turn l = record {
  read : more_params l.room l.fn.first l.fn.tokens ≡ more_params (l.room - l._turn) l.params l.tokens;
  tied : AreTied l.params;
  count : length l.params ≤ length l.fn.first + l._turn;
}
