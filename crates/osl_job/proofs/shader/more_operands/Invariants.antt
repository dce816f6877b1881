use Rattle.std.proofs.Common.{◌≡◌, ◌-◌, length, true}
use Rattle.osl_job.specs.SmallNames.{fits}
use Rattle.osl_job.specs.Small.{more_operands}
use Rattle.osl_job.proofs.shader.more_operands.Given as goal

abbrev pub invariant-loop-turn : goal.invariant-loop-turn
invariant-loop-turn l = record {
  read : more_operands l.params l.room l.fn.first l.fn.tokens ≡ more_operands l.params (l.room - l._turn) l.sum l.tokens;
  tied : fits (length l.params) l.sum ≡ true;
}
