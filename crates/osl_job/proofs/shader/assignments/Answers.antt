use Rattle.std.proofs.Common.{◌-◌, ◌+◌, ◌∙◌, ap, sym, length}
use Rattle.osl_job.specs.Small.{more_assignments}
use Rattle.osl_job.proofs.Tied.{body_tied}
use Rattle.osl_job.proofs.Turns.{assignments_turn}
use Rattle.osl_job.proofs.shader.assignments.Goals as goal

pub loop-turn-preserved : goal.loop-turn-preserved
loop-turn-preserved c = record {
  read = c.loop-turn.invariant.read
      ∙ assignments_turn c.args.params.now c.args.room c.loop-turn._turn c.loop-turn.body c.in_ok-next.next c.loop-turn.tokens c.eat.new.self c.assignment.new.tokens
      c.loop-turn-test.true c.if-eat.ensures c.in_ok-next.ensures.read
      ∙ ap (λ b. more_assignments c.args.params.now (c.args.room - (c.loop-turn._turn + 1)) b c.assignment.new.tokens) (sym c.in_ok-push.ensures.ok);
  tied = body_tied (length c.args.params.now) c.loop-turn.body c.in_ok-next.next c.push.new.self c.in_ok-push.ensures.ok c.loop-turn.invariant.tied c.in_ok-next.ensures.tied;
}
