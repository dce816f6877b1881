use Rattle.std.proofs.Common.{◌-◌, ◌+◌, ◌∙◌, ap, sym, length}
use Rattle.osl_job.specs.Small.{more_operands}
use Rattle.osl_job.proofs.Tied.{apply_tied}
use Rattle.osl_job.proofs.Turns.{operands_turn}
use Rattle.osl_job.proofs.shader.more_operands.Goals as goal

pub loop-turn-preserved : goal.loop-turn-preserved
loop-turn-preserved c = record {
  read = c.loop-turn.invariant.read
      ∙ operands_turn c.args.params.now c.args.room c.loop-turn._turn c.loop-turn.sum c.in_ok-next.next c.in-Some.op c.loop-turn.tokens c.eat_sign.new.tokens c.operand.new.tokens
      c.loop-turn-test.true c.in-Some.ensures c.in_ok-next.ensures.read
      ∙ ap (λ e. more_operands c.args.params.now (c.args.room - (c.loop-turn._turn + 1)) e c.operand.new.tokens) (sym c.in_ok-sum.ensures);
  tied = apply_tied (length c.args.params.now) c.in-Some.op c.loop-turn.sum c.in_ok-next.next c.in_ok-sum.sum c.in_ok-sum.ensures c.loop-turn.invariant.tied c.in_ok-next.ensures.tied;
}
