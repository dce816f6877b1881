use Rattle.std.proofs.Common.{◌-◌, ◌+◌, ◌∙◌, ap, sym, arith, length, length-append}
use Rattle.osl_job.specs.Small.{param, more_params}
use Rattle.osl_job.proofs.Tied.{params_tied}
use Rattle.osl_job.proofs.Turns.{stops, params_turn, params_fail}
use Rattle.osl_job.proofs.shader.more_params.Goals as goal

pub returns-in-Err-clause-read : goal.returns-in-Err-clause-read
returns-in-Err-clause-read c =
    stops (param c.as_slice.result.now c.eat.new.self) _ c.in-Err.stop c.param.new.tokens _
    (λ none. c.loop-turn.invariant.read
    ∙ params_fail c.args.room c.loop-turn._turn c.loop-turn.params c.loop-turn.tokens c.eat.new.self c.loop-turn-test.true c.if-not-eat.ensures
    (ap (λ p. param p c.eat.new.self) (sym c.as_slice.ensures) ∙ none))
    c.in-Err.ensures.read

pub loop-turn-preserved : goal.loop-turn-preserved
loop-turn-preserved c =
    record {
      read = c.loop-turn.invariant.read
          ∙ params_turn c.args.room c.loop-turn._turn c.loop-turn.params c.in-Ok.next c.loop-turn.tokens c.eat.new.self c.param.new.tokens
          c.loop-turn-test.true c.if-not-eat.ensures (ap (λ p. param p c.eat.new.self) (sym c.as_slice.ensures) ∙ c.in-Ok.ensures.read)
          ∙ ap (λ b. more_params (c.args.room - (c.loop-turn._turn + 1)) b c.param.new.tokens) (sym c.in_ok-push-in-Ok.ensures.ok);
      tied = params_tied c.loop-turn.params c.in-Ok.next c.push.new.self c.in_ok-push-in-Ok.ensures.ok c.loop-turn.invariant.tied c.in-Ok.ensures.tied;
      count = omega (arith, c.loop-turn.invariant.count, ap length c.in_ok-push-in-Ok.ensures.ok, length-append c.loop-turn.params);
    }
