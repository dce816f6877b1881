use Rattle.std.proofs.Common.{◌≡◌, ◌≢◌, ◌+◌, ◌-◌, refl, arith}
use Rattle.osl_interp.specs.Meaning.{configuration}
use Rattle.osl_interp.specs.Advances.{one_op}
use Rattle.osl_interp.proofs.Acting.{loop_turned, loop_spent}
use Rattle.osl_interp.proofs.Frames.{arrives}
use Rattle.osl_interp.proofs.ops.turn_first.Goals as goal

pub returns-then-m-eq0 : goal.returns-then-m-eq0
returns-then-m-eq0 c = (refl, loop_spent (configuration c.args.m.now) c.args.repeat (record { ready = c.requires.ready; runs = c.requires.runs; inside = c.requires.inside; op = c.requires.op }) c.if-m-eq0.true)

pub returns : goal.returns
returns c =
    let more : c.args.m.now.turns ≡ (c.args.m.now.turns - 1) + 1 = let n : c.args.m.now.turns ≢ 0 = c.if-m-eq0.false in omega (arith, n) in
    arrives one_op _ _ _ _ refl c.in_ok-enter.ensures (loop_turned (configuration c.args.m.now) c.args.repeat (c.args.m.now.turns - 1) (record { ready = c.requires.ready; runs = c.requires.runs; inside = c.requires.inside; op = c.requires.op }) more)
