use Rattle.std.proofs.Common.{length, arith}
use Rattle.osl_flow.proofs.Bits.{cleared}
use Rattle.osl_flow.proofs.uses.clear.Goals as goal

pub returns : goal.returns
returns c = cleared c.loop-k.row (length c.args.row.now) c.loop-k.invariant.len (λ k lt. c.loop-k.invariant.cleared k (omega (arith, lt)))
