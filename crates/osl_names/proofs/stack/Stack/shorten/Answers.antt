use Rattle.std.proofs.Common.{arith}
use Rattle.osl_names.proofs.Stacks.{one_back}
use Rattle.osl_names.proofs.stack.Stack.shorten.Goals as goal

pub loop-self-preserved : goal.loop-self-preserved
loop-self-preserved c = one_back c.loop-self.self c.pop.new.self _ c.args.count (omega arith) c.pop.ensures c.loop-self.invariant
