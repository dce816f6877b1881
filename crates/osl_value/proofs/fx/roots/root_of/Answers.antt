-- With no bit left the root is the greatest, and so it is the root.
use Rattle.std.proofs.Common.{arith}
use Rattle.osl_value.proofs.Roots.{root_unique, root_at_end}
use Rattle.osl_value.proofs.fx.roots.root_of.Goals as goal

pub returns-clause-root : goal.returns-clause-root
returns-clause-root c = root_at_end c.args.n c.loop-bit.root c.loop-bit.bit (omega arith) c.loop-bit.invariant.not_above c.loop-bit.invariant.below_next

pub returns-clause-value : goal.returns-clause-value
returns-clause-value c = root_unique c.args.n c.loop-bit.root (omega arith) (returns-clause-root c)
