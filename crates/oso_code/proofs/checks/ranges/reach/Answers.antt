use Rattle.oso_code.proofs.Stacks.{last_reach}
use Rattle.oso_code.proofs.checks.ranges.reach.Goals as goal

pub returns-in-len1-up : goal.returns-in-len1-up
returns-in-len1-up c = last_reach c.args.from c.args.jumps.now c.in-len1-up.len_at_least
