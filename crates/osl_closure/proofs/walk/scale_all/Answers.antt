use Rattle.osl_closure.proofs.Walking.{weighted_more}
use Rattle.osl_closure.proofs.walk.scale_all.Goals as goal

pub loop-part-preserved : goal.loop-part-preserved
loop-part-preserved c = weighted_more c.args.by _ _ _ _ _ c.loop-part-test.true c.loop-part.invariant c.color_times-part.ensures
