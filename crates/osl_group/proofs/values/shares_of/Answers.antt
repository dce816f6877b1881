use Rattle.std.proofs.Common.{rules}
use Rattle.std.specs.Arc.{arc_value}
use Rattle.osl_group.proofs.Shares.{one_more}
use Rattle.osl_group.proofs.values.shares_of.Goals as goal

-- src/values.rt:87:5
pub loop-layer-preserved : goal.loop-layer-preserved
loop-layer-preserved c =
    one_more (λ layer. arc_value layer) c.loop-layer.shares.items c.args.layers.now c.push.new.self.items c.loop-layer.layer-index c.in_ok-try_clone.field-0 c.layer-item.result
    (search (rules)) c.loop-layer.invariant (search (rules)) c.layer-item.is (search (rules))
