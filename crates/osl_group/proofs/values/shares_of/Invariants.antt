use Rattle.std.proofs.Common.{◌≡◌, map, take}
use Rattle.std.specs.Arc.{arc_value}
use Rattle.osl_group.proofs.values.shares_of.Given as goal

-- shares of the first layers
abbrev pub invariant-loop-layer : goal.invariant-loop-layer
invariant-loop-layer l = map (λ layer. arc_value layer) l.shares.items ≡ map (λ layer. arc_value layer) (take l.layer-index l.layers)
