use Rattle.std.proofs.Common.{rules, ◌∙◌}
use Rattle.std.specs.Arc.{arc_value}
use Rattle.std.proofs.lemmas.List.{map-set}
use Rattle.osl_group.proofs.values.Values.set.Goals as goal

-- src/values.rt:68:5
pub returns-clause-set : goal.returns-clause-set
returns-clause-set c = map-set (λ layer. arc_value layer) c.self.inside.layers.items c.args.layer c.in_ok-changed.changed ∙ search (rules)
