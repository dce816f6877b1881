use Rattle.std.proofs.Common.{List, ℕ, ◌++◌, ◌∷◌, [], ap, ◌∙◌}
use Rattle.std.specs.Global.{Vec}
use Rattle.std.specs.List.{position}
use Rattle.std.specs.Prelude.{bytes_eq}
use Rattle.osl_names.proofs.Placing.{one_more_name}
use Rattle.osl_names.proofs.names.Names.push.Goals as goal

pub returns-clause-pushed : goal.returns-clause-pushed
returns-clause-pushed c =
    let name = c.args.name.now in
    one_more_name (λ (v : Vec ℕ). v.items) c.self.inside.names.keys _ c.in_ok-key.key name c.in_ok-key.ensures.items
    (ap (λ (names : List (List ℕ)). position (bytes_eq name) names) c.self.view_is ∙ c.requires) c.in_ok-insert.ensures.keys
    ∙ ap (λ (names : List (List ℕ)). names ++ name ∷ []) c.self.view_is
