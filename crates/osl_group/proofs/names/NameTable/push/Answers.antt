use Rattle.std.proofs.Common.{List, ℕ, ◌++◌, ◌∷◌, [], ap, ◌∙◌}
use Rattle.std.specs.Global.{Vec}
use Rattle.std.specs.List.{list_any}
use Rattle.std.specs.Str.{bytes_eq}
use Rattle.osl_group.proofs.Named.{pushed_map}
use Rattle.osl_group.proofs.names.NameTable.push.Goals as goal

pub returns-clause-pushed : goal.returns-clause-pushed
returns-clause-pushed c =
    let name = c.args.name.now in
    pushed_map (λ (v : Vec ℕ). v.items) c.self.inside.names.keys _ c.in_ok-key.key name (ap (λ (names : List (List ℕ)). list_any (bytes_eq name) names) c.self.view_is ∙ c.requires) c.in_ok-key.ensures.items
    c.in_ok-insert.ensures.keys
    ∙ ap (λ (names : List (List ℕ)). names ++ name ∷ []) c.self.view_is
