use Rattle.std.proofs.Common.{List, ℕ, ap, sym, ◌∙◌}
use Rattle.std.specs.List.{position}
use Rattle.std.specs.Str.{bytes_eq}
use Rattle.osl_network.specs.Building.{Loaded, shader_named}
use Rattle.osl_group.specs.Loaded.{NamedCode, loaded_as, loaded_of}
use Rattle.osl_group.proofs.Named.{position_map}
use Rattle.osl_group.proofs.shaders.Shaders.named.Goals as goal

pub returns : goal.returns
returns c =
    let name = c.args.name.now in
    let items = c.self.inside.shaders.items in
    c.place_of.ensures ∙ ap (λ (bytes : List ℕ). position (bytes_eq bytes) c.self.inside.table) c.bytes.ensures.value
    ∙ ap (λ (names : List (List ℕ)). position (bytes_eq name) names) c.self.invariant
    ∙ sym (position_map (λ (s : NamedCode). s.name) (bytes_eq name) items)
    ∙ position_map (λ (s : NamedCode). loaded_as s) (λ (l : Loaded). bytes_eq name l.name) items
    ∙ ap (λ (shaders : List NamedCode). shader_named (loaded_of shaders) name) c.self.view_is
