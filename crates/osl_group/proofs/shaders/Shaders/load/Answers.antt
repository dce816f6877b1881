use Rattle.std.proofs.Common.{List, ℕ, ap, sym, ◌∙◌}
use Rattle.std.specs.List.{list_any}
use Rattle.std.specs.Str.{bytes_eq}
use Rattle.osl_group.specs.Loaded.{NamedCode}
use Rattle.osl_group.proofs.Named.{any_map}
use Rattle.osl_group.proofs.shaders.Shaders.load.Goals as goal

pub push-requires-2 : goal.push-requires-2
push-requires-2 c =
    let name = c.args.name.now in
    ap (λ (bytes : List ℕ). list_any (bytes_eq bytes) c.self.inside.table) c.bytes.ensures.value
    ∙ ap (λ (names : List (List ℕ)). list_any (bytes_eq name) names) c.self.invariant
    ∙ sym (any_map (λ (s : NamedCode). s.name) (bytes_eq name) c.self.inside.shaders.items)
    ∙ ap (λ (shaders : List NamedCode). list_any (λ (s : NamedCode). bytes_eq name s.name) shaders) c.self.view_is
    ∙ c.requires
