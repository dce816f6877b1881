use Rattle.std.proofs.Common.{List, ℕ, ap, sym, ◌∙◌}
use Rattle.std.specs.List.{position}
use Rattle.std.specs.Str.{bytes_eq}
use Rattle.osl_network.specs.declared.port.Port.{Port}
use Rattle.osl_network.specs.Shaders.{ports_of}
use Rattle.osl_group.specs.Loaded.{NamedCode}
use Rattle.osl_group.proofs.Named.{position_map}
use Rattle.osl_group.proofs.loaded.LoadedShader.param_named.Goals as goal

pub returns : goal.returns
returns c =
    let name = c.args.name.now in
    c.place_of.ensures ∙ ap (λ (bytes : List ℕ). position (bytes_eq bytes) c.self.inside.table) c.bytes.ensures.value
    ∙ ap (λ (names : List (List ℕ)). position (bytes_eq name) names) c.self.invariant.1
    ∙ sym (position_map (λ (port : Port). port.name) (bytes_eq name) (ports_of c.self.inside.shader))
    ∙ ap (λ (s : NamedCode). position (λ (port : Port). bytes_eq name port.name) (ports_of s.code)) c.self.view_is
