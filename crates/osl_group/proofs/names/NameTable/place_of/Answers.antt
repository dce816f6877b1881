use Rattle.std.proofs.Common.{List, ℕ, ap, ◌∙◌}
use Rattle.std.specs.Global.{Vec}
use Rattle.std.specs.List.{position}
use Rattle.std.specs.Str.{bytes_eq}
use Rattle.osl_group.proofs.Named.{position_map}
use Rattle.osl_group.proofs.names.NameTable.place_of.Goals as goal

pub returns : goal.returns
returns c =
    c.get_index_of.ensures.index ∙ position_map (λ (v : Vec ℕ). v.items) (bytes_eq c.args.name.now) c.self.inside.names.keys
    ∙ ap (λ (names : List (List ℕ)). position (bytes_eq c.args.name.now) names) c.self.view_is
