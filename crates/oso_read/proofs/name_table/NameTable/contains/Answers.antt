use Rattle.std.proofs.Common.{List, ℕ, ap, ◌∙◌}
use Rattle.std.specs.Global.{Vec}
use Rattle.std.specs.List.{list_any}
use Rattle.std.specs.Str.{bytes_eq}
use Rattle.oso_read.proofs.Named.{any_map}
use Rattle.oso_read.proofs.name_table.NameTable.contains.Goals as goal

pub returns : goal.returns
returns c =
    c.contains.ensures ∙ any_map (λ (v : Vec ℕ). v.items) (bytes_eq c.args.name.now) c.self.inside.names.keys
    ∙ ap (λ (names : List (List ℕ)). list_any (bytes_eq c.args.name.now) names) c.self.view_is
