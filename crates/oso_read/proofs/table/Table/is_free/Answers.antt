use Rattle.std.proofs.Common.{◌∙◌, ap, List, ℕ, Bool, not}
use Rattle.std.specs.List.{list_any}
use Rattle.std.specs.Str.{bytes_eq}
use Rattle.oso_read.proofs.Named.{taken}
use Rattle.oso_read.proofs.table.Table.is_free.Goals as goal

pub returns : goal.returns
returns c =
    ap (λ (b : Bool). not b) (c.contains.ensures ∙ ap (λ (names : List (List ℕ)). list_any (bytes_eq c.args.name.now) names) c.args.self.now.named
    ∙ taken c.args.self.now.symbols.items c.args.name.now)
