use Rattle.std.proofs.Common.{◌≡◌, List, [], ◌∷◌, ◌++◌, ℕ, false, ap, ◌∙◌}
use Rattle.std.specs.Global.{Vec}
use Rattle.std.specs.List.{list_any}
use Rattle.std.specs.Str.{bytes_eq}
use Rattle.oso_read.proofs.Named.{any_map, pushed_map}
use Rattle.oso_read.proofs.name_table.NameTable.push.Goals as goal

pub returns : goal.returns
returns c =
    let name = c.args.name.now in
    let keys = c.self.inside.names.keys in
    let no : list_any (λ (k : Vec ℕ). bytes_eq c.in_ok-key.key.items k.items) keys ≡ false =
    ap (λ (n : List ℕ). list_any (λ (k : Vec ℕ). bytes_eq n k.items) keys) c.in_ok-key.ensures.items ∙ any_map (λ (v : Vec ℕ). v.items) (bytes_eq name) keys
    ∙ ap (λ (names : List (List ℕ)). list_any (bytes_eq name) names) c.self.view_is ∙ c.requires in
    pushed_map (λ (v : Vec ℕ). v.items) keys _ c.in_ok-key.key name _ no c.in_ok-insert.ensures.keys c.in_ok-key.ensures.items
    ∙ ap (λ (names : List (List ℕ)). names ++ name ∷ []) c.self.view_is
