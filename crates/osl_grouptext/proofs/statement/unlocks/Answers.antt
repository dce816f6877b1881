use denote.Ref.{Bor}
use Rattle.std.proofs.Common.{◌∙◌, List, ℕ, sym, ap}
use Rattle.std.specs.Str.{bytes_eq}
use Rattle.std.specs.Cmp.Lexicographic.{pointwise}
use Rattle.std.specs.Cmp.Derive.Mapped.{pointwise-map}
use Rattle.osl_valuetext.specs.Scan.{spoken}
use Rattle.osl_grouptext.proofs.statement.unlocks.Goals as goal

pub returns : goal.returns
returns c =
    let words = c.args.words.now in
    c.eq.ensures ∙ sym (pointwise-map (λ (w : Bor (List ℕ)). w.now) bytes_eq words c.as_slice.result.now)
    ∙ ap (λ (hs : List (Bor (List ℕ))). pointwise bytes_eq (spoken words) (spoken hs)) c.as_slice.ensures
