use denote.Ref.{Bor}
use Rattle.std.proofs.Common.{List, ℕ, true, filter, ◌++◌, ap, ◌∙◌}
use Rattle.osl_valuetext.specs.declared.place.Place.TheVariants.{Open}
use Rattle.osl_valuetext.specs.Splitting.{pieces, is_comma}
use Rattle.osl_valuetext.specs.Scan.{spoken}
use Rattle.osl_valuetext.proofs.Plains.{all_kept}
use Rattle.oso_read.proofs.values.fields_of.Goals as goal

pub returns : goal.returns
returns c =
    let fields = pieces is_comma Open c.args.inside.now in
    c.in_ok-split.ensures ∙ ap (λ (ws : List (Bor (List ℕ))). spoken ws ++ filter (λ (x : List ℕ). true) fields) c.new-fields.ensures.items ∙ all_kept fields
