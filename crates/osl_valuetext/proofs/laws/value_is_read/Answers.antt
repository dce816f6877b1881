use Rattle.std.proofs.Common.{◌≡◌, true, List, ℕ, subst}
use Rattle.std.specs.List.{list_all}
use Rattle.osl_valuetext.specs.Spells.{is_text}
use Rattle.osl_valuetext.proofs.Exact.{value_written, texts_are}
use Rattle.osl_valuetext.proofs.laws.value_is_read.Goals as goal

pub returns : goal.returns
returns c =
    let v = c.args.value.now in
    let texts : list_all is_text v.texts ≡ true = subst (λ (ts : List (List ℕ)). list_all is_text ts ≡ true) c.texts.ensures c.are_texts.ensures in
    value_written c.args.spelling v c.ty-ty.ensures.fits (texts_are v.texts texts)
