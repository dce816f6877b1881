-- What the test of a value says.
use Rattle.std.proofs.Common.{◌≡◌, ◌&&◌, ◌==◌, ℕ, true, List, length, ℤ}
use Rattle.std.specs.List.{list_all}
use Rattle.std.proofs.lemmas.Bool.{and_parts, eqb-true}
use Rattle.osl_value.specs.declared.types.Ty.{Ty}
use Rattle.osl_value.specs.Types.{number_count, text_count}
use Rattle.osl_valuetext.proofs.ValueWords.{MakesUp}
use Rattle.oso_code.specs.Holding.{fits_base, makes_up}
use Rattle.oso_write.proofs.ValidParts.{numbers_fit}

pub makes_up_facts : (ty : Ty) (nums : List ℤ) (texts : List (List ℕ)) → makes_up ty nums texts ≡ true → MakesUp ty nums texts
makes_up_facts ty nums texts h =
    let parts = and_parts ((length nums == number_count ty) && (length texts == text_count ty)) (list_all (fits_base ty.base) nums) h in
    let counts = and_parts (length nums == number_count ty) (length texts == text_count ty) parts.0 in
    record { nums_count = eqb-true _ _ counts.0; texts_count = eqb-true _ _ counts.1; fit = numbers_fit ty.base nums parts.1 }
