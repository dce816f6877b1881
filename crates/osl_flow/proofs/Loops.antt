-- The element that a loop over a list is at.
use Rattle.std.proofs.Common.{◌≡◌, ℕ, ◌<◌, List, length, get_or, Some, refl, sym, ap, ◌∙◌}
use Rattle.std.specs.Prelude.{slice_get}
use Rattle.std.proofs.lemmas.Option.{slice_get_read, slice_get-get_or}

pub item_at : {X : Type 0} (xs ys : List X) (i : ℕ) (x : X) → xs ≡ ys → i < length xs → x ≡ get_or xs i x → slice_get ys i ≡ Some x
item_at xs ys i x e lt is = ap (λ zs. slice_get zs i) (sym e) ∙ slice_get_read xs (length xs) i x refl lt is

pub copied_at : {X : Type 0} (xs ys : List X) (i : ℕ) (d : X) → xs ≡ ys → i < length xs → slice_get ys i ≡ Some (get_or xs i d)
copied_at xs ys i d e lt = ap (λ zs. slice_get zs i) (sym e) ∙ slice_get-get_or xs i d lt
