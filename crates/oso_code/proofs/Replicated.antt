-- A list whose elements all have one form.
use Rattle.std.proofs.Common.{◌≡◌, ℕ, zero, suc, List, [], ◌∷◌, length, Bool, true, false, refl, sym, ap, ◌∙◌}
use Rattle.std.proofs.Math.Dec.{eqb-zero-suc, eqb-suc-zero, eqb-suc-suc}
use Rattle.std.specs.Prelude.{◌&&◌, ◌==◌, replicate}
use Rattle.std.specs.Cmp.Lexicographic.{pointwise}
use Rattle.std.specs.List.{list_all}
use Rattle.osl_value.specs.Forms.{Form, fits}
use Rattle.osl_value.specs.declared.types.Ty.{Ty}

swapped : (a b c : Bool) → (a && (b && c)) ≡ (b && (a && c))
swapped true true c = refl
swapped true false c = refl
swapped false true c = refl
swapped false false c = refl

pub each_fits_one : (form : Form) (types : List Ty) (n : ℕ) → pointwise fits (replicate n form) types ≡ ((length types == n) && list_all (fits form) types)
each_fits_one form [] zero = refl
each_fits_one form [] (suc n) = sym (ap (λ b. b && true) (eqb-zero-suc n))
each_fits_one form (ty ∷ types) zero = sym (ap (λ b. b && list_all (fits form) (ty ∷ types)) (eqb-suc-zero (length types)))
each_fits_one form (ty ∷ types) (suc n) =
    ap (λ b. fits form ty && b) (each_fits_one form types n)
    ∙ swapped (fits form ty) (length types == n) (list_all (fits form) types)
    ∙ sym (ap (λ b. b && list_all (fits form) (ty ∷ types)) (eqb-suc-suc (length types) n))
