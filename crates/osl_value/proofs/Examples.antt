-- Worked values of the definitions, found by computing.
use Rattle.std.proofs.Common.{◌≡◌, pos, negsuc, neg_ℤ, [], ◌∷◌, refl}
use Rattle.std.specs.Prelude.{codes}
use Rattle.std.specs.Int.{int_wrap}
use Rattle.osl_value.specs.Numbers.{fx_mul, fx_div, fx_fmod, fx_mod, fx_round, fx_floor, fx_sqrt, fx_smoothstep, root_of, root_by, fmax}
use Rattle.osl_value.specs.Geometry.{normalize, place}
use Rattle.osl_value.specs.Strings.{substr, getchar}

-- smoothstep(0, 1, 0.25) = 0.15625
blended : fx_smoothstep (pos 0) (pos 1000000000) (pos 250000000) ≡ pos 156250000
blended = refl

remainders : (fx_mod (negsuc 999999999) (pos 3000000000) ≡ pos 2000000000) × (fx_fmod (negsuc 999999999) (pos 3000000000) ≡ negsuc 999999999)
remainders = (refl, refl)

rounded : (fx_round (negsuc 499999999) ≡ negsuc 999999999) × (fx_floor (negsuc 499999999) ≡ negsuc 999999999)
rounded = (refl, refl)

-- the square root of 2
rooted : fx_sqrt (pos 2000000000) ≡ pos 1414213562
unfolding root_of root_by
rooted = refl

ends : (fx_mul (pos 9000000000000000000) (pos 9000000000000000000) ≡ pos fmax) × (fx_mul (negsuc 8999999999999999999) (pos 9000000000000000000) ≡ neg_ℤ (pos fmax)) × (fx_div (pos 1000000000) (pos 0) ≡ pos 0) × (fx_mul (pos 1) (pos 500000000) ≡ pos 0)
ends = (refl, refl, refl, refl)

unit : normalize (pos 0 ∷ pos 3000000000 ∷ pos 4000000000 ∷ []) ≡ pos 0 ∷ pos 600000000 ∷ pos 800000000 ∷ []
unfolding root_of root_by
unit = refl

texts : (substr (codes "abcd") (pos 10) (pos 2) ≡ []) × (getchar (codes "a") (pos 1) ≡ pos 0)
unfolding int_wrap
texts = (refl, refl)

places : (place (negsuc 0) 3 ≡ 0) × (place (pos 3) 3 ≡ 2)
places = (refl, refl)
