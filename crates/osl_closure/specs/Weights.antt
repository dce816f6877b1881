-- Weights: a float for each channel.
use Rattle.std.specs.Prelude.{ℤ, List, [], ◌∷◌}
use Rattle.osl_value.specs.Numbers.{Two, fx_mul}
use Rattle.osl_value.specs.Geometry.{each}

-- the product channel by channel, the factor on the left
abbrev pub times : List ℤ → List ℤ → List ℤ
times by weight = each 3 (Two fx_mul) (by ∷ weight ∷ [])
