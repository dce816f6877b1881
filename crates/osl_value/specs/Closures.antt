-- Closures (OSL specification, "Material closures"), each the list of its parts.
use Rattle.std.specs.Prelude.{ℕ, ℤ, pos, Bool, not, List, [], ◌∷◌, ◌++◌, map, take}
use Rattle.std.specs.List.{filter, list_all}
use Rattle.osl_value.specs.declared.closure.Primitive.{Primitive}
use Rattle.osl_value.specs.declared.closure.Part.{Part}
use Rattle.osl_value.specs.Numbers.{scale, is_zero, Two, fx_mul}
use Rattle.osl_value.specs.Geometry.{each}

-- the most parts of a closure
abbrev pub most_parts : ℕ
most_parts = 256

-- weight 1, 1, 1
abbrev pub full_weight : List ℤ
full_weight = pos scale ∷ pos scale ∷ pos scale ∷ []

-- what a primitive has where it takes no normal
abbrev pub no_normal : List ℤ
no_normal = pos 0 ∷ pos 0 ∷ pos 0 ∷ []

-- a primitive is one part
abbrev pub primitive : Primitive → List ℤ → ℤ → List ℕ → List Part
primitive prim normal number text =
    record { weight = full_weight; prim = prim; normal = normal; number = number; text = text } ∷ []

-- a sum has the parts of both, and keeps the first 256
abbrev pub joined : List Part → List Part → List Part
joined a b = take most_parts (a ++ b)

-- the new factor on the left, channel by channel; a single number is repeated
abbrev pub weighted_part : List ℤ → Part → Part
weighted_part factor part = record part { weight = each 3 (Two fx_mul) (factor ∷ part.weight ∷ []) }

abbrev pub weighted : List ℤ → List Part → List Part
weighted factor parts = map (weighted_part factor) parts

abbrev pub weighted_by : List Part → List ℤ → List Part
weighted_by parts factor = weighted factor parts

-- what is shown: the parts whose weight is not zero on all channels
abbrev pub is_shown : Part → Bool
is_shown part = not (list_all is_zero part.weight)

abbrev pub shown : List Part → List Part
shown parts = filter is_shown parts
