-- Elements that are to be written.
use Rattle.std.specs.Prelude.{Bool, [], ◌∷◌}
use Rattle.osl_value.specs.declared.types.Base.{Base}
use Rattle.osl_value.specs.declared.types.Base.TheVariants as B
use Rattle.osl_value.specs.AnyValue.{AnyValue, with_numbers, with_text}
use Rattle.osl_value.specs.Types.{is_triple, only, same_base}
use Rattle.osl_apply.specs.declared.elements.Element.{Element}
use Rattle.osl_apply.specs.declared.elements.Element.TheVariants.{Int, Float, Triple, Matrix, Str}

-- the value of an element of an array of this base type
abbrev pub element_value : Base → Element → AnyValue
element_value base (Int n) = with_numbers (only base) (n ∷ [])
element_value base (Float floats) = with_numbers (only base) floats
element_value base (Triple floats) = with_numbers (only base) floats
element_value base (Matrix floats) = with_numbers (only base) floats
element_value base (Str text) = with_text (only base) text

-- an element for an array of this base type
abbrev pub suits : Base → Element → Bool
suits base (Int n) = same_base base B.Int
suits base (Float floats) = same_base base B.Float
suits base (Triple floats) = is_triple base
suits base (Matrix floats) = same_base base B.Matrix
suits base (Str text) = same_base base B.Str
