-- The part of each primitive.
use Rattle.std.specs.Prelude.{ℕ, ℤ, pos, List, []}
use Rattle.osl_value.specs.Closures.{no_normal, primitive}
use Rattle.osl_value.specs.declared.closure.Part.{Part}
use Rattle.osl_value.specs.declared.closure.Primitive.{Primitive}
use Rattle.osl_value.specs.declared.closure.Primitive.TheVariants.{Emission, Background, Holdout, Transparent, Diffuse, OrenNayar, Translucent, Reflection, Refraction, Debug}

-- one part of weight 1, in which an argument that the primitive lacks is zero or empty
abbrev pub leaf_of : Primitive → List ℤ → ℤ → List ℕ → List Part
leaf_of Emission normal number text = primitive Emission no_normal (pos 0) []
leaf_of Background normal number text = primitive Background no_normal (pos 0) []
leaf_of Holdout normal number text = primitive Holdout no_normal (pos 0) []
leaf_of Transparent normal number text = primitive Transparent no_normal (pos 0) []
leaf_of Diffuse normal number text = primitive Diffuse normal (pos 0) []
leaf_of OrenNayar normal number text = primitive OrenNayar normal number []
leaf_of Translucent normal number text = primitive Translucent normal (pos 0) []
leaf_of Reflection normal number text = primitive Reflection normal number []
leaf_of Refraction normal number text = primitive Refraction normal number []
leaf_of Debug normal number text = primitive Debug no_normal (pos 0) text
