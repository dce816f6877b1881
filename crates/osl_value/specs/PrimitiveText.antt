-- The names of closure primitives in the language.
use Rattle.std.specs.Prelude.{ℕ, List, codes}
use Rattle.osl_value.specs.declared.closure.Primitive.{Primitive}
use Rattle.osl_value.specs.declared.closure.Primitive.TheVariants.{Emission, Background, Holdout, Transparent, Diffuse, OrenNayar, Translucent, Reflection, Refraction, Debug}

abbrev pub primitive_name : Primitive → List ℕ
primitive_name Emission = codes "emission"
primitive_name Background = codes "background"
primitive_name Holdout = codes "holdout"
primitive_name Transparent = codes "transparent"
primitive_name Diffuse = codes "diffuse"
primitive_name OrenNayar = codes "oren_nayar"
primitive_name Translucent = codes "translucent"
primitive_name Reflection = codes "reflection"
primitive_name Refraction = codes "refraction"
primitive_name Debug = codes "debug"
