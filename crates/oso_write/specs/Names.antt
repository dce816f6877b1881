-- The words of the text of code that are names of kinds and classes, and its types.
use Rattle.std.specs.Prelude.{codes, ℕ, if◌then◌else◌, List, [], ◌∷◌, ◌++◌}
use Rattle.osl_value.specs.declared.types.Base.TheVariants.{Closure}
use Rattle.osl_value.specs.declared.types.Ty.{Ty}
use Rattle.osl_value.specs.Types.{same_base}
use Rattle.osl_value.specs.declared.shader_kind.ShaderKind.{ShaderKind}
use Rattle.osl_value.specs.declared.shader_kind.ShaderKind.TheVariants as kinds
use Rattle.oso_code.specs.declared.symbol.Class.{Class}
use Rattle.oso_code.specs.declared.symbol.Class.TheVariants as classes
use Rattle.osl_valuetext.specs.Words.{len_text, type_text}

abbrev pub kind_name : ShaderKind → List ℕ
kind_name kinds.Surface = codes "surface"
kind_name kinds.Displacement = codes "displacement"
kind_name kinds.Volume = codes "volume"
kind_name kinds.Shader = codes "shader"

abbrev pub class_name : Class → List ℕ
class_name classes.Param = codes "param"
class_name classes.Oparam = codes "oparam"
class_name classes.Global = codes "global"
class_name classes.Const = codes "const"
class_name classes.Local = codes "local"
class_name classes.Temp = codes "temp"

-- the words of a type: two for a closure, and else one
abbrev pub type_words : Ty → List (List ℕ)
type_words ty = if same_base ty.base Closure then codes "closure" ∷ (codes "color" ++ len_text ty.len) ∷ [] else type_text ty ∷ []
