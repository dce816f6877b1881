-- The global variables: their names, their types, and what they are at a point (OSL specification, "Global variables").
use Rattle.std.specs.Prelude.{codes, ℕ, List, [], ◌∷◌, Option, find}
use Rattle.std.specs.Str.{bytes_eq}
use Rattle.osl_value.specs.declared.point.Point.{Point}
use Rattle.osl_value.specs.declared.types.Base.TheVariants as B
use Rattle.osl_value.specs.declared.types.Ty.{Ty}
use Rattle.osl_value.specs.AnyValue.{AnyValue, Parts, with_numbers}
use Rattle.osl_value.specs.Types.{only}
use Rattle.osl_layer.specs.declared.global.GlobalName.{GlobalName}
use Rattle.osl_layer.specs.declared.global.GlobalName.TheVariants.{P, N, Ng, I, U, V, Ci}

abbrev pub global_text : GlobalName → List ℕ
global_text P = codes "P"
global_text N = codes "N"
global_text Ng = codes "Ng"
global_text I = codes "I"
global_text U = codes "u"
global_text V = codes "v"
global_text Ci = codes "Ci"

abbrev pub all_globals : List GlobalName
all_globals = P ∷ N ∷ Ng ∷ I ∷ U ∷ V ∷ Ci ∷ []

abbrev pub global_named : List ℕ → Option GlobalName
global_named name = find (λ global. bytes_eq name (global_text global)) all_globals

abbrev pub type_of_global : GlobalName → Ty
type_of_global P = only B.Point
type_of_global N = only B.Normal
type_of_global Ng = only B.Normal
type_of_global I = only B.Vector
type_of_global U = only B.Float
type_of_global V = only B.Float
type_of_global Ci = only B.Closure

-- the value at a point; the closure is empty at first
abbrev pub global_at : Point → GlobalName → AnyValue
global_at point P = with_numbers (only B.Point) point.p
global_at point N = with_numbers (only B.Normal) point.n
global_at point Ng = with_numbers (only B.Normal) point.ng
global_at point I = with_numbers (only B.Vector) point.i
global_at point U = with_numbers (only B.Float) (point.u ∷ [])
global_at point V = with_numbers (only B.Float) (point.v ∷ [])
global_at point Ci = Parts []
