-- What the rows are written with: types, values, and an operation on many lists of arguments.
use Rattle.std.specs.Int.{int_wrap}
use Rattle.std.specs.Prelude.{ℕ, ℤ, pos, neg_ℤ, List, [], ◌∷◌, map}
use Rattle.osl_value.specs.declared.op_name.OpName.{OpName}
use Rattle.osl_value.specs.declared.types.Base.TheVariants as base
use Rattle.osl_value.specs.declared.types.Ty.{Ty}
use Rattle.osl_value.specs.AnyValue.{AnyValue, with_numbers, with_text}
use Rattle.osl_value.specs.Apply.{apply}
use Rattle.osl_value.specs.Types.{only}

abbrev pub int : Ty
int = only base.Int

abbrev pub float : Ty
float = only base.Float

abbrev pub color : Ty
color = only base.Color

abbrev pub point : Ty
point = only base.Point

abbrev pub vector : Ty
vector = only base.Vector

abbrev pub normal : Ty
normal = only base.Normal

abbrev pub matrix : Ty
matrix = only base.Matrix

abbrev pub string : Ty
string = only base.Str

abbrev pub minus : ℕ → ℤ
minus n = neg_ℤ (pos n)

-- the arguments of a row
abbrev pub one : ℤ → List ℤ
one a = a ∷ []

abbrev pub two : ℤ → ℤ → List ℤ
two a b = a ∷ b ∷ []

abbrev pub three : ℤ → ℤ → ℤ → List ℤ
three a b c = a ∷ b ∷ c ∷ []

abbrev pub value : Ty → List ℤ → AnyValue
value = with_numbers

abbrev pub an_int : ℤ → AnyValue
an_int n = value int (n ∷ [])

-- a float of so many units
abbrev pub a_float : ℤ → AnyValue
a_float x = value float (x ∷ [])

-- a string of these bytes
abbrev pub a_text : List ℕ → AnyValue
a_text bytes = with_text string bytes

abbrev pub ints : List ℤ → List AnyValue
ints = map an_int

abbrev pub floats : List ℤ → List AnyValue
floats = map a_float

-- an operation on each list of ints, or of floats, as an int or a float
abbrev pub on_ints : OpName → List (List ℤ) → List AnyValue
on_ints op rows = map (λ args. apply op int (ints args)) rows

abbrev pub on_floats : OpName → List (List ℤ) → List AnyValue
on_floats op rows = map (λ args. apply op float (floats args)) rows

abbrev pub tests_of_floats : OpName → List (List ℤ) → List AnyValue
tests_of_floats op rows = map (λ args. apply op int (floats args)) rows
