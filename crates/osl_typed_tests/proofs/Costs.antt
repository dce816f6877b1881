-- What it costs to pass an argument, from each base type to each, and how candidates of those costs stand to each other.
use Rattle.std.proofs.Common.{◌≡◌, ℕ, refl}
use Rattle.std.specs.Prelude.{Bool, false, true, List, [], ◌∷◌, map, Option, None, Some}
use Rattle.osl_value.specs.declared.types.Base.{Base}
use Rattle.osl_value.specs.declared.types.Base.TheVariants as base
use Rattle.osl_value.specs.Types.{only}
use Rattle.osl_overload.specs.declared.signature.Arg.{Arg}
use Rattle.osl_overload.specs.declared.signature.Formal.{Formal}
use Rattle.osl_overload.specs.declared.signature.Kind.{Kind}
use Rattle.osl_overload.specs.declared.signature.Kind.TheVariants.{Value, Structure, Void}
use Rattle.osl_overload.specs.declared.standing.Standing.TheVariants.{Nobody, One, Tie}
use Rattle.osl_overload.specs.Cost.{cost, argument_cost, total}
use Rattle.osl_overload.specs.Standing.{stands}

abbrev bases : List Base
bases = base.Int ∷ base.Float ∷ base.Color ∷ base.Point ∷ base.Vector ∷ base.Normal ∷ base.Matrix ∷ base.Str ∷ base.Closure ∷ []

abbrev a_kind : Base → Kind
a_kind of = Value (only of)

abbrev a_row : Base → ℕ → Kind
a_row of n = Value (record { base = of; len = n })

-- an argument that is no literal 0 and may not be written
abbrev arg : Kind → Arg
arg kind = record { kind = kind; zero_literal = false; writable = false }

-- the literal 0
abbrev zero : Arg
zero = record { kind = a_kind base.Int; zero_literal = true; writable = false }

abbrev from : Base → List (Option ℕ)
from of = map (λ to. cost (arg (a_kind of)) (a_kind to)) bases

-- ---- from a base type to each of: int, float, color, point, vector, normal, matrix, string, closure

from_int : from base.Int ≡ (Some 0 ∷ Some 1 ∷ Some 3 ∷ Some 3 ∷ Some 3 ∷ Some 3 ∷ None ∷ None ∷ None ∷ [])
from_int = refl

from_float : from base.Float ≡ (None ∷ Some 0 ∷ Some 2 ∷ Some 2 ∷ Some 2 ∷ Some 2 ∷ None ∷ None ∷ None ∷ [])
from_float = refl

from_color : from base.Color ≡ (None ∷ None ∷ Some 0 ∷ None ∷ None ∷ None ∷ None ∷ None ∷ None ∷ [])
from_color = refl

from_point : from base.Point ≡ (None ∷ None ∷ None ∷ Some 0 ∷ Some 1 ∷ Some 1 ∷ None ∷ None ∷ None ∷ [])
from_point = refl

from_vector : from base.Vector ≡ (None ∷ None ∷ None ∷ Some 1 ∷ Some 0 ∷ Some 1 ∷ None ∷ None ∷ None ∷ [])
from_vector = refl

from_normal : from base.Normal ≡ (None ∷ None ∷ None ∷ Some 1 ∷ Some 1 ∷ Some 0 ∷ None ∷ None ∷ None ∷ [])
from_normal = refl

from_matrix : from base.Matrix ≡ (None ∷ None ∷ None ∷ None ∷ None ∷ None ∷ Some 0 ∷ None ∷ None ∷ [])
from_matrix = refl

from_string : from base.Str ≡ (None ∷ None ∷ None ∷ None ∷ None ∷ None ∷ None ∷ Some 0 ∷ None ∷ [])
from_string = refl

from_closure : from base.Closure ≡ (None ∷ None ∷ None ∷ None ∷ None ∷ None ∷ None ∷ None ∷ Some 0 ∷ [])
from_closure = refl

-- ---- the literal 0 may be the empty closure, and costs what any int does elsewhere

of_zero : map (λ to. cost zero (a_kind to)) bases ≡ (Some 0 ∷ Some 1 ∷ Some 3 ∷ Some 3 ∷ Some 3 ∷ Some 3 ∷ None ∷ None ∷ Some 3 ∷ [])
of_zero = refl

zero_to_rows : map (λ to. cost zero (a_row to 1)) (base.Int ∷ base.Float ∷ base.Closure ∷ []) ≡ (None ∷ None ∷ None ∷ [])
zero_to_rows = refl

-- ---- arrays and structures become nothing else

rows : map (λ n. cost (arg (a_row base.Int 2)) (a_row base.Int n)) (0 ∷ 1 ∷ 2 ∷ 3 ∷ []) ≡ (None ∷ None ∷ Some 0 ∷ None ∷ [])
rows = refl

rows_of_others : map (λ to. cost (arg (a_row base.Int 2)) (a_row to 2)) bases ≡ (Some 0 ∷ None ∷ None ∷ None ∷ None ∷ None ∷ None ∷ None ∷ None ∷ [])
rows_of_others = refl

to_a_row : map (λ of. cost (arg (a_kind of)) (a_row base.Float 1)) bases ≡ (None ∷ None ∷ None ∷ None ∷ None ∷ None ∷ None ∷ None ∷ None ∷ [])
to_a_row = refl

from_a_row : map (λ to. cost (arg (a_row base.Float 1)) (a_kind to)) bases ≡ (None ∷ None ∷ None ∷ None ∷ None ∷ None ∷ None ∷ None ∷ None ∷ [])
from_a_row = refl

others : map (cost (arg (Structure 1))) (Structure 1 ∷ Structure 2 ∷ a_kind base.Int ∷ Void ∷ []) ≡ (Some 0 ∷ None ∷ None ∷ None ∷ [])
others = refl

nothing : map (λ kind. cost (arg kind) Void) (Void ∷ a_kind base.Int ∷ Structure 0 ∷ []) ≡ (Some 0 ∷ None ∷ None ∷ [])
nothing = refl

-- ---- outputs: the same kind, and an argument that may be written

abbrev written : Kind → Bool → Arg
written kind writable = record { kind = kind; zero_literal = false; writable = writable }

abbrev output : Kind → Formal
output kind = record { kind = kind; output = true }

abbrev input : Kind → Formal
input kind = record { kind = kind; output = false }

outputs : map (argument_cost (output (a_kind base.Float)))
    (written (a_kind base.Float) true ∷ written (a_kind base.Float) false ∷ written (a_kind base.Int) true ∷ written (a_row base.Float 1) true ∷ [])
    ≡ (Some 0 ∷ None ∷ None ∷ None ∷ [])
outputs = refl

zero_to_output : argument_cost (output (a_kind base.Closure)) zero ≡ None
zero_to_output = refl

inputs : map (argument_cost (input (a_kind base.Float))) (written (a_kind base.Float) false ∷ written (a_kind base.Int) true ∷ []) ≡ (Some 0 ∷ Some 1 ∷ [])
inputs = refl

-- ---- of all arguments together: as many as parameters, and each fits

abbrev params : List Formal
params = input (a_kind base.Float) ∷ input (a_kind base.Color) ∷ input (a_kind base.Point) ∷ []

together : map (total params) (
    (arg (a_kind base.Float) ∷ arg (a_kind base.Color) ∷ arg (a_kind base.Point) ∷ [])
    ∷ (arg (a_kind base.Int) ∷ arg (a_kind base.Float) ∷ arg (a_kind base.Normal) ∷ [])
    ∷ (arg (a_kind base.Int) ∷ arg (a_kind base.Int) ∷ arg (a_kind base.Int) ∷ [])
    ∷ (arg (a_kind base.Int) ∷ arg (a_kind base.Int) ∷ arg (a_kind base.Str) ∷ [])
    ∷ (arg (a_kind base.Str) ∷ arg (a_kind base.Color) ∷ arg (a_kind base.Point) ∷ [])
    ∷ (arg (a_kind base.Float) ∷ arg (a_kind base.Color) ∷ [])
    ∷ (arg (a_kind base.Float) ∷ arg (a_kind base.Color) ∷ arg (a_kind base.Point) ∷ arg (a_kind base.Int) ∷ [])
    ∷ [] ∷ [])
    ≡ (Some 0 ∷ Some 4 ∷ Some 7 ∷ None ∷ None ∷ None ∷ None ∷ None ∷ [])
together = refl

of_nothing : total [] [] ≡ Some 0
of_nothing = refl

-- ---- how candidates stand after one more, by its cost

after_nobody : map (λ c. stands 4 c Nobody) (None ∷ Some 0 ∷ Some 9 ∷ []) ≡ (Nobody ∷ One 4 0 ∷ One 4 9 ∷ [])
after_nobody = refl

after_one : map (λ c. stands 4 c (One 2 5)) (None ∷ Some 4 ∷ Some 5 ∷ Some 6 ∷ []) ≡ (One 2 5 ∷ One 4 4 ∷ Tie 5 ∷ One 2 5 ∷ [])
after_one = refl

after_tie : map (λ c. stands 4 c (Tie 5)) (None ∷ Some 4 ∷ Some 5 ∷ Some 6 ∷ []) ≡ (Tie 5 ∷ One 4 4 ∷ Tie 5 ∷ Tie 5 ∷ [])
after_tie = refl
