-- Words that are types: those of types that have values.
use Rattle.std.specs.Prelude.{ℕ, ◌-◌, nat_lt, Bool, ◌&&◌, ◌==◌, if◌then◌else◌, List, [], ◌∷◌, length, take, drop, find, Option, Some, None, slice_index}
use Rattle.std.specs.List.{before_first}
use Rattle.std.specs.Str.{bytes_eq}
use Rattle.osl_value.specs.declared.types.Base.{Base}
use Rattle.osl_value.specs.declared.types.Base.TheVariants.{Int, Float, Color, Point, Vector, Normal, Matrix, Str}
use Rattle.osl_value.specs.declared.types.Ty.{Ty}
use Rattle.osl_value.specs.Types.{base_name}
use Rattle.osl_valuetext.specs.Literals.{◌>>=◌, decimal_at, is_plain_type}

-- the base types that have values
abbrev pub all_bases : List Base
all_bases = Int ∷ Float ∷ Color ∷ Point ∷ Vector ∷ Normal ∷ Matrix ∷ Str ∷ []

abbrev pub base_named : List ℕ → Option Base
base_named name = find (λ base. bytes_eq name (base_name base)) all_bases

abbrev pub opens_length : ℕ → Bool
opens_length c = c == 91

-- the array's length in brackets, from 1
unfoldable pub length_at : List ℕ → Option ℕ
length_at text =
    if (nat_lt 1 (length text) && opens_length (slice_index text 0)) && (slice_index text (length text - 1) == 93)
    then (decimal_at (take (length text - 2) (drop 1 text)) >>= λ len. if nat_lt 0 len then Some len else None)
    else None

abbrev pub length_or_none : List ℕ → Option ℕ
length_or_none text = if length text == 0 then Some 0 else length_at text

-- the type of which this is the text, if it has values
unfoldable pub type_at : List ℕ → Option Ty
type_at word =
    let name = before_first opens_length word in
    base_named name >>= λ base. length_or_none (drop (length name) word) >>= λ len.
    let ty : Ty = record { base = base; len = len } in
    if is_plain_type ty then Some ty else None
