-- The canonical words of types, numbers, strings and values. A word is a list of bytes: 34 is a quote, 91 and 93 brackets, 92 a backslash.
use Rattle.std.specs.Prelude.{ℕ, ◌+◌, ◌/◌, ◌%◌, ◌==◌, ◌||◌, nat_lt, if◌then◌else◌, List, [], ◌∷◌, ◌++◌, map, ℤ}
use Rattle.std.specs.Fmt.{decimal}
use Rattle.std.specs.List.{flat_map}
use Rattle.osl_value.specs.declared.types.Base.{Base}
use Rattle.osl_value.specs.declared.types.Base.TheVariants.{Int, Float, Color, Point, Vector, Normal, Matrix, Str, Closure}
use Rattle.osl_value.specs.declared.types.Ty.{Ty}
use Rattle.osl_value.specs.Types.{base_name}
use Rattle.osl_decimal.specs.Canonical.{int_text, fx_text}

-- words, as on a line
abbrev pub Line : Type 0
Line = List (List ℕ)

-- ---- types

-- an array's length in brackets, and nothing where the type is no array
abbrev pub len_text : ℕ → List ℕ
len_text len = if len == 0 then [] else 91 ∷ decimal len ++ 93 ∷ []

-- `closure color` has a space in it
abbrev pub type_text : Ty → List ℕ
type_text ty = base_name ty.base ++ len_text ty.len

-- ---- strings

abbrev pub octal : ℕ → List ℕ
octal c = (48 + c / 64) ∷ (48 + c / 8 % 8) ∷ (48 + c % 8) ∷ []

-- How a byte is written in a string: a quote and `\` after `\`; line feed, tab and carriage return as `\n`, `\t` and `\r`; other bytes below 32 or above 126 as `\` and three octal digits; each other byte as itself.
abbrev pub escape : ℕ → List ℕ
escape c =
    if (c == 34) || (c == 92) then 92 ∷ c ∷ []
    else (if c == 10 then 92 ∷ 110 ∷ []
    else (if c == 9 then 92 ∷ 116 ∷ []
    else (if c == 13 then 92 ∷ 114 ∷ []
    else (if nat_lt c 32 || nat_lt 126 c then 92 ∷ octal c
    else c ∷ []))))

abbrev pub string_text : List ℕ → List ℕ
string_text bytes = 34 ∷ flat_map escape bytes ++ 34 ∷ []

-- ---- numbers and values

-- an int, or a float by its units
abbrev pub number_text : Base → ℤ → List ℕ
number_text Int n = int_text n
number_text Float n = fx_text n
number_text Color n = fx_text n
number_text Point n = fx_text n
number_text Vector n = fx_text n
number_text Normal n = fx_text n
number_text Matrix n = fx_text n
number_text Str n = fx_text n
number_text Closure n = fx_text n

-- the numbers and strings of a type, in order
abbrev pub value_words : Base → List ℤ → List (List ℕ) → Line
value_words base nums texts = map (number_text base) nums ++ map string_text texts

-- each word after a mark
abbrev pub behind : ℕ → Line → List ℕ
behind mark words = flat_map (λ word. mark ∷ word) words
