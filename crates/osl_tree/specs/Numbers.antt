-- The numbers of a source, and what they are worth: OSL specification, section "Lexical structure". Which texts are decimals, and how many units of 10^-9 each is, the decimals' crate says.
use Rattle.std.specs.Prelude.{◌≡◌, ◌⊎◌, ℕ, ◌^◌, ◌<◌, ◌≤◌, nat_lt, Bool, true, ◌&&◌, ◌||◌, List, [], ◌∷◌, ◌++◌, length, ℤ, pos}
use Rattle.std.specs.List.{list_any, list_all}
use Rattle.std.specs.Char.{is_ascii_hexdigit}
use Rattle.std.specs.Int.{w32, cast_signed}
use Rattle.std.specs.Str.Parse.{digits_value}
use Rattle.osl_value.specs.Numbers.{fmax}
use Rattle.osl_decimal.specs.Decimal.{is_numeral, is_point, begins_exponent, is_decimal, decimal_units}

-- one hexadecimal digit or more, and nothing else
abbrev pub is_hex_numeral : List ℕ → Bool
is_hex_numeral text = nat_lt 0 (length text) && list_all is_ascii_hexdigit text

-- an int: decimal digits, or `0x` and hexadecimal digits, whose 32 bits are taken as they are
pub data IsInt : List ℕ → ℤ → Type 0 where
  decimal : (digits : List ℕ) → is_numeral digits ≡ true → digits_value 10 digits ≤ 2147483647 → IsInt digits (pos (digits_value 10 digits))
  hexadecimal : (x : ℕ) (digits : List ℕ) → (x ≡ 120) ⊎ (x ≡ 88) → is_hex_numeral digits ≡ true → digits_value 16 digits < 2 ^ 32
      → IsInt (48 ∷ x ∷ digits) (cast_signed w32 (digits_value 16 digits))

-- a decimal with a point or an exponent, or both, that is in range when rounded
pub record IsFraction (text : List ℕ) : Type 0 where
  pub decimal : is_decimal text ≡ true
  pub marked : list_any (λ c. is_point c || begins_exponent c) text ≡ true
  pub in_range : decimal_units text ≤ fmax

-- a float and its units: such a decimal, and perhaps an `f` after it
pub data IsFloat : List ℕ → ℤ → Type 0 where
  plain : (text : List ℕ) → IsFraction text → IsFloat text (pos (decimal_units text))
  suffixed : (text : List ℕ) (f : ℕ) → IsFraction text → (f ≡ 102) ⊎ (f ≡ 70) → IsFloat (text ++ f ∷ []) (pos (decimal_units text))
