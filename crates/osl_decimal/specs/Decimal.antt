-- The decimal texts of numbers, and the number that each writes: OSL specification, section "Lexical structure", for digits, point and exponent; a float is the exact decimal rounded to nine places. A text is a list of bytes: 43 is '+', 45 '-', 46 '.', 69 'E' and 101 'e'.
use Rattle.std.specs.Prelude.{ℕ, ◌+◌, ◌*◌, ◌/◌, ◌-◌, ◌^◌, Bool, not, ◌&&◌, ◌||◌, List, ◌++◌, length, drop, ℤ, pos, neg_ℤ, Option, Some, None, ◌==◌, nat_lt, nat_le, slice_index, if◌then◌else◌}
use Rattle.std.specs.Char.{is_ascii_digit}
use Rattle.std.specs.List.{list_all, list_any, before_first, after_first}
use Rattle.std.specs.Str.Parse.{digits_value}
use Rattle.osl_value.specs.Numbers.{scale, fmax}

abbrev pub are_digits : List ℕ → Bool
are_digits text = list_all is_ascii_digit text

-- one digit or more, and nothing else
abbrev pub is_numeral : List ℕ → Bool
is_numeral text = nat_lt 0 (length text) && are_digits text

abbrev pub has_minus : List ℕ → Bool
has_minus text = slice_index text 0 == 45

abbrev pub without_minus : List ℕ → List ℕ
without_minus text = drop (if has_minus text then 1 else 0) text

abbrev pub has_plus : List ℕ → Bool
has_plus text = slice_index text 0 == 43

abbrev pub without_sign : List ℕ → List ℕ
without_sign text = drop (if has_minus text || has_plus text then 1 else 0) text

-- ---- the parts of a decimal

abbrev pub is_point : ℕ → Bool
is_point c = c == 46

abbrev pub begins_exponent : ℕ → Bool
begins_exponent c = (c == 101) || (c == 69)

-- the digits and the point, before an exponent
unfoldable pub mantissa : List ℕ → List ℕ
mantissa text = before_first begins_exponent text

-- the digits before the point
unfoldable pub whole : List ℕ → List ℕ
whole text = before_first is_point (mantissa text)

-- the digits after it
unfoldable pub decimals : List ℕ → List ℕ
decimals text = after_first is_point (mantissa text)

-- the exponent after its `e`, with its sign
unfoldable pub exponent : List ℕ → List ℕ
exponent text = after_first begins_exponent text

-- the exponent's digits
unfoldable pub exponent_digits : List ℕ → List ℕ
exponent_digits text = without_sign (exponent text)

-- Digits with at most one point among or beside them and at least one digit, and an optional exponent: `e` or `E`, an optional sign, digits.
unfoldable pub is_decimal : List ℕ → Bool
is_decimal text = is_numeral (whole text ++ decimals text) && (not (list_any begins_exponent text) || is_numeral (exponent_digits text))

-- ---- the number that a decimal writes

-- the power of ten that the exponent multiplies by, and the one that it divides by
unfoldable pub raising : List ℕ → ℕ
raising text = if has_minus (exponent text) then 0 else digits_value 10 (exponent_digits text)

unfoldable pub lowering : List ℕ → ℕ
lowering text = if has_minus (exponent text) then digits_value 10 (exponent_digits text) else 0

-- The exact value is this fraction.
unfoldable pub numerator : List ℕ → ℕ
numerator text = digits_value 10 (whole text ++ decimals text) * 10 ^ raising text

unfoldable pub denominator : List ℕ → ℕ
denominator text = 10 ^ (length (decimals text) + lowering text)

-- the whole number nearest to n / d, the upper one of two
abbrev pub nearest : ℕ → ℕ → ℕ
nearest n d = (2 * n + d) / (2 * d)

-- the units nearest to the value
unfoldable pub decimal_units : List ℕ → ℕ
decimal_units text = nearest (numerator text * scale) (denominator text)

-- ---- numbers with a sign

abbrev pub signed : Bool → ℕ → ℤ
signed minus n = if minus then neg_ℤ (pos n) else pos n

-- The float that a text writes, a decimal after an optional minus, rounded half away from zero: none where the text is not of that form, or where the units pass the largest.
unfoldable pub fx_of : List ℕ → Option ℤ
fx_of text =
    let magnitude = without_minus text in
    if is_decimal magnitude && nat_le (decimal_units magnitude) fmax
    then Some (signed (has_minus text) (decimal_units magnitude))
    else None

-- the greatest magnitude of an int
abbrev pub int_limit : Bool → ℕ
int_limit minus = if minus then 2 ^ 31 else 2 ^ 31 - 1

-- The int that a text writes, digits after an optional minus: none where the text is not of that form, or where the int would need more than 32 bits.
unfoldable pub int_of : List ℕ → Option ℤ
int_of text =
    let magnitude = without_minus text in
    if is_numeral magnitude && nat_le (digits_value 10 magnitude) (int_limit (has_minus text))
    then Some (signed (has_minus text) (digits_value 10 magnitude))
    else None
