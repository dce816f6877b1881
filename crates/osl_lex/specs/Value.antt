-- The number that a text is, if it is one.
use Rattle.std.specs.Prelude.{ℕ, ◌-◌, ◌^◌, nat_lt, ◌&&◌, ◌||◌, ◌==◌, Bool, if◌then◌else◌, List, length, drop, take, slice_index, ℤ, Option, None, Some, option_map}
use Rattle.std.specs.Option.{option_or}
use Rattle.std.specs.List.{list_any}
use Rattle.std.specs.Int.{w32, cast_signed}
use Rattle.std.specs.Str.Parse.{digits_value}
use Rattle.osl_decimal.specs.Decimal.{is_point, begins_exponent, int_of, fx_of}
use Rattle.osl_tree.specs.Numbers.{is_hex_numeral}
use Rattle.osl_tree.specs.declared.token.TokenKind.{TokenKind}
use Rattle.osl_tree.specs.declared.token.TokenKind.TheVariants as kinds
use Rattle.osl_lex.specs.Scan.{is_hex}

-- the int of hexadecimal digits
unfoldable pub hex_of : List ℕ → Option ℤ
hex_of digits =
    if is_hex_numeral digits && nat_lt (digits_value 16 digits) (2 ^ 32) then Some (cast_signed w32 (digits_value 16 digits)) else None

abbrev pub is_marked : List ℕ → Bool
is_marked text = list_any (λ c. is_point c || begins_exponent c) text

-- an `f` or `F` stands last
abbrev pub has_suffix : List ℕ → Bool
has_suffix text = let last = slice_index text (length text - 1) in (last == 102) || (last == 70)

abbrev pub without_suffix : List ℕ → List ℕ
without_suffix text = take (length text - (if has_suffix text then 1 else 0)) text

-- the float of a decimal with a point or an exponent, and perhaps an `f` behind it
unfoldable pub float_of : List ℕ → Option ℤ
float_of text = if is_marked (without_suffix text) then fx_of (without_suffix text) else None

unfoldable pub number_of : List ℕ → Option TokenKind
number_of text =
    if is_hex text then option_map kinds.Int (hex_of (drop 2 text))
    else option_or (option_map kinds.Int (int_of text)) (option_map kinds.Float (float_of text))
