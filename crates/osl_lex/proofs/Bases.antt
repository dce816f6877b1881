-- The shortest numbers: a digit, and a point and a digit.
use Rattle.std.proofs.Common.{◌≡◌, ℕ, ◌+◌, ◌*◌, ◌^◌, ◌≤◌, true, false, [], ◌∷◌, refl, arith, pos}
use Rattle.std.specs.Str.Parse.{digits_value}
use Rattle.std.specs.Char.{is_ascii_digit, digit_value}
use Rattle.std.proofs.lemmas.Bool.Decides.{nat_tests}
use Rattle.osl_value.specs.Numbers.{scale, fmax}
use Rattle.osl_decimal.specs.Decimal.{is_point, mantissa, whole, decimals, exponent, exponent_digits, is_decimal, raising, lowering, numerator, denominator, nearest, decimal_units}
use Rattle.osl_tree.specs.Numbers.{decimal, plain}
use Rattle.osl_tree.specs.declared.token.TokenKind.TheVariants as kinds
use Rattle.osl_tree.specs.Lexical.{IsToken, int, float}
use Rattle.osl_lex.proofs.Runs.{digit_quiet}

digit_low : (d : ℕ) → is_ascii_digit d ≡ true → digit_value d ≤ 9
digit_low d digit = grind (arith, nat_tests)

pub digit_token : (d : ℕ) → is_ascii_digit d ≡ true → IsToken (d ∷ []) (kinds.Int (pos (digits_value 10 (d ∷ []))))
digit_token d digit =
    let low = digit_low d digit in
    int (d ∷ []) (pos (digits_value 10 (d ∷ []))) (decimal (d ∷ []) (rw digit refl) (omega arith))

digit_no_point : (d : ℕ) → is_ascii_digit d ≡ true → is_point d ≡ false
digit_no_point d digit = grind (arith, nat_tests)

point_decimal : (d : ℕ) → is_ascii_digit d ≡ true → is_decimal (46 ∷ d ∷ []) ≡ true
unfolding is_decimal whole decimals mantissa exponent exponent_digits
point_decimal d digit = rw (digit_quiet d digit, digit) refl

point_units : (d : ℕ) → is_ascii_digit d ≡ true → decimal_units (46 ∷ d ∷ []) ≡ nearest ((0 * 10 + digit_value d) * 10 ^ 0 * scale) (10 ^ 1)
unfolding decimal_units numerator denominator raising lowering whole decimals mantissa exponent exponent_digits
point_units d digit = rw (digit_quiet d digit) refl

point_low : (n : ℕ) → n ≤ 9 → nearest ((0 * 10 + n) * 10 ^ 0 * scale) (10 ^ 1) ≤ fmax
point_low n low = omega arith

pub point_token : (d : ℕ) → is_ascii_digit d ≡ true → IsToken (46 ∷ d ∷ []) (kinds.Float (pos (decimal_units (46 ∷ d ∷ []))))
point_token d digit = float (46 ∷ d ∷ []) (pos (decimal_units (46 ∷ d ∷ []))) (plain (46 ∷ d ∷ []) (record {
  decimal = point_decimal d digit;
  marked = refl;
  in_range = rw (point_units d digit) (point_low (digit_value d) (digit_low d digit));
}))
