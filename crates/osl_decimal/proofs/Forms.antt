-- Which texts are decimals, and what their parts are.
use Rattle.std.proofs.Common.{◌≡◌, ℕ, true, false, List, [], ◌++◌, refl, sym, ap, ◌∙◌, arith}
use Rattle.std.proofs.Math.ListN.{drop_of_length-le}
use Rattle.std.proofs.lemmas.Bool.{and_parts}
use Rattle.std.specs.List.{list_any, before_first, after_first}
use Rattle.osl_decimal.specs.Decimal.{has_minus, is_numeral, is_point, begins_exponent, mantissa, whole, decimals, exponent, exponent_digits, without_sign, is_decimal}
use Rattle.osl_decimal.proofs.Splits.{none_passes}

pub whole_is : (text part : List ℕ) → part ≡ mantissa text → before_first is_point part ≡ whole text
unfolding whole
whole_is text part e = ap (before_first is_point) e

pub decimals_is : (text part : List ℕ) → part ≡ mantissa text → after_first is_point part ≡ decimals text
unfolding decimals
decimals_is text part e = ap (after_first is_point) e

pub exponent_digits_is : (text part : List ℕ) → part ≡ exponent text → without_sign part ≡ exponent_digits text
unfolding exponent_digits
exponent_digits_is text part e = ap without_sign e

-- ---- no exponent

pub exponent-none : (text : List ℕ) → list_any begins_exponent text ≡ false → exponent text ≡ []
unfolding exponent
exponent-none text none = drop_of_length-le text (omega (arith, none_passes begins_exponent text none))

pub exponent_digits-none : (text : List ℕ) → list_any begins_exponent text ≡ false → exponent_digits text ≡ []
exponent_digits-none text none = sym (exponent_digits_is text [] (sym (exponent-none text none)))

pub sign-none : (text : List ℕ) → list_any begins_exponent text ≡ false → has_minus (exponent text) ≡ false
sign-none text none = ap has_minus (exponent-none text none)

-- ---- the form

pub is_decimal-no_digits : (text : List ℕ) → is_numeral (whole text ++ decimals text) ≡ false → is_decimal text ≡ false
unfolding is_decimal
is_decimal-no_digits text h = rw h refl

pub is_decimal-plain : (text : List ℕ) → is_numeral (whole text ++ decimals text) ≡ true → list_any begins_exponent text ≡ false → is_decimal text ≡ true
unfolding is_decimal
is_decimal-plain text h none = rw (h, none) refl

pub is_decimal-exponent : (text : List ℕ) → is_numeral (whole text ++ decimals text) ≡ true → list_any begins_exponent text ≡ true → is_decimal text ≡ is_numeral (exponent_digits text)
unfolding is_decimal
is_decimal-exponent text h some = rw (h, some) refl

pub numeral_is : (text part front back : List ℕ) → part ≡ mantissa text → front ≡ before_first is_point part → back ≡ after_first is_point part → is_numeral (front ++ back) ≡ is_numeral (whole text ++ decimals text)
numeral_is text part front back e f b = rw (f ∙ whole_is text part e, b ∙ decimals_is text part e) refl

pub is_decimal-digits : (text : List ℕ) → is_decimal text ≡ true → is_numeral (whole text ++ decimals text) ≡ true
unfolding is_decimal
is_decimal-digits text h = (and_parts _ _ h).0
