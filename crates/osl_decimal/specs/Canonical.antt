-- The canonical text of a number, of which there is one: what is printed, and what oso text takes.
use Rattle.std.specs.Prelude.{◌≡◌, ◌≢◌, ℕ, zero, suc, ◌+◌, ◌-◌, ◌/◌, ◌%◌, ◌^◌, ◌<◌, ◌≤◌, true, false, List, [], ◌∷◌, ◌++◌, length, ℤ, pos, negsuc, ◌==◌, slice_index, if◌then◌else◌}
use Rattle.std.specs.Fmt.{decimal, signed_decimal}
use Rattle.std.specs.List.{list_any}
use Rattle.osl_value.specs.Numbers.{scale}
use Rattle.osl_decimal.specs.Decimal.{has_minus, without_minus, is_numeral, is_point, begins_exponent, whole, decimals, is_decimal, decimal_units}

abbrev pub int_text : ℤ → List ℕ
int_text n = signed_decimal n

-- a fraction of so many places, digit by digit, up to the last that is not zero
abbrev pub places : ℕ → ℕ → List ℕ
places zero fraction = []
places (suc k) fraction = if fraction == 0 then [] else (48 + fraction / 10 ^ k) ∷ places k (fraction % 10 ^ k)

-- a fraction of nine places after its point, or nothing
unfoldable pub fraction_text : ℕ → List ℕ
fraction_text fraction = if fraction == 0 then [] else 46 ∷ places 9 fraction

unfoldable pub magnitude_text : ℕ → List ℕ
magnitude_text units = decimal (units / scale) ++ fraction_text (units % scale)

abbrev pub fx_text : ℤ → List ℕ
fx_text (pos n) = magnitude_text n
fx_text (negsuc n) = 45 ∷ magnitude_text (suc n)

-- ---- the rules that a canonical text keeps

-- no leading zero but one alone
abbrev pub HasNoLeadingZero : List ℕ → Type 0
HasNoLeadingZero digits = slice_index digits 0 ≡ 48 → length digits ≡ 1

-- no plus, no leading zero, and `0` for zero
pub record IsCanonicalInt (text : List ℕ) : Type 0 where
  pub numeral : is_numeral (without_minus text) ≡ true
  pub no_leading_zero : HasNoLeadingZero (without_minus text)
  pub no_minus_at_zero : has_minus text ≡ true → slice_index (without_minus text) 0 ≢ 48

-- no exponent, no leading zero but one before the point, no point without digits on both sides, at most nine decimals and no zero at their end
pub record IsCanonicalDecimal (text : List ℕ) : Type 0 where
  pub decimal : is_decimal text ≡ true
  pub no_exponent : list_any begins_exponent text ≡ false
  pub some_whole : 0 < length (whole text)
  pub no_leading_zero : HasNoLeadingZero (whole text)
  pub some_decimals : list_any is_point text ≡ true → 0 < length (decimals text)
  pub at_most_nine : length (decimals text) ≤ 9
  pub no_last_zero : slice_index (decimals text) (length (decimals text) - 1) ≢ 48

-- the same after an optional minus, and `0` for zero
pub record IsCanonicalFx (text : List ℕ) : Type 0 where
  pub magnitude : IsCanonicalDecimal (without_minus text)
  pub no_minus_at_zero : has_minus text ≡ true → 0 < decimal_units (without_minus text)
