-- What the parts that the code holds of a decimal are.
use Rattle.std.specs.Prelude.{◌≡◌, ℕ, List}
use Rattle.osl_decimal.specs.Decimal.{has_minus, whole, decimals, exponent, exponent_digits}
use Rattle.osl_decimal.specs.declared.decimal.Decimal.{Decimal}

-- They are the parts of this text.
pub record HasParts (text : List ℕ) (parts : Decimal) : Type 0 where
  pub whole_is : parts.whole.now ≡ whole text
  pub decimals_is : parts.decimals.now ≡ decimals text
  pub divides_is : parts.divides ≡ has_minus (exponent text)
  pub exponent_is : parts.exponent.now ≡ exponent_digits text
