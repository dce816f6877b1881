-- Canonical texts, written from the last byte on.
use Rattle.std.proofs.Common.{◌≡◌, ℕ, ◌/◌, ◌%◌, ◌≤◌, true, false, ◌∷◌, ◌++◌, length, ℤ, pos, negsuc, nat_abs, refl, arith, rules}
use Rattle.std.proofs.lemmas.Fmt.{length-decimal-le}
use Rattle.std.specs.Fmt.{decimal}
use Rattle.std.specs.Prelude.{int_lt}
use Rattle.osl_value.specs.Numbers.{scale, fmax}
use Rattle.osl_decimal.specs.Canonical.{fraction_text, magnitude_text, fx_text}

pub magnitude_text_is : (units : ℕ) → decimal (units / scale) ++ fraction_text (units % scale) ≡ magnitude_text units
unfolding magnitude_text
magnitude_text_is units = refl

-- at most ten digits are before the point
pub length-whole-le : (units : ℕ) → units ≤ fmax → length (decimal (units / scale)) ≤ 10
length-whole-le units small = length-decimal-le 10 (units / scale) (omega arith) (omega arith) (omega arith)

pub fx_text-minus : (x : ℤ) → int_lt x (pos 0) ≡ true → fx_text x ≡ 45 ∷ magnitude_text (nat_abs x)
fx_text-minus (pos n) h = absurd (search rules)
fx_text-minus (negsuc n) h = refl

pub fx_text-plain : (x : ℤ) → int_lt x (pos 0) ≡ false → fx_text x ≡ magnitude_text (nat_abs x)
fx_text-plain (pos n) h = refl
fx_text-plain (negsuc n) h = absurd (search rules)
