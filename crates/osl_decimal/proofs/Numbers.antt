-- What a text reads as, case by case.
use Rattle.std.proofs.Common.{◌≡◌, ℕ, zero, suc, ◌^◌, ◌<◌, ◌≤◌, Bool, true, false, ◌&&◌, cond, leb, List, ℤ, pos, negsuc, Some, None, refl, ap, arith, rules}
use Rattle.std.proofs.lemmas.Bool.{le-leb, lt-leb, and_right, and_parts, leb-true}
use Rattle.std.specs.Int.{w32}
use Rattle.std.specs.Int.RustNames.{FitsSigned}
use Rattle.std.specs.Str.Parse.{digits_value}
use Rattle.osl_value.specs.Numbers.{fmax, saturated}
use Rattle.osl_decimal.specs.Decimal.{has_minus, without_minus, is_numeral, is_decimal, decimal_units, signed, fx_of, int_limit, int_of}

pub fx_of-no_decimal : (text : List ℕ) → is_decimal (without_minus text) ≡ false → fx_of text ≡ None
unfolding fx_of
fx_of-no_decimal text h = rw h refl

pub fx_of-large : (text : List ℕ) → fmax < decimal_units (without_minus text) → fx_of text ≡ None
unfolding fx_of
fx_of-large text h = rw (and_right (is_decimal (without_minus text)) (leb (decimal_units (without_minus text)) fmax) (lt-leb _ _ h)) refl

pub fx_of-number : (text : List ℕ) → is_decimal (without_minus text) ≡ true → decimal_units (without_minus text) ≤ fmax → fx_of text ≡ Some (signed (has_minus text) (decimal_units (without_minus text)))
unfolding fx_of
fx_of-number text h small = rw (h, le-leb (decimal_units (without_minus text)) fmax small) refl

pub int_of-no_numeral : (text : List ℕ) → is_numeral (without_minus text) ≡ false → int_of text ≡ None
unfolding int_of
int_of-no_numeral text h = rw h refl

pub int_of-large : (text : List ℕ) → int_limit (has_minus text) < digits_value 10 (without_minus text) → int_of text ≡ None
unfolding int_of
int_of-large text h = rw (and_right (is_numeral (without_minus text)) (leb (digits_value 10 (without_minus text)) (int_limit (has_minus text))) (lt-leb _ _ h)) refl

pub int_of-number : (text : List ℕ) → is_numeral (without_minus text) ≡ true → digits_value 10 (without_minus text) ≤ int_limit (has_minus text) → int_of text ≡ Some (signed (has_minus text) (digits_value 10 (without_minus text)))
unfolding int_of
int_of-number text h small = rw (h, le-leb (digits_value 10 (without_minus text)) (int_limit (has_minus text)) small) refl

-- ---- signs

pub saturated-signed : (minus : Bool) (n : ℕ) → n ≤ fmax → saturated (signed minus n) ≡ signed minus n
saturated-signed true zero small = refl
saturated-signed true (suc n) small = ap negsuc (omega arith)
saturated-signed false n small = ap pos (omega arith)

pub signed-fits : (minus : Bool) (n : ℕ) → n ≤ int_limit minus → FitsSigned w32 (signed minus n)
signed-fits true zero small = search rules
signed-fits true (suc n) small = search rules
signed-fits false n small = search rules

pub int_limit-le : (minus : Bool) → int_limit minus ≤ 2 ^ 31
int_limit-le true = omega arith
int_limit-le false = omega arith

-- ---- and back: what a number that was read says of its text

taken : {A : Type 0} (b : Bool) (y x : A) → cond b (Some y) None ≡ Some x → (b ≡ true) × (y ≡ x)
taken true y x h = (refl, cc)
taken false y x h = absurd cc

pub fx_of-some : (text : List ℕ) (x : ℤ) → fx_of text ≡ Some x → (decimal_units (without_minus text) ≤ fmax) × (signed (has_minus text) (decimal_units (without_minus text)) ≡ x)
unfolding fx_of
fx_of-some text x h =
    let both = taken (is_decimal (without_minus text) && leb (decimal_units (without_minus text)) fmax) _ x h in
    (leb-true _ _ (and_parts _ _ both.0).1, both.1)

pub int_of-some : (text : List ℕ) (n : ℤ) → int_of text ≡ Some n → (digits_value 10 (without_minus text) ≤ int_limit (has_minus text)) × (signed (has_minus text) (digits_value 10 (without_minus text)) ≡ n)
unfolding int_of
int_of-some text n h =
    let both = taken (is_numeral (without_minus text) && leb (digits_value 10 (without_minus text)) (int_limit (has_minus text))) _ n h in
    (leb-true _ _ (and_parts _ _ both.0).1, both.1)
