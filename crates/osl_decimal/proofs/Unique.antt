-- A text that keeps the rules of the canonical text is the canonical text of the number that it is read as.
use Rattle.std.proofs.Common.{◌≡◌, ◌≢◌, ℕ, zero, suc, ◌+◌, ◌-◌, ◌*◌, ◌/◌, ◌%◌, ◌^◌, ◌<◌, ◌≤◌, Bool, true, false, nat_lt, List, [], ◌∷◌, ◌++◌, length, get_or, ℤ, pos, neg_ℤ, Some, refl, sym, ap, subst, append-nil, ⊎_elim, ◌∙◌, zero-mul, arith}
use Rattle.std.proofs.Math.Nat.{one-le-pow, le-mul_of_pos_right, mul-lt-mul_of_pos_right}
use Rattle.std.proofs.lemmas.Bool.{and_parts, cases_lt, cases_Bool, both_ways, eqb-true, ltb-true}
use Rattle.std.proofs.lemmas.Fmt.{decimal-digits_value, decimal_digit}
use Rattle.std.proofs.lemmas.List.Sums.{split_at_first, passes_at_first}
use Rattle.std.proofs.lemmas.Nat.{pow-add, div-mul-add, mod-mul-add}
use Rattle.std.proofs.lemmas.Str.{digit_value_digit}
use Rattle.std.specs.Char.{digit_value, is_ascii_digit}
use Rattle.std.specs.Fmt.{decimal}
use Rattle.std.specs.List.{list_any, position_or_len, before_first, after_first}
use Rattle.std.specs.Str.Parse.{digits_value}
use Rattle.osl_value.specs.Numbers.{scale, fmax}
use Rattle.osl_decimal.specs.Canonical.{places, fraction_text, magnitude_text, fx_text, int_text, IsCanonicalInt, IsCanonicalDecimal, IsCanonicalFx}
use Rattle.osl_decimal.specs.Decimal.{are_digits, has_minus, without_minus, is_point, begins_exponent, whole, decimals, decimal_units, signed, fx_of, int_of}
use Rattle.osl_decimal.proofs.Forms.{whole_is, decimals_is, is_decimal-digits}
use Rattle.osl_decimal.proofs.Numbers.{fx_of-some, int_of-some, int_limit-le}
use Rattle.osl_decimal.proofs.Splits.{all_fail}
use Rattle.osl_decimal.proofs.Texts.{magnitude_text_is}
use Rattle.osl_decimal.proofs.Units.{units-plain}
use Rattle.osl_decimal.proofs.Numerals.{numerals, digits_of_parts, value-append, value-cons, value-lt}
use Rattle.osl_decimal.proofs.Places.{places-nonzero, places-zero, fraction_text-pointed, fraction_text-bare}
use Rattle.osl_decimal.proofs.RoundTrip.{mantissa-all, whole-plain, decimals-plain, digit_bounds, spread, joined}

-- the last byte of a text
abbrev pub last : List ℕ → ℕ
last text = get_or text (length text - 1) 0

pub last-none : last [] ≢ 48
last-none e = absurd (omega arith)

pub last-one : (d : ℕ) → last (d ∷ []) ≡ d
last-one d = let first : length (d ∷ []) - 1 ≡ 0 = omega arith in ap (λ i. get_or (d ∷ []) i 0) first

pub last-more : (d e : ℕ) (es : List ℕ) → last (d ∷ e ∷ es) ≡ last (e ∷ es)
last-more d e es =
    let long : length (d ∷ e ∷ es) - 1 ≡ suc (length es) = omega arith in
    let short : length es ≡ length (e ∷ es) - 1 = omega arith in
    ap (λ i. get_or (d ∷ e ∷ es) i 0) long ∙ ap (λ i. get_or (e ∷ es) i 0) short

ends_behind : (d : ℕ) (ds : List ℕ) → last (d ∷ ds) ≢ 48 → last ds ≢ 48
ends_behind d [] ends = last-none
ends_behind d (e ∷ es) ends = λ zero_last. ends (last-more d e es ∙ zero_last)

-- decimals without a zero at their end are what is written of the fraction that they make
pub places_is : (k : ℕ) (ds : List ℕ) → are_digits ds ≡ true → length ds ≤ k → last ds ≢ 48 → places k (digits_value 10 ds * 10 ^ (k - length ds)) ≡ ds
places_is k [] digits few ends = ap (places k) (zero-mul (10 ^ (k - 0))) ∙ places-zero k
places_is zero (d ∷ ds) digits few ends = absurd (omega arith)
places_is (suc k) (d ∷ ds) digits few ends =
    let parts = and_parts (is_ascii_digit d) (are_digits ds) digits in
    let rest = digits_value 10 ds * 10 ^ (k - length ds) in
    let digit = digit_value d in
    let again : places k rest ≡ ds = places_is k ds parts.1 (omega arith) (ends_behind d ds ends) in
    let d_is : digit + 48 ≡ d = digit_value_digit d (digit_bounds d parts.0) in
    let powers : 10 ^ length ds * 10 ^ (k - length ds) ≡ 10 ^ k = sym (pow-add 10 (length ds) (k - length ds)) ∙ ap (λ j. 10 ^ j) (omega arith) in
    let less : suc k - length (d ∷ ds) ≡ k - length ds = omega arith in
    let fraction_is : digits_value 10 (d ∷ ds) * 10 ^ (suc k - length (d ∷ ds)) ≡ digit * 10 ^ k + rest =
    ap (λ j. digits_value 10 (d ∷ ds) * 10 ^ j) less
    ∙ ap (λ v. v * 10 ^ (k - length ds)) (value-cons d ds)
    ∙ spread digit (10 ^ length ds) (digits_value 10 ds) (10 ^ (k - length ds))
    ∙ ap (λ p. digit * p + rest) powers in
    let below : rest < 10 ^ k = omega (arith, powers, mul-lt-mul_of_pos_right (value-lt ds parts.1) (one-le-pow (k - length ds) 10 (omega arith))) in
    let nonzero : digit * 10 ^ k + rest ≢ 0 = λ zero_is.
    let large : digit ≤ digit * 10 ^ k = le-mul_of_pos_right digit (one-le-pow k 10 (omega arith)) in
    let rest_is : rest ≡ 0 = omega arith in
    let nothing : ds ≡ [] = sym again ∙ ap (places k) rest_is ∙ places-zero k in
    ends (ap (λ xs. last (d ∷ xs)) nothing ∙ last-one d ∙ omega (arith, d_is, large)) in
    ap (places (suc k)) fraction_is
    ∙ places-nonzero k (digit * 10 ^ k + rest) nonzero
    ∙ ap (λ n. (48 + n) ∷ places k ((digit * 10 ^ k + rest) % 10 ^ k)) (div-mul-add digit (10 ^ k) rest below)
    ∙ ap (λ r. (48 + digit) ∷ places k r) (mod-mul-add digit (10 ^ k) rest below)
    ∙ ap (λ ds'. (48 + digit) ∷ ds') again
    ∙ ap (λ c. c ∷ ds) (omega (arith, d_is))

negative_text : (units : ℕ) → 0 < units → 45 ∷ magnitude_text units ≡ fx_text (neg_ℤ (pos units))
negative_text zero some = absurd (omega arith)
negative_text (suc units) some = refl

-- ---- floats

record WholeAndFraction (text : List ℕ) (fraction : ℕ) : Type 0 where
  below : fraction < scale
  written : places 9 fraction ≡ decimals text
  units_is : decimal_units text ≡ digits_value 10 (whole text) * scale + fraction

parted : (text : List ℕ) → IsCanonicalDecimal text → WholeAndFraction text (digits_value 10 (decimals text) * 10 ^ (9 - length (decimals text)))
parted text rules' =
    let front = whole text in
    let back = decimals text in
    let zeros = 10 ^ (9 - length back) in
    let numeral = and_parts (nat_lt 0 (length (front ++ back))) (are_digits (front ++ back)) (is_decimal-digits text rules'.decimal) in
    let digits = digits_of_parts front back numeral.1 in
    let all : length back + (9 - length back) ≡ 9 = omega (arith, rules'.at_most_nine) in
    let powers : 10 ^ length back * zeros ≡ 10 ^ 9 = sym (pow-add 10 (length back) (9 - length back)) ∙ ap (λ k. 10 ^ k) all in
    record {
      below = omega (arith, powers, mul-lt-mul_of_pos_right (value-lt back digits.1) (one-le-pow (9 - length back) 10 (omega arith)));
      written = places_is 9 back digits.1 rules'.at_most_nine rules'.no_last_zero;
      units_is =
          units-plain text rules'.no_exponent rules'.at_most_nine
          ∙ ap (λ v. v * zeros) (value-append front back)
          ∙ joined (digits_value 10 front) (10 ^ length back) (digits_value 10 back) zeros
          ∙ ap (λ p. digits_value 10 front * p + digits_value 10 back * zeros) powers;
    }

-- digits, a point and digits make up the text, where it has a point
pub around_point : (text : List ℕ) → list_any begins_exponent text ≡ false → list_any is_point text ≡ true → text ≡ whole text ++ 46 ∷ decimals text
around_point text no_exponent some =
    let all = mantissa-all text no_exponent in
    let within : position_or_len is_point text < length text = ⊎_elim
    (λ h. h)
    (λ past. absurd (both_ways true (sym some ∙ all_fail is_point text past) refl))
    (cases_lt (position_or_len is_point text) (length text)) in
    let point = eqb-true _ 46 (passes_at_first is_point text 0 within) in
    split_at_first is_point text 0 within
    ∙ ap (λ c. before_first is_point text ++ c ∷ after_first is_point text) point
    ∙ ap (λ front. front ++ 46 ∷ after_first is_point text) (whole_is text text (sym all))
    ∙ ap (λ back. whole text ++ 46 ∷ back) (decimals_is text text (sym all))

magnitude_is : (text : List ℕ) → IsCanonicalDecimal text → decimal_units text ≤ fmax → magnitude_text (decimal_units text) ≡ text
magnitude_is text rules' small =
    let front = whole text in
    let back = decimals text in
    let front_value = digits_value 10 front in
    let fraction = digits_value 10 back * 10 ^ (9 - length back) in
    let parts = parted text rules' in
    let numeral = and_parts (nat_lt 0 (length (front ++ back))) (are_digits (front ++ back)) (is_decimal-digits text rules'.decimal) in
    let digits = digits_of_parts front back numeral.1 in
    let fits : front_value < 2 ^ 64 = omega (arith, parts.units_is) in
    let front_is : decimal front_value ≡ front = decimal-digits_value numerals front digits.0 rules'.some_whole rules'.no_leading_zero fits in
    let quotient : decimal_units text / scale ≡ front_value = ap (λ n. n / scale) parts.units_is ∙ div-mul-add front_value scale fraction parts.below in
    let remainder : decimal_units text % scale ≡ fraction = ap (λ n. n % scale) parts.units_is ∙ mod-mul-add front_value scale fraction parts.below in
    let count = ap length parts.written in
    sym (magnitude_text_is (decimal_units text))
    ∙ ap (λ n. decimal n ++ fraction_text (decimal_units text % scale)) quotient
    ∙ ap (λ ds. ds ++ fraction_text (decimal_units text % scale)) front_is
    ∙ ap (λ f. front ++ fraction_text f) remainder
    ∙ ⊎_elim
    (λ (pointed : list_any is_point text ≡ true).
    let some = rules'.some_decimals pointed in
    ap (λ rest. front ++ rest) (fraction_text-pointed fraction (omega (arith, count)) ∙ ap (λ ds. 46 ∷ ds) parts.written)
    ∙ sym (around_point text rules'.no_exponent pointed))
    (λ (bare : list_any is_point text ≡ false).
    let none = ap length (decimals-plain text rules'.no_exponent bare) in
    ap (λ rest. front ++ rest) (fraction_text-bare fraction parts.below (omega (arith, count, none)))
    ∙ append-nil front
    ∙ whole-plain text rules'.no_exponent bare)
    (cases_Bool (list_any is_point text))

pub unsigned : (text : List ℕ) → has_minus text ≡ false → without_minus text ≡ text
unsigned text plain = rw plain refl

behind_minus : (text : List ℕ) → has_minus text ≡ true → text ≡ 45 ∷ without_minus text
behind_minus [] minus = absurd cc
behind_minus (c ∷ text) minus = rw minus (ap (λ d. d ∷ text) (eqb-true c 45 minus))

pub canonical_fx : (text : List ℕ) (x : ℤ) → IsCanonicalFx text → fx_of text ≡ Some x → text ≡ fx_text x
canonical_fx text x rules' read =
    let number = fx_of-some text x read in
    let magnitude = magnitude_is (without_minus text) rules'.magnitude number.0 in
    ⊎_elim
    (λ minus.
    let P : Bool → Type 0 = λ b. signed b (decimal_units (without_minus text)) ≡ x in
    let negative : neg_ℤ (pos (decimal_units (without_minus text))) ≡ x = subst P minus number.1 in
    behind_minus text minus
    ∙ ap (λ rest. 45 ∷ rest) (sym magnitude)
    ∙ negative_text (decimal_units (without_minus text)) (rules'.no_minus_at_zero minus)
    ∙ ap fx_text negative)
    (λ plain.
    let P : Bool → Type 0 = λ b. signed b (decimal_units (without_minus text)) ≡ x in
    sym (unsigned text plain) ∙ sym magnitude ∙ ap fx_text (subst P plain number.1))
    (cases_Bool (has_minus text))

-- ---- ints

negative_int : (n : ℕ) → 0 < n → 45 ∷ decimal n ≡ int_text (neg_ℤ (pos n))
negative_int zero some = absurd (omega arith)
negative_int (suc n) some = refl

pub canonical_int : (text : List ℕ) (n : ℤ) → IsCanonicalInt text → int_of text ≡ Some n → text ≡ int_text n
canonical_int text n rules' read =
    let number = int_of-some text n read in
    let magnitude = without_minus text in
    let value = digits_value 10 magnitude in
    let numeral = and_parts (nat_lt 0 (length magnitude)) (are_digits magnitude) rules'.numeral in
    let digits : decimal value ≡ magnitude = decimal-digits_value numerals magnitude numeral.1 (ltb-true 0 (length magnitude) numeral.0) rules'.no_leading_zero (omega (arith, number.0, int_limit-le (has_minus text))) in
    let P : Bool → Type 0 = λ b. signed b value ≡ n in
    ⊎_elim
    (λ minus.
    let negative : neg_ℤ (pos value) ≡ n = subst P minus number.1 in
    let positive : 0 < value = ⊎_elim
    (λ (some : 0 < value). some)
    (λ (none : value ≤ 0).
    let zero_is : value ≡ 0 = omega arith in
    let first : get_or magnitude 0 0 ≡ 48 = ap (λ ds. get_or ds 0 0) (sym digits ∙ ap decimal zero_is ∙ decimal_digit 0 (omega arith)) in
    absurd (rules'.no_minus_at_zero minus first))
    (cases_lt 0 value) in
    behind_minus text minus
    ∙ ap (λ rest. 45 ∷ rest) (sym digits)
    ∙ negative_int value positive
    ∙ ap int_text negative)
    (λ plain. sym (unsigned text plain) ∙ sym digits ∙ ap int_text (subst P plain number.1))
    (cases_Bool (has_minus text))
