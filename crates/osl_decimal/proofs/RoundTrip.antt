-- A canonical text is read as the number that it was written for.
use Rattle.std.proofs.Common.{◌≡◌, ℕ, zero, suc, ◌+◌, ◌-◌, ◌*◌, ◌/◌, ◌%◌, ◌^◌, ◌<◌, ◌≤◌, true, false, cond, eqb, List, [], ◌∷◌, ◌++◌, length, length-append, take, drop, ℤ, pos, negsuc, Some, refl, sym, ap, subst, append-nil, ⊎_elim, ◌∙◌, zero-mul, arith}
use Rattle.std.proofs.Math.Nat.{div-add-mod', one-le-pow, pow-succ'}
use Rattle.std.proofs.Math.Seq.{take-append_seam, drop-append-add}
use Rattle.std.proofs.lemmas.Bool.{and_parts, and_from, ne_eqb, cases_eq, or_from, or_parts, le-leb, leb-true, lt-ltb, eq-eqb, cond-true, cond-false}
use Rattle.std.proofs.lemmas.Fmt.{digits_decimal, digits_value-decimal, decimal_nonempty}
use Rattle.std.proofs.lemmas.List.{take_all, drop_all}
use Rattle.std.proofs.lemmas.Nat.{pow-add, div_below, mod_below}
use Rattle.std.specs.Char.{digit_value, is_ascii_digit}
use Rattle.std.specs.Fmt.{decimal}
use Rattle.std.specs.Int.{w32}
use Rattle.std.specs.Int.RustNames.{FitsSigned}
use Rattle.std.specs.List.{list_any, position_or_len, before_first, after_first}
use Rattle.std.specs.Str.Parse.{digits_value}
use Rattle.osl_value.specs.Numbers.{scale, fmax, IsInRange}
use Rattle.osl_decimal.specs.Canonical.{places, fraction_text, magnitude_text, fx_text, int_text}
use Rattle.osl_decimal.specs.Decimal.{are_digits, has_minus, without_minus, is_numeral, is_point, begins_exponent, mantissa, whole, decimals, is_decimal, decimal_units, signed, fx_of, int_limit, int_of}
use Rattle.osl_decimal.proofs.Numerals.{numerals, digits-append, digit_in_range, digit_value_is, value-append, value-cons}
use Rattle.osl_decimal.proofs.Forms.{whole_is, decimals_is, is_decimal-plain}
use Rattle.osl_decimal.proofs.Numbers.{fx_of-number, int_of-number, int_limit-le}
use Rattle.osl_decimal.proofs.Units.{all_digits, units-plain}
use Rattle.std.proofs.Math.ListN.{get_or-append}
use Rattle.osl_decimal.proofs.Places.{places-zero, places-nonzero}
use Rattle.osl_decimal.proofs.Splits.{none_passes}
use Rattle.std.proofs.lemmas.List.Folds.{list_any-append}

-- ---- the decimals of a fraction

places-below : (k fraction : ℕ) → fraction < 10 ^ suc k → fraction / 10 ^ k < 10
places-below k fraction small = div_below fraction (10 ^ k) 10 (one-le-pow k 10 (omega arith)) (omega (arith, pow-succ' 10 k))

digit_byte : (digit : ℕ) → digit < 10 → is_ascii_digit (48 + digit) ≡ true
digit_byte digit small = and_from _ _ (le-leb 48 (48 + digit) (omega arith)) (le-leb (48 + digit) 57 (omega arith))

pub length-places-le : (k fraction : ℕ) → length (places k fraction) ≤ k
length-places-le zero fraction = omega arith
length-places-le (suc k) fraction = elim (eqb fraction 0) as (λ b. length (cond b [] ((48 + fraction / 10 ^ k) ∷ places k (fraction % 10 ^ k))) ≤ suc k) [
  | true ↦ omega arith
  | false ↦ omega (arith, length-places-le k (fraction % 10 ^ k))
]

pub digits-places : (k fraction : ℕ) → fraction < 10 ^ k → are_digits (places k fraction) ≡ true
digits-places zero fraction small = refl
digits-places (suc k) fraction small = elim (eqb fraction 0) as (λ b. are_digits (cond b [] ((48 + fraction / 10 ^ k) ∷ places k (fraction % 10 ^ k))) ≡ true) [
  | true ↦ refl
  | false ↦ and_from _ _ (digit_byte (fraction / 10 ^ k) (places-below k fraction small)) (digits-places k (fraction % 10 ^ k) (mod_below fraction (10 ^ k) (one-le-pow k 10 (omega arith))))
]

pub spread : (digit p value q : ℕ) → (digit * p + value) * q ≡ digit * (p * q) + value * q
spread digit p value q = omega arith

-- the zeros that were left out give the fraction again
pub value-places : (k fraction : ℕ) → fraction < 10 ^ k → digits_value 10 (places k fraction) * 10 ^ (k - length (places k fraction)) ≡ fraction
value-places zero fraction small = omega arith
value-places (suc k) fraction small =
    let digit = fraction / 10 ^ k in
    let rest = fraction % 10 ^ k in
    let list = places k rest in
    let few = length-places-le k rest in
    let digit_small = places-below k fraction small in
    let scaled = value-places k rest (mod_below fraction (10 ^ k) (one-le-pow k 10 (omega arith))) in
    let digit_is : digit_value (48 + digit) ≡ digit = digit_value_is (48 + digit) (omega arith, omega arith) ∙ omega arith in
    let less : suc k - length ((48 + digit) ∷ list) ≡ k - length list = omega arith in
    let powers : 10 ^ length list * 10 ^ (k - length list) ≡ 10 ^ k = sym (pow-add 10 (length list) (k - length list)) ∙ ap (λ j. 10 ^ j) (omega arith) in
    ⊎_elim
    (λ zero_is. ap (λ f. digits_value 10 (places (suc k) f) * 10 ^ (suc k - length (places (suc k) f))) zero_is ∙ zero-mul (10 ^ (suc k - 0)) ∙ sym zero_is)
    (λ nonzero.
    ap (λ ds. digits_value 10 ds * 10 ^ (suc k - length ds)) (places-nonzero k fraction nonzero)
    ∙ ap (λ j. digits_value 10 ((48 + digit) ∷ list) * 10 ^ j) less
    ∙ ap (λ v. v * 10 ^ (k - length list)) (value-cons (48 + digit) list ∙ ap (λ d. d * 10 ^ length list + digits_value 10 list) digit_is)
    ∙ spread digit (10 ^ length list) (digits_value 10 list) (10 ^ (k - length list))
    ∙ ap (λ p. digit * p + digits_value 10 list * 10 ^ (k - length list)) powers
    ∙ ap (λ r. digit * 10 ^ k + r) scaled
    ∙ div-add-mod' fraction (10 ^ k))
    (cases_eq fraction 0)

-- ---- bytes that no canonical text has

pub digit_bounds : (c : ℕ) → is_ascii_digit c ≡ true → (48 ≤ c) × (c ≤ 57)
digit_bounds c h = let parts = and_parts _ _ h in (leb-true 48 c parts.0, leb-true c 57 parts.1)

no_mark_in_digit : (c : ℕ) → is_ascii_digit c ≡ true → begins_exponent c ≡ false
no_mark_in_digit c h = let bounds = digit_bounds c h in or_from _ _ (ne_eqb c 101 (λ e. absurd (omega arith))) (ne_eqb c 69 (λ e. absurd (omega arith)))

no_point_in_digit : (c : ℕ) → is_ascii_digit c ≡ true → is_point c ≡ false
no_point_in_digit c h = let bounds = digit_bounds c h in ne_eqb c 46 (λ e. absurd (omega arith))

no_mark : (digits : List ℕ) → are_digits digits ≡ true → list_any begins_exponent digits ≡ false
no_mark [] h = refl
no_mark (c ∷ digits) h =
    let parts = and_parts (is_ascii_digit c) (are_digits digits) h in
    or_from _ _ (no_mark_in_digit c parts.0) (no_mark digits parts.1)

no_point : (digits : List ℕ) → are_digits digits ≡ true → list_any is_point digits ≡ false
no_point [] h = refl
no_point (c ∷ digits) h =
    let parts = and_parts (is_ascii_digit c) (are_digits digits) h in
    or_from _ _ (no_point_in_digit c parts.0) (no_point digits parts.1)

point_place : (front back : List ℕ) → list_any is_point front ≡ false → position_or_len is_point (front ++ 46 ∷ back) ≡ length front
point_place [] back none = refl
point_place (c ∷ front) back none =
    let parts = or_parts (is_point c) (list_any is_point front) none in
    rw parts.0 (omega (arith, point_place front back parts.1))

-- what a text is parted into at its first point
before_point : (front back : List ℕ) → list_any is_point front ≡ false → before_first is_point (front ++ 46 ∷ back) ≡ front
before_point front back none = ap (λ i. take i (front ++ 46 ∷ back)) (point_place front back none) ∙ take-append_seam front (46 ∷ back)

after_point : (front back : List ℕ) → list_any is_point front ≡ false → after_first is_point (front ++ 46 ∷ back) ≡ back
after_point front back none = ap (λ i. drop (i + 1) (front ++ 46 ∷ back)) (point_place front back none) ∙ drop-append-add front (46 ∷ back) 1

-- ---- the parts of digits, and of digits around a point

pub mantissa-all : (text : List ℕ) → list_any begins_exponent text ≡ false → mantissa text ≡ text
unfolding mantissa
mantissa-all text none = take_all _ text (omega (arith, none_passes begins_exponent text none))

pub whole-plain : (text : List ℕ) → list_any begins_exponent text ≡ false → list_any is_point text ≡ false → whole text ≡ text
whole-plain text no_exponent none =
    sym (whole_is text text (sym (mantissa-all text no_exponent))) ∙ take_all _ text (omega (arith, none_passes is_point text none))

pub decimals-plain : (text : List ℕ) → list_any begins_exponent text ≡ false → list_any is_point text ≡ false → decimals text ≡ []
decimals-plain text no_exponent none =
    sym (decimals_is text text (sym (mantissa-all text no_exponent))) ∙ drop_all _ text (omega (arith, none_passes is_point text none))

no_mark_around : (front back : List ℕ) → are_digits front ≡ true → are_digits back ≡ true → list_any begins_exponent (front ++ 46 ∷ back) ≡ false
no_mark_around front back f b = list_any-append begins_exponent front (46 ∷ back) ∙ or_from _ _ (no_mark front f) (no_mark back b)

whole-pointed : (front back : List ℕ) → are_digits front ≡ true → are_digits back ≡ true → whole (front ++ 46 ∷ back) ≡ front
whole-pointed front back f b =
    let text = front ++ 46 ∷ back in
    sym (whole_is text text (sym (mantissa-all text (no_mark_around front back f b)))) ∙ before_point front back (no_point front f)

decimals-pointed : (front back : List ℕ) → are_digits front ≡ true → are_digits back ≡ true → decimals (front ++ 46 ∷ back) ≡ back
decimals-pointed front back f b =
    let text = front ++ 46 ∷ back in
    sym (decimals_is text text (sym (mantissa-all text (no_mark_around front back f b)))) ∙ after_point front back (no_point front f)

-- ---- the parts of a canonical text

pub record HasCanonicalParts (text : List ℕ) (units : ℕ) : Type 0 where
  pub no_exponent : list_any begins_exponent text ≡ false
  pub whole_is : whole text ≡ decimal (units / scale)
  pub decimals_is : decimals text ≡ places 9 (units % scale)

pub digits-decimal : (n : ℕ) → n < 2 ^ 64 → are_digits (decimal n) ≡ true
digits-decimal n small = digits_decimal numerals n small

pub canonical_parts : (units : ℕ) → units ≤ fmax → HasCanonicalParts (magnitude_text units) units
unfolding magnitude_text fraction_text
canonical_parts units small =
    let front = decimal (units / scale) in
    let fraction = units % scale in
    let below : fraction < 10 ^ 9 = mod_below units scale (omega arith) in
    let front_digits = digits-decimal (units / scale) (omega arith) in
    let back_digits = digits-places 9 fraction below in
    ⊎_elim
    (λ (zero_is : fraction ≡ 0).
    let bare : magnitude_text units ≡ front = ap (λ rest. front ++ rest) (cond-true (eqb fraction 0) _ _ (eq-eqb fraction 0 zero_is)) ∙ append-nil front in
    let P : List ℕ → Type 0 = λ text. HasCanonicalParts text units in
    subst P (sym bare) (record {
      no_exponent = no_mark front front_digits;
      whole_is = whole-plain front (no_mark front front_digits) (no_point front front_digits);
      decimals_is = decimals-plain front (no_mark front front_digits) (no_point front front_digits) ∙ sym (ap (places 9) zero_is ∙ places-zero 9);
    }))
    (λ nonzero.
    let pointed : magnitude_text units ≡ front ++ 46 ∷ places 9 fraction = ap (λ rest. front ++ rest) (cond-false (eqb fraction 0) _ _ (ne_eqb fraction 0 nonzero)) in
    let P : List ℕ → Type 0 = λ text. HasCanonicalParts text units in
    subst P (sym pointed) (record {
      no_exponent = no_mark_around front (places 9 fraction) front_digits back_digits;
      whole_is = whole-pointed front (places 9 fraction) front_digits back_digits;
      decimals_is = decimals-pointed front (places 9 fraction) front_digits back_digits;
    }))
    (cases_eq fraction 0)

-- ---- what a canonical text is read as

pub joined : (q p v z : ℕ) → (q * p + v) * z ≡ q * (p * z) + v * z
joined q p v z = omega arith

pub units-canonical : (text : List ℕ) (units : ℕ) → units ≤ fmax → HasCanonicalParts text units → decimal_units text ≡ units
units-canonical text units small parts =
    let whole_value = units / scale in
    let fraction = units % scale in
    let digits = places 9 fraction in
    let few = length-places-le 9 fraction in
    let zeros = 10 ^ (9 - length digits) in
    let below : fraction < 10 ^ 9 = mod_below units scale (omega arith) in
    let value : digits_value 10 (all_digits text) ≡ whole_value * 10 ^ length digits + digits_value 10 digits =
    rw (parts.whole_is, parts.decimals_is)
    (value-append (decimal whole_value) digits
    ∙ ap (λ n. n * 10 ^ length digits + digits_value 10 digits) (digits_value-decimal numerals whole_value (omega arith))) in
    let all : length digits + (9 - length digits) ≡ 9 = omega arith in
    let powers : 10 ^ length digits * zeros ≡ 10 ^ 9 = sym (pow-add 10 (length digits) (9 - length digits)) ∙ ap (λ k. 10 ^ k) all in
    units-plain text parts.no_exponent (omega (arith, ap length parts.decimals_is))
    ∙ ap (λ ds. digits_value 10 (all_digits text) * 10 ^ (9 - length ds)) parts.decimals_is
    ∙ ap (λ v. v * zeros) value
    ∙ joined whole_value (10 ^ length digits) (digits_value 10 digits) zeros
    ∙ ap (λ p. whole_value * p + digits_value 10 digits * zeros) powers
    ∙ ap (λ r. whole_value * scale + r) (value-places 9 fraction below)
    ∙ div-add-mod' units scale

pub decimal-canonical : (text : List ℕ) (units : ℕ) → units ≤ fmax → HasCanonicalParts text units → is_decimal text ≡ true
decimal-canonical text units small parts =
    let front = decimal (units / scale) in
    let back = places 9 (units % scale) in
    let digits : are_digits (front ++ back) ≡ true = digits-append front back ∙ and_from _ _ (digits-decimal (units / scale) (omega arith)) (digits-places 9 (units % scale) (mod_below units scale (omega arith))) in
    let some : 0 < length (front ++ back) = omega (arith, length-append front back, decimal_nonempty (units / scale) (omega arith)) in
    is_decimal-plain text (rw (parts.whole_is, parts.decimals_is) (and_from _ _ (lt-ltb 0 (length (front ++ back)) some) digits)) parts.no_exponent

pub no_minus : (units : ℕ) → units ≤ fmax → has_minus (magnitude_text units) ≡ false
unfolding magnitude_text
no_minus units small =
    let front = decimal (units / scale) in
    let some = decimal_nonempty (units / scale) (omega arith) in
    let first = digit_in_range front 0 (digits-decimal (units / scale) (omega arith)) some in
    let head = get_or-append front (fraction_text (units % scale)) 0 0 some in
    ne_eqb _ 45 (λ e. absurd (omega (arith, first, head)))

read-plain : (text : List ℕ) (units : ℕ) → units ≤ fmax → without_minus text ≡ magnitude_text units → fx_of text ≡ Some (signed (has_minus text) units)
read-plain text units small e =
    let parts = canonical_parts units small in
    let value = ap decimal_units e ∙ units-canonical (magnitude_text units) units small parts in
    fx_of-number text (ap is_decimal e ∙ decimal-canonical (magnitude_text units) units small parts) (omega (arith, value))
    ∙ ap (λ n. Some (signed (has_minus text) n)) value

pub fx_of-fx_text : (x : ℤ) → IsInRange x → fx_of (fx_text x) ≡ Some x
fx_of-fx_text (pos n) small =
    let plain = no_minus n small in
    read-plain (magnitude_text n) n small (rw plain refl) ∙ ap (λ minus. Some (signed minus n)) plain
fx_of-fx_text (negsuc n) small = read-plain (45 ∷ magnitude_text (suc n)) (suc n) small refl

-- ---- ints

pub no_minus_at_digits : (digits : List ℕ) → are_digits digits ≡ true → 0 < length digits → has_minus digits ≡ false
no_minus_at_digits digits h some = let first = digit_in_range digits 0 h some in ne_eqb _ 45 (λ e. absurd (omega (arith, first)))

pub numeral-decimal : (n : ℕ) → n < 2 ^ 64 → is_numeral (decimal n) ≡ true
numeral-decimal n fits = and_from _ _ (lt-ltb 0 (length (decimal n)) (decimal_nonempty n fits)) (digits-decimal n fits)

read-digits : (text : List ℕ) (n : ℕ) → without_minus text ≡ decimal n → n ≤ int_limit (has_minus text) → int_of text ≡ Some (signed (has_minus text) n)
read-digits text n e small =
    let fits : n < 2 ^ 64 = omega (arith, int_limit-le (has_minus text)) in
    let value = ap (digits_value 10) e ∙ digits_value-decimal numerals n fits in
    int_of-number text (ap is_numeral e ∙ numeral-decimal n fits) (omega (arith, value))
    ∙ ap (λ m. Some (signed (has_minus text) m)) value

pub int_of-int_text : (n : ℤ) → FitsSigned w32 n → int_of (int_text n) ≡ Some n
int_of-int_text (pos n) fits =
    let small : n < 2 ^ 64 = omega arith in
    let plain = no_minus_at_digits (decimal n) (digits-decimal n small) (decimal_nonempty n small) in
    read-digits (decimal n) n (rw plain refl) (rw plain (omega arith)) ∙ ap (λ minus. Some (signed minus n)) plain
int_of-int_text (negsuc n) fits = read-digits (45 ∷ decimal (suc n)) (suc n) refl (omega arith)
