-- A written text keeps the rules of the canonical text.
use Rattle.std.proofs.Common.{◌≡◌, ◌≢◌, ℕ, zero, suc, ◌+◌, ◌*◌, ◌/◌, ◌%◌, ◌^◌, ◌<◌, ◌≤◌, true, List, [], ◌∷◌, length, length-append, ℤ, pos, negsuc, refl, sym, ap, subst, ⊎_elim, ◌∙◌, arith}
use Rattle.std.proofs.Math.Nat.{one-le-pow, div-add-mod'}
use Rattle.std.proofs.lemmas.Bool.{cases_eq, cases_lt, true≢false}
use Rattle.std.proofs.lemmas.Fmt.{decimal_nonempty, first_decimal, decimal_digit}
use Rattle.std.proofs.lemmas.Nat.{mod_below}
use Rattle.std.specs.Fmt.{decimal}
use Rattle.std.specs.Int.{w32}
use Rattle.std.specs.Int.RustNames.{FitsSigned}
use Rattle.std.specs.List.{list_any}
use Rattle.osl_value.specs.Numbers.{scale, fmax, IsInRange}
use Rattle.osl_decimal.specs.Canonical.{places, fraction_text, magnitude_text, fx_text, int_text, HasNoLeadingZero, IsCanonicalInt, IsCanonicalDecimal, IsCanonicalFx}
use Rattle.osl_decimal.specs.Decimal.{is_numeral, is_point, whole, decimals}
use Rattle.osl_decimal.proofs.Places.{places-nonzero, places-none, fraction_text-bare}
use Rattle.osl_decimal.proofs.Texts.{magnitude_text_is}
use Rattle.osl_decimal.proofs.RoundTrip.{canonical_parts, decimal-canonical, units-canonical, digits-decimal, length-places-le, no_minus, no_minus_at_digits, numeral-decimal}
use Rattle.osl_decimal.proofs.Unique.{last, last-none, last-one, last-more, around_point, unsigned}

last_above : (c : ℕ) (ds : List ℕ) → (ds ≡ [] → c ≢ 48) → last ds ≢ 48 → last (c ∷ ds) ≢ 48
last_above c [] alone ends = λ zero_last. alone refl (sym (last-one c) ∙ zero_last)
last_above c (d ∷ ds) alone ends = λ zero_last. ends (sym (last-more c d ds) ∙ zero_last)

-- no zero is at the end of the decimals
last-places : (k fraction : ℕ) → fraction < 10 ^ k → last (places k fraction) ≢ 48
last-places zero fraction small = last-none
last-places (suc k) fraction small =
    let digit = fraction / 10 ^ k in
    let rest = fraction % 10 ^ k in
    let below = mod_below fraction (10 ^ k) (one-le-pow k 10 (omega arith)) in
    ⊎_elim
    (λ zero_is. let P : List ℕ → Type 0 = λ ds. last ds ≢ 48 in subst P (sym (ap (places (suc k)) zero_is)) last-none)
    (λ nonzero.
    let alone : places k rest ≡ [] → 48 + digit ≢ 48 = λ none zero_digit.
    let rest_is : rest ≡ 0 = places-none k rest below (ap length none) in
    let digit_is : digit ≡ 0 = omega arith in
    nonzero (sym (div-add-mod' fraction (10 ^ k)) ∙ ap (λ d. d * 10 ^ k + rest) digit_is ∙ omega (arith, rest_is)) in
    let P : List ℕ → Type 0 = λ ds. last ds ≢ 48 in subst P (sym (places-nonzero k fraction nonzero)) (last_above (48 + digit) (places k rest) alone (last-places k rest below)))
    (cases_eq fraction 0)

no_leading_zero : (n : ℕ) → n < 2 ^ 64 → HasNoLeadingZero (decimal n)
no_leading_zero n small first =
    ⊎_elim
    (λ zero_is. ap (λ m. length (decimal m)) zero_is ∙ ap length (decimal_digit 0 (omega arith)))
    (λ nonzero. absurd (omega (arith, first_decimal n (omega arith) small)))
    (cases_eq n 0)

pub canonical_int_text : (n : ℤ) → FitsSigned w32 n → IsCanonicalInt (int_text n)
canonical_int_text (pos n) fits =
    let small : n < 2 ^ 64 = omega arith in
    let plain = no_minus_at_digits (decimal n) (digits-decimal n small) (decimal_nonempty n small) in
    let same = unsigned (decimal n) plain in
    record {
      numeral = ap is_numeral same ∙ numeral-decimal n small;
      no_leading_zero = subst HasNoLeadingZero (sym same) (no_leading_zero n small);
      no_minus_at_zero = λ minus. absurd (true≢false (sym minus ∙ plain));
    }
canonical_int_text (negsuc n) fits =
    record {
      numeral = numeral-decimal (suc n) (omega arith);
      no_leading_zero = no_leading_zero (suc n) (omega arith);
      no_minus_at_zero = λ _ first. absurd (omega (arith, first_decimal (suc n) (omega arith) (omega arith)));
    }

-- without decimals there is no point
no_bare_point : (units : ℕ) → units ≤ fmax → list_any is_point (magnitude_text units) ≡ true → 0 < length (decimals (magnitude_text units))
no_bare_point units small pointed =
    let text = magnitude_text units in
    let fraction = units % scale in
    let parts = canonical_parts units small in
    let around = ap length (around_point text parts.no_exponent pointed) in
    let count = length-append (whole text) (46 ∷ decimals text) in
    let written = ap length (sym (magnitude_text_is units)) in
    let joint = length-append (decimal (units / scale)) (fraction_text fraction) in
    let front = ap length parts.whole_is in
    let back = ap length parts.decimals_is in
    ⊎_elim
    (λ (some : 0 < length (decimals text)). some)
    (λ (none : length (decimals text) ≤ 0).
    let bare = ap length (fraction_text-bare fraction (mod_below units scale (omega arith)) (omega (arith, back))) in
    absurd (omega (arith, around, count, written, joint, front, bare)))
    (cases_lt 0 (length (decimals text)))

canonical_magnitude : (units : ℕ) → units ≤ fmax → IsCanonicalDecimal (magnitude_text units)
canonical_magnitude units small =
    let text = magnitude_text units in
    let parts = canonical_parts units small in
    let few = length-places-le 9 (units % scale) in
    let P : List ℕ → Type 0 = λ ds. last ds ≢ 48 in
    record {
      decimal = decimal-canonical text units small parts;
      no_exponent = parts.no_exponent;
      some_whole = omega (arith, ap length parts.whole_is, decimal_nonempty (units / scale) (omega arith));
      no_leading_zero = subst HasNoLeadingZero (sym parts.whole_is) (no_leading_zero (units / scale) (omega arith));
      some_decimals = no_bare_point units small;
      at_most_nine = omega (arith, ap length parts.decimals_is, few);
      no_last_zero = subst P (sym parts.decimals_is) (last-places 9 (units % scale) (mod_below units scale (omega arith)));
    }

pub canonical_fx_text : (x : ℤ) → IsInRange x → IsCanonicalFx (fx_text x)
canonical_fx_text (pos n) small =
    let plain = no_minus n small in
    record {
      magnitude = subst IsCanonicalDecimal (sym (unsigned (magnitude_text n) plain)) (canonical_magnitude n small);
      no_minus_at_zero = λ minus. absurd (true≢false (sym minus ∙ plain));
    }
canonical_fx_text (negsuc n) small =
    record {
      magnitude = canonical_magnitude (suc n) small;
      no_minus_at_zero = λ _. omega (arith, units-canonical (magnitude_text (suc n)) (suc n) small (canonical_parts (suc n) small));
    }
