-- The units of a decimal, by where its point moves to.
use Rattle.std.proofs.Common.{◌≡◌, ℕ, zero, suc, ◌+◌, ◌-◌, ◌*◌, ◌^◌, ◌<◌, ◌≤◌, min, true, false, cond, leb, MatchBool, List, ◌++◌, length, get_or, take, refl, sym, ap, ⊎_elim, ◌∙◌, zero-mul, arith}
use Rattle.std.proofs.Math.Nat.{le-mul_of_pos_right, pow-le-pow_right, mul_comm}
use Rattle.std.proofs.lemmas.Bool.{cases_lt, and_from}
use Rattle.std.proofs.lemmas.List.{length-append}
use Rattle.std.proofs.lemmas.Nat.{pow-add}
use Rattle.std.specs.List.{list_any}
use Rattle.std.specs.Str.Parse.{digits_value}
use Rattle.osl_decimal.specs.Decimal.{are_digits, has_minus, begins_exponent, whole, decimals, exponent, exponent_digits, raising, lowering, numerator, denominator, nearest, decimal_units}
use Rattle.osl_decimal.specs.Parts.{HasParts}
use Rattle.osl_decimal.specs.declared.decimal.Decimal.{Decimal}
use Rattle.osl_decimal.proofs.Forms.{exponent_digits-none, sign-none}
use Rattle.osl_decimal.proofs.Numerals.{digits-append}
use Rattle.osl_decimal.proofs.Rounding.{moved_up, moved_down, moved_away}

-- the digits without the point, and the exponent's size
abbrev pub all_digits : List ℕ → List ℕ
all_digits text = whole text ++ decimals text

abbrev size : List ℕ → ℕ
size text = digits_value 10 (exponent_digits text)

-- a unit is nine places after the point
units_by_places : (text : List ℕ) → decimal_units text ≡ nearest (digits_value 10 (all_digits text) * 10 ^ (raising text + 9)) (10 ^ (length (decimals text) + lowering text))
unfolding decimal_units numerator denominator
units_by_places text =
    let places : 10 ^ (raising text + 9) ≡ 10 ^ raising text * 10 ^ 9 = pow-add 10 (raising text) 9 in
    let grouped : digits_value 10 (all_digits text) * 10 ^ raising text * 10 ^ 9 ≡ digits_value 10 (all_digits text) * 10 ^ (raising text + 9) = rw places (omega arith) in
    ap (λ n. nearest n (10 ^ (length (decimals text) + lowering text))) grouped

shift-divides : (text : List ℕ) → has_minus (exponent text) ≡ true → (raising text ≡ 0) × (lowering text ≡ size text)
unfolding raising lowering
shift-divides text minus = rw minus (refl, refl)

shift-multiplies : (text : List ℕ) → has_minus (exponent text) ≡ false → (raising text ≡ size text) × (lowering text ≡ 0)
unfolding raising lowering
shift-multiplies text plus = rw plus (refl, refl)

-- Where the point moves to before the first digit and farther, nothing is left.
pub units-away : (text : List ℕ) → are_digits (all_digits text) ≡ true → has_minus (exponent text) ≡ true → length (whole text) + 9 < size text → decimal_units text ≡ 0
units-away text digits minus far =
    let shift = shift-divides text minus in
    units_by_places text
    ∙ moved_away (all_digits text) (raising text + 9) (length (decimals text) + lowering text) digits (omega (arith, shift.0, shift.1, length-append (whole text) (decimals text)))

-- so many digits are before the point once it has moved
abbrev pub StandBefore : List ℕ → ℕ → Type 0
StandBefore text kept = MatchBool (has_minus (exponent text)) (kept + size text ≡ length (whole text) + 9) (kept ≡ min (length (whole text) + 9 + size text) (2 ^ 64 - 1))

places_kept : (text : List ℕ) (kept : ℕ) → StandBefore text kept → kept < 2 ^ 64 - 1 → kept + lowering text ≡ length (whole text) + 9 + raising text
places_kept text kept stand small = elim (has_minus (exponent text)) as (λ b. has_minus (exponent text) ≡ b → MatchBool b (kept + size text ≡ length (whole text) + 9) (kept ≡ min (length (whole text) + 9 + size text) (2 ^ 64 - 1)) → kept + lowering text ≡ length (whole text) + 9 + raising text) [
  | true ↦ λ minus moved. let shift = shift-divides text minus in omega (arith, shift.0, shift.1)
  | false ↦ λ plus moved. let shift = shift-multiplies text plus in omega (arith, shift.0, shift.1)
] refl stand

pub units-down : (text : List ℕ) (kept : ℕ) → are_digits (all_digits text) ≡ true → StandBefore text kept → kept < length (all_digits text) → length (all_digits text) < 2 ^ 63
    → decimal_units text ≡ digits_value 10 (take kept (all_digits text)) + cond (leb 53 (get_or (all_digits text) kept 0)) 1 0
units-down text kept digits stand within short =
    units_by_places text
    ∙ moved_down (all_digits text) (raising text + 9) (length (decimals text) + lowering text) kept digits (omega (arith, places_kept text kept stand (omega arith), length-append (whole text) (decimals text))) within

-- ---- where digits are missing

many_zeros : (n j k : ℕ) → 20 ≤ j → 20 ≤ k → min (n * 10 ^ j) (2 ^ 64 - 1) ≡ min (n * 10 ^ k) (2 ^ 64 - 1)
many_zeros zero j k p q = rw (zero-mul (10 ^ j), zero-mul (10 ^ k)) refl
many_zeros (suc n) j k p q =
    let first : 10 ^ j ≤ 10 ^ j * suc n = le-mul_of_pos_right (10 ^ j) (omega arith) in
    let second : 10 ^ k ≤ 10 ^ k * suc n = le-mul_of_pos_right (10 ^ k) (omega arith) in
    let low : 10 ^ 20 ≤ 10 ^ j = pow-le-pow_right {n = 10} (omega arith) p in
    let high : 10 ^ 20 ≤ 10 ^ k = pow-le-pow_right {n = 10} (omega arith) q in
    rw (mul_comm (suc n) (10 ^ j), mul_comm (suc n) (10 ^ k)) (omega arith)

units_with_zeros : (text : List ℕ) (kept : ℕ) → kept + lowering text ≡ length (whole text) + 9 + raising text → length (all_digits text) ≤ kept
    → decimal_units text ≡ digits_value 10 (all_digits text) * 10 ^ (kept - length (all_digits text))
units_with_zeros text kept moved enough =
    units_by_places text
    ∙ moved_up (digits_value 10 (all_digits text)) (length (all_digits text)) (raising text + 9) (length (decimals text) + lowering text) kept (omega (arith, length-append (whole text) (decimals text))) enough

-- where the exponent is so large that the place is at the top
units-stopped : (text : List ℕ) (kept : ℕ) → StandBefore text kept → 2 ^ 64 - 1 ≤ kept → length (all_digits text) < 2 ^ 63
    → min (digits_value 10 (all_digits text) * 10 ^ (kept - length (all_digits text))) (2 ^ 64 - 1) ≡ min (decimal_units text) (2 ^ 64 - 1)
units-stopped text kept stand large short =
    let count = length-append (whole text) (decimals text) in
    elim (has_minus (exponent text)) as (λ b. has_minus (exponent text) ≡ b → MatchBool b (kept + size text ≡ length (whole text) + 9) (kept ≡ min (length (whole text) + 9 + size text) (2 ^ 64 - 1)) → min (digits_value 10 (all_digits text) * 10 ^ (kept - length (all_digits text))) (2 ^ 64 - 1) ≡ min (decimal_units text) (2 ^ 64 - 1)) [
      | true ↦ λ minus moved. absurd (omega (arith, count))
      | false ↦ λ plus moved.
          let shift = shift-multiplies text plus in
          let place = length (whole text) + 9 + size text in
          many_zeros (digits_value 10 (all_digits text)) _ (place - length (all_digits text)) (omega (arith, count)) (omega (arith, count))
          ∙ ap (λ n. min n (2 ^ 64 - 1)) (sym (units_with_zeros text place (omega (arith, shift.0, shift.1)) (omega (arith, count))))
    ] refl stand

pub units-up : (text : List ℕ) (kept : ℕ) → StandBefore text kept → length (all_digits text) ≤ kept → length (all_digits text) < 2 ^ 63
    → min (digits_value 10 (all_digits text) * 10 ^ (kept - length (all_digits text))) (2 ^ 64 - 1) ≡ min (decimal_units text) (2 ^ 64 - 1)
units-up text kept stand enough short =
    ⊎_elim
    (λ (small : kept < 2 ^ 64 - 1). ap (λ n. min n (2 ^ 64 - 1)) (sym (units_with_zeros text kept (places_kept text kept stand small) enough)))
    (λ (large : 2 ^ 64 - 1 ≤ kept). units-stopped text kept stand large short)
    (cases_lt kept (2 ^ 64 - 1))

-- without an exponent
pub units-plain : (text : List ℕ) → list_any begins_exponent text ≡ false → length (decimals text) ≤ 9
    → decimal_units text ≡ digits_value 10 (all_digits text) * 10 ^ (9 - length (decimals text))
units-plain text none few =
    let nothing : size text ≡ 0 = ap (digits_value 10) (exponent_digits-none text none) in
    let shift = shift-multiplies text (sign-none text none) in
    let count = length-append (whole text) (decimals text) in
    units_with_zeros text (length (whole text) + 9) (omega (arith, shift.0, shift.1, nothing)) (omega (arith, count))
    ∙ ap (λ k. digits_value 10 (all_digits text) * 10 ^ k) (omega (arith, count))

-- ---- the same, of the parts that the code holds

digits_together : (text : List ℕ) (parts : Decimal) → HasParts text parts → are_digits (all_digits text) ≡ true
digits_together text parts has =
    digits-append (whole text) (decimals text)
    ∙ and_from _ _ (ap are_digits (sym has.whole_is) ∙ parts.whole_digits) (ap are_digits (sym has.decimals_is) ∙ parts.decimal_digits)

together : (text : List ℕ) (parts : Decimal) → HasParts text parts → parts.whole.now ++ parts.decimals.now ≡ all_digits text
together text parts has = rw (has.whole_is, has.decimals_is) refl

pub parts-away : (text : List ℕ) (parts : Decimal) → HasParts text parts → parts.divides ≡ true → length parts.whole.now + 9 < digits_value 10 parts.exponent.now → decimal_units text ≡ 0
parts-away text parts has minus far =
    units-away text (digits_together text parts has) (sym has.divides_is ∙ minus) (rw (has.whole_is, has.exponent_is) at far)

-- so many digits are before the point once it has moved
abbrev pub StandsAt : Decimal → ℕ → Type 0
StandsAt parts kept = MatchBool parts.divides (kept + digits_value 10 parts.exponent.now ≡ length parts.whole.now + 9) (kept ≡ min (length parts.whole.now + 9 + digits_value 10 parts.exponent.now) (2 ^ 64 - 1))

pub parts-down : (text : List ℕ) (parts : Decimal) (kept : ℕ) → HasParts text parts → StandsAt parts kept → kept < length parts.whole.now + length parts.decimals.now
    → decimal_units text ≡ digits_value 10 (take kept (parts.whole.now ++ parts.decimals.now)) + cond (leb 53 (get_or (parts.whole.now ++ parts.decimals.now) kept 0)) 1 0
parts-down text parts kept has stands within =
    let count : length parts.whole.now + length parts.decimals.now ≡ length (all_digits text) = sym (length-append parts.whole.now parts.decimals.now) ∙ ap length (together text parts has) in
    rw (together text parts has)
    (units-down text kept (digits_together text parts has) (rw (has.divides_is, has.whole_is, has.exponent_is) at stands) (omega arith) (omega (arith, parts.short)))

pub parts-up : (text : List ℕ) (parts : Decimal) (kept : ℕ) → HasParts text parts → StandsAt parts kept → length parts.whole.now + length parts.decimals.now ≤ kept
    → min (digits_value 10 (parts.whole.now ++ parts.decimals.now) * 10 ^ (kept - (length parts.whole.now + length parts.decimals.now))) (2 ^ 64 - 1) ≡ min (decimal_units text) (2 ^ 64 - 1)
parts-up text parts kept has stands enough =
    let count : length parts.whole.now + length parts.decimals.now ≡ length (all_digits text) = sym (length-append parts.whole.now parts.decimals.now) ∙ ap length (together text parts has) in
    rw (together text parts has, count)
    (units-up text kept (rw (has.divides_is, has.whole_is, has.exponent_is) at stands) (omega arith) (omega (arith, parts.short)))
