-- Digits and what they write.
use Rattle.std.proofs.Common.{◌≡◌, ℕ, zero, suc, ◌+◌, ◌-◌, ◌*◌, ◌^◌, ◌<◌, ◌≤◌, min, true, List, [], ◌∷◌, ◌++◌, length, get_or, take, drop, Option, Some, None, unwrap_or, refl, sym, subst, ap, ◌∙◌, ⊎_elim, zero-mul, arith, rules, ◌&&◌}
use Rattle.std.proofs.Math.Nat.{pow-suc, le-mul_of_pos_right, one-le-pow, pow-le-pow_right, mul_comm}
use Rattle.std.proofs.Math.Seq.{take-length, take-append-add}
use Rattle.std.proofs.lemmas.Bool.{cases_lt, and_parts}
use Rattle.std.proofs.lemmas.List.Folds.{list_all-append}
use Rattle.std.proofs.lemmas.List.{take_more, take-append-drop, take-append-le}
use Rattle.std.proofs.lemmas.Int.Digits.{digits_value-lt}
use Rattle.std.proofs.lemmas.Str.{digit_value_digit}
use Rattle.std.proofs.lemmas.Str.Parse.{IsNumeralModel, numerals_by_value, digit_at}
use Rattle.std.specs.Char.{digit_value, is_ascii_digit}
use Rattle.std.specs.Int.{IsInRange}
use Rattle.std.specs.Option.{SomeIff}
use Rattle.std.specs.Str.Parse.{digits_value, digits_value_after}
use Rattle.osl_decimal.specs.Decimal.{are_digits}

pub numerals : IsNumeralModel (λ ds. are_digits ds ≡ true) (digits_value 10)
numerals = numerals_by_value (λ ds. are_digits ds ≡ true) (search rules)

pub digits-append : (xs ys : List ℕ) → are_digits (xs ++ ys) ≡ (are_digits xs && are_digits ys)
digits-append xs ys = list_all-append is_ascii_digit xs ys

pub digits_of_parts : (xs ys : List ℕ) → are_digits (xs ++ ys) ≡ true → (are_digits xs ≡ true) × (are_digits ys ≡ true)
digits_of_parts xs ys digits = and_parts _ _ (sym (digits-append xs ys) ∙ digits)

pub digits-drop : (n : ℕ) (ds : List ℕ) → are_digits ds ≡ true → are_digits (drop n ds) ≡ true
digits-drop n ds digits = (digits_of_parts (take n ds) (drop n ds) (ap are_digits (take-append-drop n ds) ∙ digits)).1

pub digits-take : (n : ℕ) (ds : List ℕ) → are_digits ds ≡ true → are_digits (take n ds) ≡ true
digits-take n ds digits = (digits_of_parts (take n ds) (drop n ds) (ap are_digits (take-append-drop n ds) ∙ digits)).0

pub digit_in_range : (ds : List ℕ) (i : ℕ) → are_digits ds ≡ true → i < length ds → IsInRange 48 57 (get_or ds i 0)
digit_in_range ds i digits within = digit_at ds i (numerals.to ds digits) within

pub digit_value_is : (c : ℕ) → IsInRange 48 57 c → digit_value c ≡ c - 48
digit_value_is c h = omega (arith, digit_value_digit c h)

pub value_after-append : (n : ℕ) (xs ys : List ℕ) → digits_value_after 10 n (xs ++ ys) ≡ digits_value_after 10 (digits_value_after 10 n xs) ys
value_after-append n [] ys = refl
value_after-append n (x ∷ xs) ys = value_after-append (n * 10 + digit_value x) xs ys

-- one digit more
pub value_after_more : (n : ℕ) (ds : List ℕ) (i : ℕ) → i < length ds → digits_value_after 10 n (take (i + 1) ds) ≡ digits_value_after 10 n (take i ds) * 10 + digit_value (get_or ds i 0)
value_after_more n ds i within = ap (digits_value_after 10 n) (take_more ds i 0 within) ∙ value_after-append n (take i ds) (get_or ds i 0 ∷ [])

front_step : (n v p w : ℕ) → (n * 10 + v) * p + w ≡ n * (p * 10) + ((0 * 10 + v) * p + w)
front_step n v p w = omega arith

-- a number in front counts in tens for each digit after it
pub value_after_is : (n : ℕ) (ds : List ℕ) → digits_value_after 10 n ds ≡ n * 10 ^ length ds + digits_value 10 ds
value_after_is n [] = omega arith
value_after_is n (d ∷ ds) =
    value_after_is (n * 10 + digit_value d) ds
    ∙ front_step n (digit_value d) (10 ^ length ds) (digits_value 10 ds)
    ∙ ap (λ p. n * p + ((0 * 10 + digit_value d) * 10 ^ length ds + digits_value 10 ds)) (sym (pow-suc 10 (length ds)))
    ∙ ap (λ w. n * 10 ^ suc (length ds) + w) (sym (value_after_is (0 * 10 + digit_value d) ds))

pub value-cons : (d : ℕ) (ds : List ℕ) → digits_value 10 (d ∷ ds) ≡ digit_value d * 10 ^ length ds + digits_value 10 ds
value-cons d ds = value_after_is (0 * 10 + digit_value d) ds ∙ ap (λ v. v * 10 ^ length ds + digits_value 10 ds) (omega arith)

pub value-append : (xs ys : List ℕ) → digits_value 10 (xs ++ ys) ≡ digits_value 10 xs * 10 ^ length ys + digits_value 10 ys
value-append xs ys = value_after-append 0 xs ys ∙ value_after_is (digits_value 10 xs) ys

pub value-lt : (ds : List ℕ) → are_digits ds ≡ true → digits_value 10 ds < 10 ^ length ds
value-lt ds digits = digits_value-lt 10 ds (numerals.to ds digits)

-- ---- numbers that stop at a top

-- to stop on the way changes nothing
pub stopped_step : (top n digit : ℕ) → 0 < top → min (min (min n top * 10) top + digit) top ≡ min (n * 10 + digit) top
stopped_step top n digit h = omega arith

stopped_zero : (top n : ℕ) → min (min 0 top * min n top) top ≡ min (0 * n) top
stopped_zero top n = let none : min 0 top ≡ 0 = omega arith in simp (none, zero-mul)

stopped_over : (top m k : ℕ) → top < m → min (min m top * min (suc k) top) top ≡ min (m * suc k) top
stopped_over top m k over =
    let stops : min m top ≡ top = omega arith in
    let large : m ≤ m * suc k = le-mul_of_pos_right m (omega arith) in
    ⊎_elim
    (λ (some : 0 < top). let part : top ≤ top * min (suc k) top = le-mul_of_pos_right top (omega arith) in rw stops (omega arith))
    (λ (none : top ≤ 0). omega arith)
    (cases_lt 0 top)

pub value_after-ge : (n : ℕ) (ds : List ℕ) → n ≤ digits_value_after 10 n ds
value_after-ge n ds = omega (arith, value_after_is n ds, le-mul_of_pos_right n (one-le-pow (length ds) 10 (omega arith)))

pub stopped_start : (top n : ℕ) (ds : List ℕ) → min (digits_value_after 10 (min n top) ds) top ≡ min (digits_value_after 10 n ds) top
stopped_start top n ds =
    ⊎_elim
    (λ (over : top < n). let stops : min n top ≡ top = omega arith in rw stops (omega (arith, value_after-ge top ds, value_after-ge n ds)))
    (λ (within : n ≤ top). let same : min n top ≡ n = omega arith in rw same refl)
    (cases_lt top n)

pub stopped_product : (top m n : ℕ) → min (min m top * min n top) top ≡ min (m * n) top
stopped_product top zero n = stopped_zero top n
stopped_product top (suc m) zero = rw (mul_comm (min (suc m) top), mul_comm (suc m)) (stopped_zero top (suc m))
stopped_product top (suc m) (suc n) =
    ⊎_elim
    (stopped_over top (suc m) n)
    (λ left. ⊎_elim
    (λ over. rw (mul_comm (min (suc m) top), mul_comm (suc m)) (stopped_over top (suc n) m over))
    (λ right. let m_stays : min (suc m) top ≡ suc m = omega arith in let n_stays : min (suc n) top ≡ suc n = omega arith in rw (m_stays, n_stays) refl)
    (cases_lt top (suc n)))
    (cases_lt top (suc m))

power_within : (n : ℕ) (r : Option ℕ) → SomeIff r (10 ^ n < 2 ^ 64) (10 ^ n) → unwrap_or r (2 ^ 64 - 1) ≡ min (10 ^ n) (2 ^ 64 - 1)
power_within n (Some x) h = omega arith
power_within n None h = ⊎_elim (λ fits. absurd (h fits)) (λ (over : 2 ^ 64 ≤ 10 ^ n). omega arith) (cases_lt (10 ^ n) (2 ^ 64))

power_over : (n : ℕ) (r : Option ℕ) → 20 ≤ n → SomeIff r (10 ^ 20 < 2 ^ 64) (10 ^ 20) → unwrap_or r (2 ^ 64 - 1) ≡ min (10 ^ n) (2 ^ 64 - 1)
power_over n (Some x) high h = absurd (omega arith)
power_over n None high h = let large : 10 ^ 20 ≤ 10 ^ n = pow-le-pow_right {n = 10} (omega arith) high in omega arith

-- a power whose exponent stops at 20
pub stopped_power : (n : ℕ) (r : Option ℕ) → SomeIff r (10 ^ min n 20 < 2 ^ 64) (10 ^ min n 20) → unwrap_or r (2 ^ 64 - 1) ≡ min (10 ^ n) (2 ^ 64 - 1)
stopped_power n r h =
    ⊎_elim
    (λ (low : n < 20). let same : min n 20 ≡ n = omega arith in power_within n r (let P : ℕ → Type 0 = λ m. SomeIff r (10 ^ m < 2 ^ 64) (10 ^ m) in subst P same h))
    (λ (high : 20 ≤ n). let same : min n 20 ≡ 20 = omega arith in power_over n r high (let P : ℕ → Type 0 = λ m. SomeIff r (10 ^ m < 2 ^ 64) (10 ^ m) in subst P same h))
    (cases_lt n 20)

-- ---- digits in two parts

pub value-take_parts : (xs ys : List ℕ) (n : ℕ) → n ≤ length xs + length ys
    → digits_value_after 10 (digits_value 10 (take (min n (length xs)) xs)) (take (n - min n (length xs)) ys) ≡ digits_value 10 (take n (xs ++ ys))
value-take_parts xs ys n within =
    ⊎_elim
    (λ (more : length xs < n).
    let all : min n (length xs) ≡ length xs = omega arith in
    let rest : length xs + (n - length xs) ≡ n = omega arith in
    rw (all, take-length xs) (sym (value_after-append 0 xs (take (n - length xs) ys)) ∙ ap (digits_value 10) (sym (take-append-add xs ys (n - length xs)) ∙ ap (λ i. take i (xs ++ ys)) rest)))
    (λ (fewer : n ≤ length xs).
    let all : min n (length xs) ≡ n = omega arith in
    let none : n - n ≡ 0 = omega arith in
    rw (all, none) (ap (digits_value 10) (sym (take-append-le n xs ys fewer))))
    (cases_lt (length xs) n)
