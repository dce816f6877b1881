-- The nearest whole number to a fraction of digits and powers of ten.
use Rattle.std.proofs.Common.{◌≡◌, ℕ, suc, ◌+◌, ◌-◌, ◌*◌, ◌^◌, ◌<◌, ◌≤◌, true, false, cond, leb, List, ◌∷◌, ◌++◌, length, length-drop, get_or, take, drop, refl, sym, ap, ◌∙◌, arith}
use Rattle.std.proofs.Math.Nat.{div-eq_of_lt-le, div-eq_of_lt, mul-div-mul_right, pow-suc, pow-succ', one-le-pow, pow-le-pow_right}
use Rattle.std.proofs.Math.Seq.{drop-cons}
use Rattle.std.proofs.lemmas.List.{take-append-drop}
use Rattle.std.proofs.lemmas.Bool.{leb-true, leb-false}
use Rattle.std.proofs.lemmas.Str.{digit_value_digit}
use Rattle.std.specs.Char.{digit_value}
use Rattle.std.specs.Int.{IsInRange}
use Rattle.std.specs.Str.Parse.{digits_value}
use Rattle.osl_decimal.proofs.Numerals.{value-append, value-cons, value-lt, digit_in_range, digits-drop}
use Rattle.std.proofs.lemmas.Nat.{mul-le, pow-add}
use Rattle.osl_decimal.specs.Decimal.{are_digits, nearest}

pub nearest-whole : (k d : ℕ) → 0 < d → nearest (k * d) d ≡ k
nearest-whole k d h = div-eq_of_lt-le (2 * d) (omega arith) (omega arith)

pub nearest-scaled : (n d c : ℕ) → 0 < c → nearest (n * c) (d * c) ≡ nearest n d
nearest-scaled n d c h =
    let above : 2 * (n * c) + d * c ≡ (2 * n + d) * c = omega arith in
    let below : 2 * (d * c) ≡ 2 * d * c = omega arith in
    rw (above, below) (mul-div-mul_right (2 * n + d) (2 * d) h)

pub nearest-small : (n d : ℕ) → 2 * n < d → nearest n d ≡ 0
nearest-small n d h = div-eq_of_lt (omega arith)

-- the first digit that is cut off decides
pub nearest-up : (whole digit low p : ℕ) → 5 ≤ digit → digit ≤ 9 → low < p → nearest (whole * (10 * p) + (digit * p + low)) (10 * p) ≡ whole + 1
nearest-up whole digit low p least most h =
    div-eq_of_lt-le (2 * (10 * p)) (omega (arith, mul-le 5 p digit p least (omega arith))) (omega (arith, mul-le digit p 9 p most (omega arith)))

pub nearest-down : (whole digit low p : ℕ) → digit < 5 → low < p → nearest (whole * (10 * p) + (digit * p + low)) (10 * p) ≡ whole
nearest-down whole digit low p most h =
    div-eq_of_lt-le (2 * (10 * p)) (omega arith) (omega (arith, mul-le digit p 4 p (omega arith) (omega arith)))

-- ---- digits whose point moves

-- Without a point the digits write n, and there are `count`. Their point moves up by `up` places and down by `down`, to after the digit number `kept`.
pub moved_up : (n count up down kept : ℕ) → kept + down ≡ count + up → count ≤ kept → nearest (n * 10 ^ up) (10 ^ down) ≡ n * 10 ^ (kept - count)
moved_up n count up down kept moved enough =
    let split : 10 ^ up ≡ 10 ^ (kept - count) * 10 ^ down = ap (λ k. 10 ^ k) (omega arith) ∙ pow-add 10 (kept - count) down in
    let grouped : n * (10 ^ (kept - count) * 10 ^ down) ≡ n * 10 ^ (kept - count) * 10 ^ down = omega arith in
    rw (split, grouped) (nearest-whole (n * 10 ^ (kept - count)) (10 ^ down) (one-le-pow down 10 (omega arith)))

value_around : (front back : List ℕ) (digit : ℕ)
    → digits_value 10 (front ++ digit ∷ back) ≡ digits_value 10 front * (10 * 10 ^ length back) + (digit_value digit * 10 ^ length back + digits_value 10 back)
value_around front back digit =
    value-append front (digit ∷ back)
    ∙ ap (λ p. digits_value 10 front * p + digits_value 10 (digit ∷ back)) (pow-succ' 10 (length back))
    ∙ ap (λ v. digits_value 10 front * (10 * 10 ^ length back) + v) (value-cons digit back)

-- The first digit that is cut off decides.
rounded_around : (front back : List ℕ) (digit : ℕ) → IsInRange 48 57 digit → are_digits back ≡ true
    → nearest (digits_value 10 (front ++ digit ∷ back)) (10 ^ suc (length back)) ≡ digits_value 10 front + cond (leb 53 digit) 1 0
rounded_around front back digit range digits =
    let is = digit_value_digit digit range in
    rw (value_around, pow-succ' 10 (length back))
    (elim (leb 53 digit) as (λ b. leb 53 digit ≡ b → nearest (digits_value 10 front * (10 * 10 ^ length back) + (digit_value digit * 10 ^ length back + digits_value 10 back)) (10 * 10 ^ length back) ≡ digits_value 10 front + cond b 1 0) [
      | true ↦ λ high. nearest-up _ _ _ _ (omega (arith, is, leb-true 53 digit high)) (omega (arith, is)) (value-lt back digits)
      | false ↦ λ low. nearest-down _ _ _ _ (omega (arith, is, leb-false 53 digit low)) (value-lt back digits) ∙ omega arith
    ] refl)

pub moved_down : (ds : List ℕ) (up down kept : ℕ) → are_digits ds ≡ true → kept + down ≡ length ds + up → kept < length ds
    → nearest (digits_value 10 ds * 10 ^ up) (10 ^ down) ≡ digits_value 10 (take kept ds) + cond (leb 53 (get_or ds kept 0)) 1 0
moved_down ds up down kept digits moved within =
    let back = drop (suc kept) ds in
    let parts : take kept ds ++ get_or ds kept 0 ∷ back ≡ ds = ap (λ rest. take kept ds ++ rest) (sym (drop-cons ds kept 0 within)) ∙ take-append-drop kept ds in
    let many : suc (length back) + up ≡ down = omega (arith, length-drop (suc kept) ds) in
    let split : 10 ^ down ≡ 10 ^ suc (length back) * 10 ^ up = ap (λ k. 10 ^ k) (sym many) ∙ pow-add 10 (suc (length back)) up in
    rw split
    (nearest-scaled (digits_value 10 ds) (10 ^ suc (length back)) (10 ^ up) (one-le-pow up 10 (omega arith))
    ∙ ap (λ xs. nearest (digits_value 10 xs) (10 ^ suc (length back))) (sym parts)
    ∙ rounded_around (take kept ds) back (get_or ds kept 0) (digit_in_range ds kept digits within) (digits-drop (suc kept) ds digits))

-- Where the point is moved to before the first digit and farther, nothing is left.
pub moved_away : (ds : List ℕ) (up down : ℕ) → are_digits ds ≡ true → length ds + up < down → nearest (digits_value 10 ds * 10 ^ up) (10 ^ down) ≡ 0
moved_away ds up down digits moved =
    let p = 10 ^ up in
    let few : (digits_value 10 ds + 1) * 10 ^ up ≤ 10 ^ (length ds + up) = rw pow-add (mul-le _ _ _ _ (omega (arith, value-lt ds digits)) (omega arith)) in
    let more : 10 ^ suc (length ds + up) ≤ 10 ^ down = pow-le-pow_right {n = 10} (omega arith) (omega arith) in
    nearest-small _ _ (omega (arith, few, more, pow-suc 10 (length ds + up), one-le-pow up 10 (omega arith)))
