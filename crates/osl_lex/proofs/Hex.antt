-- Hexadecimal digits, read from the left.
use Rattle.std.proofs.Common.{◌≡◌, ℕ, ◌+◌, ◌*◌, ◌^◌, ◌<◌, ◌≤◌, true, false, List, [], ◌∷◌, ◌++◌, length, take, drop, get_or, nat_lt, Some, None, refl, ap, ◌∙◌, arith}
use Rattle.std.specs.List.{list_all}
use Rattle.std.specs.Char.{is_ascii_hexdigit, digit_value}
use Rattle.std.specs.Int.{w32, cast_signed}
use Rattle.std.specs.Str.Parse.{digits_value, digits_value_after}
use Rattle.std.proofs.lemmas.Bool.{and_right, and_from, le-ltb, lt-ltb}
use Rattle.std.proofs.lemmas.Bool.Decides.{nat_tests}
use Rattle.std.proofs.lemmas.List.{take_more, take-append-drop}
use Rattle.std.proofs.lemmas.List.Folds.{list_all_more, list_all_at}
use Rattle.osl_tree.specs.Numbers.{is_hex_numeral}
use Rattle.osl_lex.specs.Value.{hex_of}

pub hex_digit : (c : ℕ) → digit_value c < 16 → is_ascii_hexdigit c ≡ true
hex_digit c low = grind (arith, nat_tests)

pub no_hex_digit : (c : ℕ) → (digit_value c < 16 → ⊥) → is_ascii_hexdigit c ≡ false
no_hex_digit c high = grind (arith, nat_tests)

-- More digits make no number smaller.
value_after-ge : (n : ℕ) (digits : List ℕ) → n ≤ digits_value_after 16 n digits
value_after-ge n [] = omega arith
value_after-ge n (c ∷ cs) = let rest = value_after-ge (n * 16 + digit_value c) cs in omega arith

value_after-append : (n : ℕ) (xs ys : List ℕ) → digits_value_after 16 n (xs ++ ys) ≡ digits_value_after 16 (digits_value_after 16 n xs) ys
value_after-append n [] ys = refl
value_after-append n (c ∷ cs) ys = value_after-append (n * 16 + digit_value c) cs ys

-- one digit more
pub value_more : (digits : List ℕ) (i : ℕ) → i < length digits → digits_value 16 (take (i + 1) digits) ≡ digits_value 16 (take i digits) * 16 + digit_value (get_or digits i 0)
value_more digits i low = ap (digits_value 16) (take_more digits i 0 low) ∙ value_after-append 0 (take i digits) (get_or digits i 0 ∷ [])

pub value-take-le : (digits : List ℕ) (i : ℕ) → digits_value 16 (take i digits) ≤ digits_value 16 digits
value-take-le digits i =
    let e = value_after-append 0 (take i digits) (drop i digits) in
    let f = ap (digits_value 16) (take-append-drop i digits) in
    let g = value_after-ge (digits_value 16 (take i digits)) (drop i digits) in
    omega arith

-- ---- what the walk answers

pub hex_of-wrong : (digits : List ℕ) (i : ℕ) → i < length digits → is_ascii_hexdigit (get_or digits i 0) ≡ false → hex_of digits ≡ None
unfolding hex_of
hex_of-wrong digits i low wrong =
    let all : is_hex_numeral digits ≡ false = and_right (nat_lt 0 (length digits)) (list_all is_ascii_hexdigit digits) (list_all_at is_ascii_hexdigit digits i 0 low wrong) in
    rw all refl

pub hex_of-large : (digits : List ℕ) (i : ℕ) → 2 ^ 32 ≤ digits_value 16 (take i digits) → hex_of digits ≡ None
unfolding hex_of
hex_of-large digits i high =
    let more = value-take-le digits i in
    let large : nat_lt (digits_value 16 digits) (2 ^ 32) ≡ false = le-ltb (digits_value 16 digits) (2 ^ 32) (omega arith) in
    rw (and_right (is_hex_numeral digits) (nat_lt (digits_value 16 digits) (2 ^ 32)) large) refl

pub hex_of-whole : (digits : List ℕ) → 0 < length digits → list_all is_ascii_hexdigit digits ≡ true → digits_value 16 digits < 2 ^ 32 → hex_of digits ≡ Some (cast_signed w32 (digits_value 16 digits))
unfolding hex_of
hex_of-whole digits some each low =
    let numeral : is_hex_numeral digits ≡ true = and_from (nat_lt 0 (length digits)) (list_all is_ascii_hexdigit digits) (lt-ltb 0 (length digits) some) each in
    let small : nat_lt (digits_value 16 digits) (2 ^ 32) ≡ true = lt-ltb (digits_value 16 digits) (2 ^ 32) low in
    rw (numeral, small) refl

pub each_more : (digits : List ℕ) (i : ℕ) → i < length digits → list_all is_ascii_hexdigit (take i digits) ≡ true → digit_value (get_or digits i 0) < 16
    → list_all is_ascii_hexdigit (take (i + 1) digits) ≡ true
each_more digits i low each digit =
    list_all_more is_ascii_hexdigit digits i 0 low
    ∙ and_from (list_all is_ascii_hexdigit (take i digits)) (is_ascii_hexdigit (get_or digits i 0)) each (hex_digit (get_or digits i 0) digit)
