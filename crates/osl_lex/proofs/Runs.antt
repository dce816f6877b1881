-- How far a number goes on.
use Rattle.std.proofs.Common.{◌≡◌, ℕ, ◌+◌, ◌≤◌, Bool, true, false, ◌||◌, if◌then◌else◌, List, [], ◌∷◌, ◌++◌, length, ◌-◌, slice_index, refl, ap, ◌∙◌, arith, append_assoc, length-append}
use Rattle.std.specs.List.{list_all}
use Rattle.std.specs.Char.{is_ascii_digit}
use Rattle.std.proofs.lemmas.Bool.{and_parts, or_left}
use Rattle.std.proofs.lemmas.Bool.Decides.{nat_tests}
use Rattle.osl_decimal.specs.Decimal.{are_digits, is_point, begins_exponent}
use Rattle.osl_tree.specs.Lexical.{is_word_byte}
use Rattle.osl_lex.specs.Scan.{goes_on, run_end}

-- the last of some bytes behind a byte
abbrev pub last_of : ℕ → List ℕ → ℕ
last_of before [] = before
last_of before (c ∷ cs) = last_of c cs

pub last_of-append : (before : ℕ) (xs ys : List ℕ) → last_of before (xs ++ ys) ≡ last_of (last_of before xs) ys
last_of-append before [] ys = refl
last_of-append before (c ∷ xs) ys = last_of-append c xs ys

-- A number goes on through these bytes.
abbrev pub GoesThrough : Bool → ℕ → List ℕ → Type 0
GoesThrough hex before xs = (at : ℕ) (after : List ℕ) → run_end hex at before (xs ++ after) ≡ run_end hex (at + length xs) (last_of before xs) after

pub through_none : (hex : Bool) (before : ℕ) → GoesThrough hex before []
through_none hex before at after = ap (λ n. run_end hex n before after) (omega arith)

pub through_one : (hex : Bool) (before c : ℕ) (cs : List ℕ) → goes_on hex before c ≡ true → GoesThrough hex c cs → GoesThrough hex before (c ∷ cs)
through_one hex before c cs on rest at after = rw on (rest (at + 1) after ∙ ap (λ n. run_end hex n (last_of c cs) after) (omega arith))

pub through_both : (hex : Bool) (before : ℕ) (xs ys : List ℕ) → GoesThrough hex before xs → GoesThrough hex (last_of before xs) ys → GoesThrough hex before (xs ++ ys)
through_both hex before xs ys first second at after =
    ap (run_end hex at before) (append_assoc xs ys after) ∙ first at (ys ++ after) ∙ second (at + length xs) after
    ∙ let e = length-append xs ys in let f = last_of-append before xs ys in
    let g : at + length xs + length ys ≡ at + length (xs ++ ys) = omega arith in
    rw (g, f) refl

-- what a number goes on with wherever it stands
abbrev pub always_on : ℕ → Bool
always_on c = is_word_byte c || is_point c

pub through_all : (hex : Bool) (before : ℕ) (xs : List ℕ) → list_all always_on xs ≡ true → GoesThrough hex before xs
through_all hex before [] all = through_none hex before
through_all hex before (c ∷ cs) all =
    let parts = and_parts (always_on c) (list_all always_on cs) all in
    through_one hex before c cs (or_left (always_on c) _ parts.0) (through_all hex c cs parts.1)

digit_on : (c : ℕ) → is_ascii_digit c ≡ true → always_on c ≡ true
digit_on c digit = grind (arith, nat_tests)

pub digits_on : (xs : List ℕ) → are_digits xs ≡ true → list_all always_on xs ≡ true
digits_on [] all = refl
digits_on (c ∷ cs) all =
    let parts = and_parts (is_ascii_digit c) (are_digits cs) all in
    rw (digit_on c parts.0) (digits_on cs parts.1)

-- It ends no earlier than it began.
pub run_end-le : (hex : Bool) (at before : ℕ) (xs : List ℕ) → at ≤ run_end hex at before xs
run_end-le hex at before [] = omega arith
run_end-le hex at before (c ∷ cs) = go (goes_on hex before c) (run_end-le hex (at + 1) c cs)
  where
    go : (b : Bool) → at + 1 ≤ run_end hex (at + 1) c cs → at ≤ (if b then run_end hex (at + 1) c cs else at)
    go true low = omega arith
    go false low = omega arith

-- ---- the last byte

pub digit_quiet : (c : ℕ) → is_ascii_digit c ≡ true → begins_exponent c ≡ false
digit_quiet c digit = grind (arith, nat_tests)

last_at : (c : ℕ) (cs : List ℕ) → slice_index (c ∷ cs) (length cs) ≡ last_of c cs
last_at c [] = refl
last_at c (d ∷ ds) = last_at d ds

pub last_index : (xs : List ℕ) → slice_index xs (length xs - 1) ≡ last_of 0 xs
last_index [] = refl
last_index (c ∷ cs) = let e : length (c ∷ cs) - 1 ≡ length cs = omega arith in ap (slice_index (c ∷ cs)) e ∙ last_at c cs
