-- What the text of a number is like.
use Rattle.std.proofs.Common.{◌≡◌, ◌⊎◌, ℕ, ◌<◌, Bool, true, false, ◌||◌, if◌then◌else◌, List, [], ◌∷◌, ◌++◌, length, take, drop, nat_lt, ◌==◌, slice_index, refl, sym, ap, subst, ◌∙◌, inl, inr, arith, append_assoc, ℤ}
use Rattle.std.specs.List.{list_all}
use Rattle.std.specs.Char.{is_ascii_digit, is_ascii_hexdigit}
use Rattle.std.proofs.lemmas.Bool.{and_parts, and_from, or_left, or_right, both_ways, ltb-true}
use Rattle.std.proofs.lemmas.Bool.Decides.{nat_tests}
use Rattle.std.proofs.lemmas.List.{take-append-drop}
use Rattle.std.proofs.lemmas.List.Folds.{list_all-append}
use Rattle.osl_decimal.specs.Decimal.{has_minus, has_plus, without_sign, are_digits, is_numeral, begins_exponent, is_decimal}
use Rattle.osl_tree.specs.declared.token.TokenKind.{TokenKind}
use Rattle.osl_tree.specs.Numbers.{is_hex_numeral, IsInt, IsFloat, IsFraction, decimal, hexadecimal, plain, suffixed}
use Rattle.osl_tree.specs.Lexical.{IsToken, is_number, word, int, float, string, mark}
use Rattle.osl_lex.specs.Scan.{is_hex, begins_number}
use Rattle.osl_lex.specs.Value.{is_marked}
use Rattle.osl_lex.proofs.Runs.{last_of, last_of-append, GoesThrough, through_none, through_one, through_both, through_all, always_on, digits_on, digit_quiet}
use Rattle.osl_lex.proofs.Shapes.{IsPointed, no_point, point, IsTail, no_tail, tail, shape}

-- ---- digits

pub parts_of_digits : (xs ys : List ℕ) → is_numeral (xs ++ ys) ≡ true → (are_digits xs ≡ true) × (are_digits ys ≡ true)
parts_of_digits xs ys numeral =
    let all = (and_parts (nat_lt 0 (length (xs ++ ys))) (are_digits (xs ++ ys)) numeral).1 in
    and_parts (are_digits xs) (are_digits ys) (sym (list_all-append is_ascii_digit xs ys) ∙ all)

pub some_digit : (xs : List ℕ) → is_numeral xs ≡ true → 0 < length xs
some_digit xs numeral = ltb-true 0 (length xs) (and_parts (nat_lt 0 (length xs)) (are_digits xs) numeral).0

pub all_digits : (xs : List ℕ) → is_numeral xs ≡ true → are_digits xs ≡ true
all_digits xs numeral = (and_parts (nat_lt 0 (length xs)) (are_digits xs) numeral).1

-- A test that no digit and no point passes.
pub record IsQuiet (test : ℕ → Bool) : Type 0 where
  pub digit : (c : ℕ) → is_ascii_digit c ≡ true → test c ≡ false
  pub point : test 46 ≡ false

quiet_digits : (test : ℕ → Bool) → IsQuiet test → (before : ℕ) (xs : List ℕ) → test before ≡ false → are_digits xs ≡ true → test (last_of before xs) ≡ false
quiet_digits test q before [] quiet all = quiet
quiet_digits test q before (c ∷ cs) quiet all =
    let parts = and_parts (is_ascii_digit c) (are_digits cs) all in
    quiet_digits test q c cs (q.digit c parts.0) parts.1

quiet_numeral : (test : ℕ → Bool) → IsQuiet test → (before : ℕ) (xs : List ℕ) → is_numeral xs ≡ true → test (last_of before xs) ≡ false
quiet_numeral test q before [] numeral = cc
quiet_numeral test q before (c ∷ cs) numeral =
    let parts = and_parts (is_ascii_digit c) (are_digits cs) (all_digits (c ∷ cs) numeral) in
    quiet_digits test q c cs (q.digit c parts.0) parts.1

-- ---- an exponent

abbrev sign_len : List ℕ → ℕ
sign_len behind = if has_minus behind || has_plus behind then 1 else 0

quiet_behind : (test : ℕ → Bool) → IsQuiet test → (before : ℕ) (behind : List ℕ) → is_numeral (without_sign behind) ≡ true → test (last_of before behind) ≡ false
quiet_behind test q before behind numeral =
    let whole = take-append-drop (sign_len behind) behind in
    let e = last_of-append before (take (sign_len behind) behind) (without_sign behind) in
    let f = quiet_numeral test q (last_of before (take (sign_len behind) behind)) (without_sign behind) numeral in
    ap (λ (xs : List ℕ). test (last_of before xs)) (sym whole) ∙ ap test e ∙ f

through_behind : (e : ℕ) (behind : List ℕ) → begins_exponent e ≡ true → is_numeral (without_sign behind) ≡ true → GoesThrough false e behind
through_behind e [] begins numeral = through_none false e
through_behind e (c ∷ cs) begins numeral = go ((c == 45) || (c == 43)) refl numeral
  where
    go : (b : Bool) → ((c == 45) || (c == 43)) ≡ b → is_numeral (drop (if b then 1 else 0) (c ∷ cs)) ≡ true → GoesThrough false e (c ∷ cs)
    go true s n = through_one false e c cs (or_right (always_on c) _ (and_from (begins_exponent e) _ begins (signs s))) (through_all false c cs (digits_on cs (all_digits cs n)))
      where
        signs : ((c == 45) || (c == 43)) ≡ true → ((c == 43) || (c == 45)) ≡ true
        signs s = grind (arith, nat_tests)
    go false s n = through_all false e (c ∷ cs) (digits_on (c ∷ cs) (all_digits (c ∷ cs) n))

exponent_on : (e : ℕ) → begins_exponent e ≡ true → always_on e ≡ true
exponent_on e begins = grind (arith, nat_tests)

through_tail : (before : ℕ) (end : List ℕ) → IsTail end → GoesThrough false before end
through_tail before _ no_tail = through_none false before
through_tail before _ (tail e behind begins numeral) = through_one false before e behind (or_left (always_on e) _ (exponent_on e begins)) (through_behind e behind begins numeral)

-- ---- a decimal

through_middle : (before : ℕ) (middle digits : List ℕ) → IsPointed middle digits → are_digits digits ≡ true → GoesThrough false before middle
through_middle before _ _ no_point all = through_none false before
through_middle before _ _ (point digits) all = through_all false before (46 ∷ digits) (digits_on digits all)

pub through_decimal : (before : ℕ) (text : List ℕ) → is_decimal text ≡ true → GoesThrough false before text
through_decimal before text is =
    let s = shape text is in
    let digits = parts_of_digits s.front s.digits s.numeral in
    subst (GoesThrough false before) (sym s.split)
    (through_both false before s.front (s.middle ++ s.end) (through_all false before s.front (digits_on s.front digits.0))
    (through_both false (last_of before s.front) s.middle s.end (through_middle (last_of before s.front) s.middle s.digits s.pointed digits.1)
    (through_tail (last_of (last_of before s.front) s.middle) s.end s.tailed)))

quiet_end : (test : ℕ → Bool) → IsQuiet test → (before : ℕ) (end : List ℕ) → IsTail end → test before ≡ false → test (last_of before end) ≡ false
quiet_end test q before _ no_tail quiet = quiet
quiet_end test q before _ (tail e behind begins numeral) quiet = quiet_behind test q e behind numeral

quiet_mantissa : (test : ℕ → Bool) → IsQuiet test → (before : ℕ) (front middle digits : List ℕ) → IsPointed middle digits → is_numeral (front ++ digits) ≡ true
    → test (last_of before (front ++ middle)) ≡ false
quiet_mantissa test q before front _ _ no_point numeral = quiet_numeral test q before (front ++ []) numeral
quiet_mantissa test q before front _ _ (point digits) numeral =
    ap test (last_of-append before front (46 ∷ digits)) ∙ quiet_digits test q 46 digits q.point (parts_of_digits front digits numeral).1

-- A decimal ends with a digit or a point.
pub quiet_decimal : (test : ℕ → Bool) → IsQuiet test → (before : ℕ) (text : List ℕ) → is_decimal text ≡ true → test (last_of before text) ≡ false
quiet_decimal test q before text is =
    let s = shape text is in
    let e = s.split ∙ sym (append_assoc s.front s.middle s.end) in
    ap (λ (xs : List ℕ). test (last_of before xs)) e ∙ ap test (last_of-append before (s.front ++ s.middle) s.end)
    ∙ quiet_end test q (last_of before (s.front ++ s.middle)) s.end s.tailed (quiet_mantissa test q before s.front s.middle s.digits s.pointed s.numeral)

exponent_quiet : IsQuiet begins_exponent
exponent_quiet = record { digit = digit_quiet; point = refl }

-- ---- how a decimal begins, whatever stands behind it

abbrev pub begins_as_number : List ℕ → Bool
begins_as_number bytes = begins_number (slice_index bytes 0) (slice_index bytes 1)

begins_digit : (c : ℕ) (cs : List ℕ) → is_ascii_digit c ≡ true → begins_as_number (c ∷ cs) ≡ true
begins_digit c cs digit = or_left (is_ascii_digit c) _ digit

begins_digits : (xs more : List ℕ) → is_numeral xs ≡ true → begins_as_number (xs ++ more) ≡ true
begins_digits [] more numeral = cc
begins_digits (c ∷ cs) more numeral = begins_digit c (cs ++ more) (and_parts (is_ascii_digit c) (are_digits cs) (all_digits (c ∷ cs) numeral)).0

begins_mantissa : (front middle digits more : List ℕ) → IsPointed middle digits → is_numeral (front ++ digits) ≡ true → begins_as_number (front ++ (middle ++ more)) ≡ true
begins_mantissa [] _ _ more no_point numeral = cc
begins_mantissa [] _ _ more (point []) numeral = cc
begins_mantissa [] _ _ more (point (d ∷ ds)) numeral = (and_parts (is_ascii_digit d) (are_digits ds) (all_digits (d ∷ ds) numeral)).0
begins_mantissa (c ∷ cs) middle digits more pointed numeral =
    begins_digit c (cs ++ (middle ++ more)) (and_parts (is_ascii_digit c) (are_digits cs) (parts_of_digits (c ∷ cs) digits numeral).0).0

pub begins_decimal : (text more : List ℕ) → is_decimal text ≡ true → begins_as_number (text ++ more) ≡ true
begins_decimal text more is =
    let s = shape text is in
    let e : text ++ more ≡ s.front ++ (s.middle ++ (s.end ++ more)) =
    ap (λ (xs : List ℕ). xs ++ more) s.split ∙ append_assoc s.front (s.middle ++ s.end) more ∙ ap (λ (xs : List ℕ). s.front ++ xs) (append_assoc s.middle s.end more) in
    ap begins_as_number e ∙ begins_mantissa s.front s.middle s.digits (s.end ++ more) s.pointed s.numeral

-- ---- a decimal with a point or an exponent is not hexadecimal

pub digit_no_x : (c d : ℕ) (cs : List ℕ) → is_ascii_digit d ≡ true → is_hex (c ∷ d ∷ cs) ≡ false
digit_no_x c d cs digit = grind (arith, nat_tests)

point_no_x : (c : ℕ) (cs : List ℕ) → is_hex (c ∷ 46 ∷ cs) ≡ false
point_no_x c cs = grind (arith, nat_tests)

exponent_no_x : (c e : ℕ) (cs : List ℕ) → begins_exponent e ≡ true → is_hex (c ∷ e ∷ cs) ≡ false
exponent_no_x c e cs begins = grind (arith, nat_tests)

digit_no_mark : (c : ℕ) → is_ascii_digit c ≡ true → is_marked (c ∷ []) ≡ false
digit_no_mark c digit = grind (arith, nat_tests)

shape_not_hex : (front middle digits end more : List ℕ) → IsPointed middle digits → IsTail end → is_numeral (front ++ digits) ≡ true
    → is_marked (front ++ (middle ++ end)) ≡ true → is_hex (front ++ (middle ++ (end ++ more))) ≡ false
shape_not_hex [] _ _ end more no_point tailed numeral marked = cc
shape_not_hex [] _ _ end more (point digits) tailed numeral marked = refl
shape_not_hex (c ∷ []) _ _ end more (point digits) tailed numeral marked = point_no_x c (digits ++ (end ++ more))
shape_not_hex (c ∷ []) _ _ _ more no_point no_tail numeral marked =
    absurd (both_ways (is_marked (c ∷ [])) (digit_no_mark c (and_parts (is_ascii_digit c) (are_digits []) (all_digits (c ∷ []) numeral)).0) marked)
shape_not_hex (c ∷ []) _ _ _ more no_point (tail e behind begins behind_numeral) numeral marked = exponent_no_x c e (behind ++ more) begins
shape_not_hex (c ∷ d ∷ ds) middle digits end more pointed tailed numeral marked =
    let all = and_parts (is_ascii_digit c) (are_digits (d ∷ ds)) (parts_of_digits (c ∷ d ∷ ds) digits numeral).0 in
    digit_no_x c d (ds ++ (middle ++ (end ++ more))) (and_parts (is_ascii_digit d) (are_digits ds) all.1).0

pub decimal_not_hex : (text more : List ℕ) → is_decimal text ≡ true → is_marked text ≡ true → is_hex (text ++ more) ≡ false
decimal_not_hex text more is marked =
    let s = shape text is in
    let e : text ++ more ≡ s.front ++ (s.middle ++ (s.end ++ more)) =
    ap (λ (xs : List ℕ). xs ++ more) s.split ∙ append_assoc s.front (s.middle ++ s.end) more ∙ ap (λ (xs : List ℕ). s.front ++ xs) (append_assoc s.middle s.end more) in
    ap is_hex e ∙ shape_not_hex s.front s.middle s.digits s.end more s.pointed s.tailed s.numeral (ap is_marked (sym s.split) ∙ marked)

-- ---- the text of a number

-- What is known of the text of a number, whatever stands behind it.
pub record IsNumberText (text : List ℕ) : Type 0 where
  pub begins : (more : List ℕ) → begins_as_number (text ++ more) ≡ true
  pub through : (more : List ℕ) → GoesThrough (is_hex (text ++ more)) 0 text
  pub quiet : (more : List ℕ) → is_hex (text ++ more) ≡ false → begins_exponent (last_of 0 text) ≡ false

pub digits_text : (digits : List ℕ) → is_numeral digits ≡ true → IsNumberText digits
digits_text digits numeral = record {
  begins = λ more. begins_digits digits more numeral;
  through = λ more. through_all (is_hex (digits ++ more)) 0 digits (digits_on digits (all_digits digits numeral));
  quiet = λ more plain. quiet_numeral begins_exponent exponent_quiet 0 digits numeral;
}

hex_digit_on : (c : ℕ) → is_ascii_hexdigit c ≡ true → always_on c ≡ true
hex_digit_on c digit = grind (arith, nat_tests)

hex_digits_on : (xs : List ℕ) → list_all is_ascii_hexdigit xs ≡ true → list_all always_on xs ≡ true
hex_digits_on [] all = refl
hex_digits_on (c ∷ cs) all =
    let parts = and_parts (is_ascii_hexdigit c) (list_all is_ascii_hexdigit cs) all in
    rw (hex_digit_on c parts.0) (hex_digits_on cs parts.1)

x_on : (x : ℕ) → (x ≡ 120) ⊎ (x ≡ 88) → always_on x ≡ true
x_on x (inl e) = rw e refl
x_on x (inr e) = rw e refl

pub x_hex : (x : ℕ) (cs : List ℕ) → (x ≡ 120) ⊎ (x ≡ 88) → is_hex (48 ∷ x ∷ cs) ≡ true
x_hex x cs (inl e) = rw e refl
x_hex x cs (inr e) = rw e refl

hex_text : (x : ℕ) (digits : List ℕ) → (x ≡ 120) ⊎ (x ≡ 88) → is_hex_numeral digits ≡ true → IsNumberText (48 ∷ x ∷ digits)
hex_text x digits is numeral = record {
  begins = λ more. refl;
  through = λ more. through_all (is_hex (48 ∷ x ∷ digits ++ more)) 0 (48 ∷ x ∷ digits)
      (rw (x_on x is) (hex_digits_on digits (and_parts (nat_lt 0 (length digits)) (list_all is_ascii_hexdigit digits) numeral).1));
  quiet = λ more plain. absurd (both_ways (is_hex (48 ∷ x ∷ digits ++ more)) plain (x_hex x (digits ++ more) is));
}

fraction_text : (text : List ℕ) → IsFraction text → IsNumberText text
fraction_text text is = record {
  begins = λ more. begins_decimal text more is.decimal;
  through = λ more. subst (λ h. GoesThrough h 0 text) (sym (decimal_not_hex text more is.decimal is.marked)) (through_decimal 0 text is.decimal);
  quiet = λ more plain. quiet_decimal begins_exponent exponent_quiet 0 text is.decimal;
}

suffix_on : (f : ℕ) → (f ≡ 102) ⊎ (f ≡ 70) → always_on f ≡ true
suffix_on f (inl e) = rw e refl
suffix_on f (inr e) = rw e refl

suffix_quiet : (f : ℕ) → (f ≡ 102) ⊎ (f ≡ 70) → begins_exponent f ≡ false
suffix_quiet f (inl e) = rw e refl
suffix_quiet f (inr e) = rw e refl

suffixed_text : (text : List ℕ) (f : ℕ) → IsFraction text → (f ≡ 102) ⊎ (f ≡ 70) → IsNumberText (text ++ f ∷ [])
suffixed_text text f is last = record {
  begins = λ more. ap begins_as_number (append_assoc text (f ∷ []) more) ∙ begins_decimal text (f ∷ more) is.decimal;
  through = λ more.
      let plain = ap is_hex (append_assoc text (f ∷ []) more) ∙ decimal_not_hex text (f ∷ more) is.decimal is.marked in
      subst (λ h. GoesThrough h 0 (text ++ f ∷ [])) (sym plain)
      (through_both false 0 text (f ∷ []) (through_decimal 0 text is.decimal)
      (through_one false (last_of 0 text) f [] (or_left (always_on f) _ (suffix_on f last)) (through_none false f)));
  quiet = λ more plain. ap begins_exponent (last_of-append 0 text (f ∷ [])) ∙ suffix_quiet f last;
}

int_text : (text : List ℕ) (n : ℤ) → IsInt text n → IsNumberText text
int_text _ _ (decimal digits numeral low) = digits_text digits numeral
int_text _ _ (hexadecimal x digits is numeral low) = hex_text x digits is numeral

float_text : (text : List ℕ) (units : ℤ) → IsFloat text units → IsNumberText text
float_text _ _ (plain text is) = fraction_text text is
float_text _ _ (suffixed text f is last) = suffixed_text text f is last

pub number_text : (text : List ℕ) (kind : TokenKind) → IsToken text kind → is_number kind ≡ true → IsNumberText text
number_text _ _ (word text is) number = cc
number_text _ _ (int text n is) number = int_text text n is
number_text _ _ (float text units is) number = float_text text units is
number_text _ _ (string text is) number = cc
number_text _ _ (mark text sign is) number = cc
