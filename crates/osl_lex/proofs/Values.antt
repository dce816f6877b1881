-- Which texts are numbers, and which.
use Rattle.std.proofs.Common.{◌≡◌, ◌≢◌, ◌⊎◌, ℕ, ◌+◌, ◌-◌, ◌^◌, ◌<◌, ◌≤◌, Bool, true, false, ◌&&◌, ◌||◌, if◌then◌else◌, List, [], ◌∷◌, ◌++◌, length, take, drop, nat_lt, nat_le, ◌==◌, slice_index, Option, Some, None, option_map, refl, sym, ap, subst, ◌∙◌, inl, inr, arith, append-nil, ℤ, pos}
use Rattle.std.specs.Option.{option_or}
use Rattle.std.specs.Str.Parse.{digits_value}
use Rattle.std.specs.Int.{w32, cast_signed}
use Rattle.std.specs.Char.{is_ascii_digit}
use Rattle.std.proofs.lemmas.List.Folds.{list_all-append}
use Rattle.std.proofs.lemmas.Bool.{and_parts, or_cases, and_left, and_right, eqb-true, ne_eqb, leb-true, le-leb, ltb-true, lt-ltb}
use Rattle.std.proofs.lemmas.Bool.Decides.{nat_tests}
use Rattle.std.proofs.lemmas.List.{take_at, take_all, take_more, length_push}
use Rattle.osl_value.specs.Numbers.{fmax}
use Rattle.osl_decimal.specs.Decimal.{has_minus, are_digits, is_numeral, is_point, begins_exponent, is_decimal, decimal_units, fx_of, int_of}
use Rattle.osl_tree.specs.declared.token.TokenKind.{TokenKind}
use Rattle.osl_tree.specs.declared.token.TokenKind.TheVariants as kinds
use Rattle.osl_tree.specs.Numbers.{is_hex_numeral, IsInt, IsFloat, IsFraction, decimal, hexadecimal, plain, suffixed}
use Rattle.osl_tree.specs.Lexical.{IsToken, is_number, word, int, float, string, mark}
use Rattle.osl_lex.specs.Scan.{is_hex, begins_number}
use Rattle.osl_lex.specs.Value.{hex_of, is_marked, has_suffix, float_of, number_of}
use Rattle.osl_lex.proofs.Runs.{last_of-append, last_index}
use Rattle.osl_lex.proofs.Numbers.{all_digits, IsQuiet, quiet_decimal, begins_decimal, digits_text, digit_no_x, x_hex, decimal_not_hex}

-- ---- what the parts of a choice say

chosen : {A : Type 0} (b : Bool) (x y : A) → (if b then Some x else None) ≡ Some y → (b ≡ true) × (x ≡ y)
chosen true x y e = (refl, cc)
chosen false x y e = cc

-- ---- without a minus

no_minus : (text : List ℕ) → slice_index text 0 ≢ 45 → has_minus text ≡ false
no_minus text apart = ne_eqb (slice_index text 0) 45 apart

-- the int that decimal digits are
pub int_of-plain : (text : List ℕ) → slice_index text 0 ≢ 45
    → int_of text ≡ (if is_numeral text && nat_le (digits_value 10 text) 2147483647 then Some (pos (digits_value 10 text)) else None)
unfolding int_of
int_of-plain text apart = rw (no_minus text apart) refl

pub fx_of-plain : (text : List ℕ) → slice_index text 0 ≢ 45
    → fx_of text ≡ (if is_decimal text && nat_le (decimal_units text) fmax then Some (pos (decimal_units text)) else None)
unfolding fx_of
fx_of-plain text apart = rw (no_minus text apart) refl

-- ---- what is read is a number

pub record IsNumber (text : List ℕ) (kind : TokenKind) : Type 0 where
  pub is : IsToken text kind
  pub number : is_number kind ≡ true

record HexSplit (text : List ℕ) : Type 0 where
  x : ℕ
  is : (x ≡ 120) ⊎ (x ≡ 88)
  split : text ≡ 48 ∷ x ∷ drop 2 text

is_x : (x : ℕ) → ((x == 120) || (x == 88)) ≡ true → (x ≡ 120) ⊎ (x ≡ 88)
is_x x e = elim (or_cases (x == 120) (x == 88) e) [ inl l ↦ inl (eqb-true x 120 l) | inr r ↦ inr (eqb-true x 88 r) ]

hex_split : (text : List ℕ) → is_hex text ≡ true → HexSplit text
hex_split [] e = cc
hex_split (c ∷ []) e = let parts = and_parts (c == 48) false e in cc
hex_split (c ∷ d ∷ cs) e =
    let parts = and_parts (c == 48) ((d == 120) || (d == 88)) e in
    record { x = d; is = is_x d parts.1; split = ap (λ (n : ℕ). n ∷ d ∷ cs) (eqb-true c 48 parts.0) }

hex_number : (text : List ℕ) (n : ℤ) → is_hex text ≡ true → hex_of (drop 2 text) ≡ Some n → IsInt text n
unfolding hex_of
hex_number text n hex e =
    let h = hex_split text hex in
    let digits = drop 2 text in
    let c = chosen (is_hex_numeral digits && nat_lt (digits_value 16 digits) (2 ^ 32)) (cast_signed w32 (digits_value 16 digits)) n e in
    let parts = and_parts (is_hex_numeral digits) (nat_lt (digits_value 16 digits) (2 ^ 32)) c.0 in
    subst (λ m. IsInt text m) c.1 (subst (λ (xs : List ℕ). IsInt xs (cast_signed w32 (digits_value 16 digits))) (sym h.split)
    (hexadecimal h.x digits h.is parts.0 (ltb-true (digits_value 16 digits) (2 ^ 32) parts.1)))

int_number : (text : List ℕ) (n : ℤ) → slice_index text 0 ≢ 45 → int_of text ≡ Some n → IsInt text n
int_number text n apart e =
    let c = chosen (is_numeral text && nat_le (digits_value 10 text) 2147483647) (pos (digits_value 10 text)) n (sym (int_of-plain text apart) ∙ e) in
    let parts = and_parts (is_numeral text) (nat_le (digits_value 10 text) 2147483647) c.0 in
    subst (λ m. IsInt text m) c.1 (decimal text parts.0 (leb-true (digits_value 10 text) 2147483647 parts.1))

fraction : (text : List ℕ) (units : ℤ) → slice_index text 0 ≢ 45 → is_marked text ≡ true → fx_of text ≡ Some units → IsFraction text × (pos (decimal_units text) ≡ units)
fraction text units apart marked e =
    let c = chosen (is_decimal text && nat_le (decimal_units text) fmax) (pos (decimal_units text)) units (sym (fx_of-plain text apart) ∙ e) in
    let parts = and_parts (is_decimal text) (nat_le (decimal_units text) fmax) c.0 in
    (record { decimal = parts.0; marked = marked; in_range = leb-true (decimal_units text) fmax parts.1 }, c.1)

-- a text that ends with an `f`
record Suffixed (text : List ℕ) : Type 0 where
  f : ℕ
  is : (f ≡ 102) ⊎ (f ≡ 70)
  split : text ≡ take (length text - 1) text ++ f ∷ []

suffix_split : (text : List ℕ) → has_suffix text ≡ true → Suffixed text
suffix_split [] e = cc
suffix_split (c ∷ cs) e =
    let n : ℕ = length (c ∷ cs) - 1 in
    let low : n < length (c ∷ cs) = omega arith in
    let last = slice_index (c ∷ cs) n in
    let all = take_all (n + 1) (c ∷ cs) (omega arith) in
    let more = take_more (c ∷ cs) n 0 low in
    record { f = last; is = is_f last e; split = sym all ∙ more }
  where
    is_f : (x : ℕ) → ((x == 102) || (x == 70)) ≡ true → (x ≡ 102) ⊎ (x ≡ 70)
    is_f x e = elim (or_cases (x == 102) (x == 70) e) [ inl l ↦ inl (eqb-true x 102 l) | inr r ↦ inr (eqb-true x 70 r) ]

front_apart : (front : List ℕ) (text more : List ℕ) → text ≡ front ++ more → slice_index text 0 ≢ 45 → slice_index front 0 ≢ 45
front_apart [] text more e apart same = cc
front_apart (c ∷ cs) text more e apart same = apart (ap (λ (xs : List ℕ). slice_index xs 0) e ∙ same)

float_number : (text : List ℕ) (units : ℤ) → slice_index text 0 ≢ 45 → float_of text ≡ Some units → IsFloat text units
unfolding float_of
float_number text units apart e = go (has_suffix text) refl e
  where
    marks : (front : List ℕ) → (if is_marked front then fx_of front else None) ≡ Some units → (is_marked front ≡ true) × (fx_of front ≡ Some units)
    marks front e = by (is_marked front) refl e
      where
        by : (b : Bool) → is_marked front ≡ b → (if b then fx_of front else None) ≡ Some units → (is_marked front ≡ true) × (fx_of front ≡ Some units)
        by true s e = (s, e)
        by false s e = cc

    go : (b : Bool) → has_suffix text ≡ b
        → (let front = take (length text - (if b then 1 else 0)) text in (if is_marked front then fx_of front else None)) ≡ Some units → IsFloat text units
    go true s e =
        let h = suffix_split text s in
        let front = take (length text - 1) text in
        let m = marks front e in
        let is = fraction front units (front_apart front text (h.f ∷ []) h.split apart) m.0 m.1 in
        subst (λ u. IsFloat text u) is.1 (subst (λ (xs : List ℕ). IsFloat xs (pos (decimal_units front))) (sym h.split) (suffixed front h.f is.0 h.is))
    go false s e =
        let same = take_all (length text - 0) text (omega arith) in
        let m = marks text (rw same at e) in
        let is = fraction text units apart m.0 m.1 in
        subst (λ u. IsFloat text u) is.1 (plain text is.0)

pub number_is : (text : List ℕ) (kind : TokenKind) → slice_index text 0 ≢ 45 → number_of text ≡ Some kind → IsNumber text kind
unfolding number_of
number_is text kind apart e = go (is_hex text) refl e
  where
    of_hex : (found : Option ℤ) → hex_of (drop 2 text) ≡ found → is_hex text ≡ true → option_map kinds.Int found ≡ Some kind → IsNumber text kind
    of_hex None s hex e = cc
    of_hex (Some n) s hex e = let k : kinds.Int n ≡ kind = cc in subst (IsNumber text) k (record { is = int text n (hex_number text n hex s); number = refl })

    of_float : (found : Option ℤ) → float_of text ≡ found → option_map kinds.Float found ≡ Some kind → IsNumber text kind
    of_float None s e = cc
    of_float (Some u) s e = let k : kinds.Float u ≡ kind = cc in subst (IsNumber text) k (record { is = float text u (float_number text u apart s); number = refl })

    of_int : (found : Option ℤ) → int_of text ≡ found → option_or (option_map kinds.Int found) (option_map kinds.Float (float_of text)) ≡ Some kind → IsNumber text kind
    of_int None s e = of_float (float_of text) refl e
    of_int (Some n) s e = let k : kinds.Int n ≡ kind = cc in subst (IsNumber text) k (record { is = int text n (int_number text n apart s); number = refl })

    go : (b : Bool) → is_hex text ≡ b
        → (if b then option_map kinds.Int (hex_of (drop 2 text)) else option_or (option_map kinds.Int (int_of text)) (option_map kinds.Float (float_of text))) ≡ Some kind → IsNumber text kind
    go true s e = of_hex (hex_of (drop 2 text)) refl s e
    go false s e = of_int (int_of text) refl e

-- ---- a number is read again

-- a number does not begin with a minus
pub begins_apart : (text : List ℕ) → begins_number (slice_index text 0) (slice_index text 1) ≡ true → slice_index text 0 ≢ 45
begins_apart text begins same =
    let e : begins_number 45 (slice_index text 1) ≡ true = subst (λ c. begins_number c (slice_index text 1) ≡ true) same begins in
    cc

digits_apart : (digits : List ℕ) → is_numeral digits ≡ true → slice_index digits 0 ≢ 45
digits_apart digits numeral =
    begins_apart digits (subst (λ (xs : List ℕ). begins_number (slice_index xs 0) (slice_index xs 1) ≡ true) (append-nil digits) ((digits_text digits numeral).begins []))

digits_not_hex : (digits : List ℕ) → is_numeral digits ≡ true → is_hex digits ≡ false
digits_not_hex [] numeral = cc
digits_not_hex (c ∷ []) numeral = and_right (c == 48) ((0 == 120) || (0 == 88)) refl
digits_not_hex (c ∷ d ∷ ds) numeral =
    let all = and_parts (is_ascii_digit c) (are_digits (d ∷ ds)) (all_digits (c ∷ d ∷ ds) numeral) in
    digit_no_x c d ds (and_parts (is_ascii_digit d) (are_digits ds) all.1).0

int_again : (digits : List ℕ) → is_numeral digits ≡ true → digits_value 10 digits ≤ 2147483647 → number_of digits ≡ Some (kinds.Int (pos (digits_value 10 digits)))
unfolding number_of
int_again digits numeral low =
    let e = int_of-plain digits (digits_apart digits numeral) in
    let f : nat_le (digits_value 10 digits) 2147483647 ≡ true = le-leb (digits_value 10 digits) 2147483647 low in
    rw (digits_not_hex digits numeral, e, numeral, f) refl

hex_again : (x : ℕ) (digits : List ℕ) → (x ≡ 120) ⊎ (x ≡ 88) → is_hex_numeral digits ≡ true → digits_value 16 digits < 2 ^ 32
    → number_of (48 ∷ x ∷ digits) ≡ Some (kinds.Int (cast_signed w32 (digits_value 16 digits)))
unfolding number_of hex_of
hex_again x digits is numeral low =
    let f : nat_lt (digits_value 16 digits) (2 ^ 32) ≡ true = lt-ltb (digits_value 16 digits) (2 ^ 32) low in
    rw (x_hex x digits is, numeral, f) refl

-- A text with a point or an exponent is no numeral.
marked_no_digits : (text : List ℕ) → is_marked text ≡ true → are_digits text ≡ false
marked_no_digits [] marked = cc
marked_no_digits (c ∷ cs) marked = elim (or_cases (is_point c || begins_exponent c) (is_marked cs) marked) [
  | inl here ↦ and_left (is_ascii_digit c) (are_digits cs) (mark_no_digit c here)
  | inr later ↦ and_right (is_ascii_digit c) (are_digits cs) (marked_no_digits cs later)
]
  where
    mark_no_digit : (c : ℕ) → (is_point c || begins_exponent c) ≡ true → is_ascii_digit c ≡ false
    mark_no_digit c is_mark = grind (arith, nat_tests)

no_int : (text : List ℕ) → slice_index text 0 ≢ 45 → are_digits text ≡ false → int_of text ≡ None
no_int text apart no_digits =
    let e : is_numeral text ≡ false = and_right (nat_lt 0 (length text)) (are_digits text) no_digits in
    int_of-plain text apart ∙ rw e refl

fraction_apart : (text more : List ℕ) → IsFraction text → slice_index (text ++ more) 0 ≢ 45
fraction_apart text more is = begins_apart (text ++ more) (begins_decimal text more is.decimal)

fraction_again : (text : List ℕ) → slice_index text 0 ≢ 45 → IsFraction text → fx_of text ≡ Some (pos (decimal_units text))
fraction_again text apart is =
    let f : nat_le (decimal_units text) fmax ≡ true = le-leb (decimal_units text) fmax is.in_range in
    fx_of-plain text apart ∙ rw (is.decimal, f) refl

abbrev is_suffix : ℕ → Bool
is_suffix c = (c == 102) || (c == 70)

suffix_quiet : IsQuiet is_suffix
suffix_quiet = record { digit = λ c digit. grind (arith, nat_tests); point = refl }

no_suffix : (text : List ℕ) → is_decimal text ≡ true → has_suffix text ≡ false
no_suffix text is = ap is_suffix (last_index text) ∙ quiet_decimal is_suffix suffix_quiet 0 text is

float_again : (text : List ℕ) → IsFraction text → number_of text ≡ Some (kinds.Float (pos (decimal_units text)))
unfolding number_of float_of
float_again text is =
    let apart = subst (λ (xs : List ℕ). slice_index xs 0 ≢ 45) (append-nil text) (fraction_apart text [] is) in
    let not_hex = subst (λ (xs : List ℕ). is_hex xs ≡ false) (append-nil text) (decimal_not_hex text [] is.decimal is.marked) in
    let whole : take (length text - 0) text ≡ text = take_all (length text - 0) text (omega arith) in
    rw (not_hex, no_int text apart (marked_no_digits text is.marked), no_suffix text is.decimal, whole, is.marked, fraction_again text apart is) refl

suffixed_again : (text : List ℕ) (f : ℕ) → IsFraction text → (f ≡ 102) ⊎ (f ≡ 70) → number_of (text ++ f ∷ []) ≡ Some (kinds.Float (pos (decimal_units text)))
unfolding number_of float_of
suffixed_again text f is last =
    let apart = subst (λ (xs : List ℕ). slice_index xs 0 ≢ 45) (append-nil text) (fraction_apart text [] is) in
    let not_hex = decimal_not_hex text (f ∷ []) is.decimal is.marked in
    let no_digits = list_all-append is_ascii_digit text (f ∷ []) ∙ and_left (are_digits text) (are_digits (f ∷ [])) (marked_no_digits text is.marked) in
    let suffix : has_suffix (text ++ f ∷ []) ≡ true = ap is_suffix (last_index (text ++ f ∷ []) ∙ last_of-append 0 text (f ∷ [])) ∙ suffix_is f last in
    let e = length_push text f in
    let whole : take (length (text ++ f ∷ []) - 1) (text ++ f ∷ []) ≡ text = take_at text (f ∷ []) (length (text ++ f ∷ []) - 1) (omega arith) in
    rw (not_hex, no_int (text ++ f ∷ []) (fraction_apart text (f ∷ []) is) no_digits, suffix, whole, is.marked, fraction_again text apart is) refl
  where
    suffix_is : (f : ℕ) → (f ≡ 102) ⊎ (f ≡ 70) → is_suffix f ≡ true
    suffix_is f (inl e) = rw e refl
    suffix_is f (inr e) = rw e refl

number_again-int : (text : List ℕ) (n : ℤ) → IsInt text n → number_of text ≡ Some (kinds.Int n)
number_again-int _ _ (decimal digits numeral low) = int_again digits numeral low
number_again-int _ _ (hexadecimal x digits is numeral low) = hex_again x digits is numeral low

number_again-float : (text : List ℕ) (units : ℤ) → IsFloat text units → number_of text ≡ Some (kinds.Float units)
number_again-float _ _ (plain text is) = float_again text is
number_again-float _ _ (suffixed text f is last) = suffixed_again text f is last

pub number_again : (text : List ℕ) (kind : TokenKind) → IsToken text kind → is_number kind ≡ true → number_of text ≡ Some kind
number_again _ _ (word text is) number = cc
number_again _ _ (int text n is) number = number_again-int text n is
number_again _ _ (float text units is) number = number_again-float text units is
number_again _ _ (string text is) number = cc
number_again _ _ (mark text sign is) number = cc
