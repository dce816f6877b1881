-- Words of a line and fields of a datum: that a reader finds each whole.
use Rattle.std.proofs.Common.{◌≡◌, ℕ, ◌/◌, ◌%◌, ◌<◌, ◌≤◌, ◌^◌, Bool, true, false, not, ◌&&◌, ◌==◌, cond, List, [], ◌∷◌, ◌++◌, length, length-append, map, ℤ, pos, negsuc, Some, None, refl, ap, ◌∙◌, arith}
use Rattle.std.specs.Prelude.{nat_le}
use Rattle.std.specs.Fmt.{decimal}
use Rattle.std.specs.List.{list_all, flat_map, AllByRecursion}
use Rattle.std.proofs.lemmas.Bool.{and_parts, and_from, ne_eqb, leb-true, le-leb, lt-ltb}
use Rattle.std.proofs.lemmas.Fmt.{decimal_nonempty}
use Rattle.std.proofs.lemmas.List.Folds.{list_all-append}
use Rattle.osl_value.specs.declared.types.Base.{Base}
use Rattle.osl_value.specs.declared.types.Base.TheVariants.{Int, Float, Color, Point, Vector, Normal, Matrix, Str, Closure}
use Rattle.osl_value.specs.declared.types.Ty.{Ty}
use Rattle.osl_value.specs.Numbers.{scale, fmax, IsInRange}
use Rattle.osl_value.specs.Plain.{IsNumberOf}
use Rattle.osl_value.specs.Types.{base_name, longest_array}
use Rattle.osl_decimal.specs.Canonical.{fraction_text, magnitude_text, fx_text}
use Rattle.oso_code.specs.Holding.{is_type, is_closure}
use Rattle.oso_code.specs.Names.{is_name}
use Rattle.osl_valuetext.specs.Spells.{IsByte}
use Rattle.osl_valuetext.specs.Words.{escape, string_text, len_text, type_text, number_text, value_words}
use Rattle.osl_valuetext.specs.declared.place.Place.{Place}
use Rattle.osl_valuetext.specs.declared.place.Place.TheVariants.{Open, Quoted, Escaped, Braced, BracedQuoted, BracedEscaped}
use Rattle.osl_valuetext.specs.Splitting.{next, is_open, is_blank, has_bytes, is_comma}
use Rattle.oso_read.specs.Hints.{begins_hint}
use Rattle.osl_valuetext.proofs.Alls.{all_map, all_both}
use Rattle.osl_valuetext.proofs.Runs.{run, run_both, Holds}
use Rattle.oso_read.proofs.Dull.{is_printed, IsDull, AllDull, run_dull, within, within-append, within_dull, printed_dull, dull_between, dull_both, dull_name, dull_decimal, dull_int, dull_fx, dull_all}
use Rattle.osl_valuetext.proofs.Escapes.{AreBytes, IsOctal, written}

-- a field of a datum: commas in it are in strings, and braces and strings that it opens it closes
pub record IsField (field : List ℕ) : Type 0 where
  pub comma : Holds is_comma field
  pub inside : within Braced field ≡ Some Braced
  pub printed : list_all is_printed field ≡ true

-- a word of a line: blanks in it are in strings or braces, and it has bytes
pub record IsWord (word : List ℕ) : Type 0 where
  pub blank : Holds is_blank word
  pub some : has_bytes word ≡ true
  pub printed : list_all is_printed word ≡ true

-- a word that is no hint
pub record IsFront (word : List ℕ) : Type 0 where
  pub whole : IsWord word
  pub no_hint : begins_hint word ≡ false

pub printed_both : (xs ys : List ℕ) → list_all is_printed xs ≡ true → list_all is_printed ys ≡ true → list_all is_printed (xs ++ ys) ≡ true
printed_both xs ys h k = list_all-append is_printed xs ys ∙ and_from _ _ h k

pub within_both : (p q r : Place) (xs ys : List ℕ) → within p xs ≡ Some q → within q ys ≡ Some r → within p (xs ++ ys) ≡ Some r
within_both p q r xs ys h k = within-append p q xs ys h ∙ k

-- ---- plain words

comma_dull : (c : ℕ) → IsDull c → is_comma c ≡ false
comma_dull c is = is.no_comma

blank_dull : (c : ℕ) → IsDull c → is_blank c ≡ false
blank_dull c is = is.no_blank

pub dull_field : (word : List ℕ) → AllDull word → IsField word
dull_field word all = record { comma = run_dull is_comma comma_dull word all; inside = within_dull word all; printed = printed_dull word all }

pub dull_front : (word : List ℕ) → AllDull word → 0 < length word → IsFront word
dull_front [] all long = absurd (omega arith)
dull_front (c ∷ cs) all long =
    record {
      whole = record { blank = run_dull is_blank blank_dull (c ∷ cs) all; some = lt-ltb 0 (length (c ∷ cs)) long; printed = printed_dull (c ∷ cs) all };
      no_hint = all.0.no_hint;
    }

pub name_front : (name : List ℕ) → is_name name ≡ true → IsFront name
name_front [] h = absurd cc
name_front (c ∷ cs) h = dull_front (c ∷ cs) (dull_name (c ∷ cs) h) (omega arith)

pub decimal_front : (n : ℕ) → n < 2 ^ 64 → IsFront (decimal n)
decimal_front n small = dull_front (decimal n) (dull_decimal n small) (decimal_nonempty n small)

-- ---- numbers

dull_number : (base : Base) (n : ℤ) → IsNumberOf base n → AllDull (number_text base n)
dull_number Int n fits = dull_int n fits
dull_number Float n fits = dull_fx n fits
dull_number Color n fits = dull_fx n fits
dull_number Point n fits = dull_fx n fits
dull_number Vector n fits = dull_fx n fits
dull_number Normal n fits = dull_fx n fits
dull_number Matrix n fits = dull_fx n fits
dull_number Str n fits = dull_fx n fits
dull_number Closure n fits = dull_fx n fits

pub number_field : (base : Base) (n : ℤ) → IsNumberOf base n → IsField (number_text base n)
number_field base n fits = dull_field (number_text base n) (dull_number base n fits)

-- ---- strings

octal_quoted : (c : ℕ) → IsOctal c → next Quoted c ≡ Quoted
octal_quoted c is =
    ap (λ (b : Bool). cond b Open (cond (c == 92) Escaped Quoted)) (ne_eqb c 34 (λ e. absurd (omega (arith, is.from))))
    ∙ ap (λ (b : Bool). cond b Escaped Quoted) (ne_eqb c 92 (λ e. absurd (omega (arith, is.upto))))

octal_braced : (c : ℕ) → IsOctal c → next BracedQuoted c ≡ BracedQuoted
octal_braced c is =
    ap (λ (b : Bool). cond b Braced (cond (c == 92) BracedEscaped BracedQuoted)) (ne_eqb c 34 (λ e. absurd (omega (arith, is.from))))
    ∙ ap (λ (b : Bool). cond b BracedEscaped BracedQuoted) (ne_eqb c 92 (λ e. absurd (omega (arith, is.upto))))

byte_quoted : (test : ℕ → Bool) (c : ℕ) → IsByte c → run test Quoted (escape c) ≡ Some Quoted
byte_quoted test c small =
    written (λ (text : List ℕ). run test Quoted text ≡ Some Quoted) c small (λ letter is. refl)
    (λ a b e is.
    ap (λ (p : Place). run test p (e ∷ [])) (octal_quoted b is.second) ∙ ap (λ (p : Place). run test p []) (octal_quoted e is.third))
    (λ is.
    ap (λ (p : Place). run test p []) (ap (λ (b : Bool). cond b Open (cond (c == 92) Escaped Quoted)) is.no_quote ∙ ap (λ (b : Bool). cond b Escaped Quoted) is.no_backslash))

byte_braced : (c : ℕ) → IsByte c → within BracedQuoted (escape c) ≡ Some BracedQuoted
byte_braced c small =
    written (λ (text : List ℕ). within BracedQuoted text ≡ Some BracedQuoted) c small (λ letter is. refl)
    (λ a b e is.
    ap (λ (p : Place). cond (is_open p) None (within p (e ∷ []))) (octal_braced b is.second)
    ∙ ap (λ (p : Place). cond (is_open p) None (within p [])) (octal_braced e is.third))
    (λ is.
    ap (λ (p : Place). cond (is_open p) None (within p []))
    (ap (λ (b : Bool). cond b Braced (cond (c == 92) BracedEscaped BracedQuoted)) is.no_quote ∙ ap (λ (b : Bool). cond b BracedEscaped BracedQuoted) is.no_backslash))

printed_byte : (c : ℕ) → 32 ≤ c → c ≤ 126 → is_printed c ≡ true
printed_byte c low high = and_from _ _ (le-leb 32 c low) (le-leb c 126 high)

octal_printed : (c : ℕ) → IsOctal c → is_printed c ≡ true
octal_printed c is = printed_byte c (omega (arith, is.from)) (omega (arith, is.upto))

byte_printed : (c : ℕ) → IsByte c → list_all is_printed (escape c) ≡ true
byte_printed c small =
    written (λ (text : List ℕ). list_all is_printed text ≡ true) c small
    (λ letter is. and_from _ _ (printed_byte letter is.from is.upto) refl)
    (λ a b e is. and_from _ _ (octal_printed a is.first) (and_from _ _ (octal_printed b is.second) (and_from _ _ (octal_printed e is.third) refl)))
    (λ is. and_from _ _ (printed_byte c is.from is.upto) refl)

inner_quoted : (test : ℕ → Bool) (bytes : List ℕ) → AreBytes bytes → run test Quoted (flat_map escape bytes) ≡ Some Quoted
inner_quoted test [] all = refl
inner_quoted test (c ∷ bytes) all = run_both test Quoted Quoted Quoted (escape c) (flat_map escape bytes) (byte_quoted test c all.0) (inner_quoted test bytes all.1)

inner_braced : (bytes : List ℕ) → AreBytes bytes → within BracedQuoted (flat_map escape bytes) ≡ Some BracedQuoted
inner_braced [] all = refl
inner_braced (c ∷ bytes) all = within_both BracedQuoted BracedQuoted BracedQuoted (escape c) (flat_map escape bytes) (byte_braced c all.0) (inner_braced bytes all.1)

inner_printed : (bytes : List ℕ) → AreBytes bytes → list_all is_printed (flat_map escape bytes) ≡ true
inner_printed [] all = refl
inner_printed (c ∷ bytes) all = printed_both (escape c) (flat_map escape bytes) (byte_printed c all.0) (inner_printed bytes all.1)

string_runs : (test : ℕ → Bool) → test 34 ≡ false → (bytes : List ℕ) → AreBytes bytes → Holds test (string_text bytes)
string_runs test none bytes all =
    ap (λ (b : Bool). cond b None (run test Quoted (flat_map escape bytes ++ 34 ∷ []))) none
    ∙ run_both test Quoted Quoted Open (flat_map escape bytes) (34 ∷ []) (inner_quoted test bytes all) refl

string_printed : (bytes : List ℕ) → AreBytes bytes → list_all is_printed (string_text bytes) ≡ true
string_printed bytes all = printed_both (flat_map escape bytes) (34 ∷ []) (inner_printed bytes all) refl

pub string_field : (bytes : List ℕ) → AreBytes bytes → IsField (string_text bytes)
string_field bytes all =
    record {
      comma = string_runs is_comma refl bytes all;
      inside = within_both BracedQuoted BracedQuoted Braced (flat_map escape bytes) (34 ∷ []) (inner_braced bytes all) refl;
      printed = string_printed bytes all;
    }

pub string_front : (bytes : List ℕ) → AreBytes bytes → IsFront (string_text bytes)
string_front bytes all =
    record {
      whole = record { blank = string_runs is_blank refl bytes all; some = lt-ltb 0 (length (string_text bytes)) (omega arith); printed = string_printed bytes all };
      no_hint = refl;
    }

-- ---- types

pub field_both : (xs ys : List ℕ) → IsField xs → IsField ys → IsField (xs ++ ys)
field_both xs ys h k =
    record {
      comma = run_both is_comma Open Open Open xs ys h.comma k.comma;
      inside = within_both Braced Braced Braced xs ys h.inside k.inside;
      printed = printed_both xs ys h.printed k.printed;
    }

base_field : (base : Base) → IsField (base_name base)
base_field Int = record { comma = refl; inside = refl; printed = refl }
base_field Float = record { comma = refl; inside = refl; printed = refl }
base_field Color = record { comma = refl; inside = refl; printed = refl }
base_field Point = record { comma = refl; inside = refl; printed = refl }
base_field Vector = record { comma = refl; inside = refl; printed = refl }
base_field Normal = record { comma = refl; inside = refl; printed = refl }
base_field Matrix = record { comma = refl; inside = refl; printed = refl }
base_field Str = record { comma = refl; inside = refl; printed = refl }
base_field Closure = record { comma = refl; inside = refl; printed = refl }

len_dull : (len : ℕ) → len < 2 ^ 64 → AllDull (len_text len)
len_dull len small = go (len == 0)
  where
    go : (b : Bool) → AllDull (cond b [] (91 ∷ decimal len ++ 93 ∷ []))
    go true = tt
    go false = (dull_between 91 (omega arith) (omega arith), dull_both (decimal len) (93 ∷ []) (dull_decimal len small) (dull_between 93 (omega arith) (omega arith), tt))

pub short_array : (ty : Ty) → is_type ty ≡ true → ty.len ≤ longest_array
short_array ty fits = leb-true ty.len longest_array (and_parts (nat_le ty.len longest_array) (not (is_closure ty && not (ty.len == 0))) fits).0

pub type_field : (ty : Ty) → is_type ty ≡ true → IsField (type_text ty)
type_field ty fits =
    let short = short_array ty fits in
    field_both (base_name ty.base) (len_text ty.len) (base_field ty.base) (dull_field (len_text ty.len) (len_dull ty.len (omega arith)))

-- a base type whose name has no blank
base_dull : (base : Base) → (base ≡ Closure → ⊥) → AllDull (base_name base)
base_dull Int other = dull_all (base_name Int) refl
base_dull Float other = dull_all (base_name Float) refl
base_dull Color other = dull_all (base_name Color) refl
base_dull Point other = dull_all (base_name Point) refl
base_dull Vector other = dull_all (base_name Vector) refl
base_dull Normal other = dull_all (base_name Normal) refl
base_dull Matrix other = dull_all (base_name Matrix) refl
base_dull Str other = dull_all (base_name Str) refl
base_dull Closure other = absurd (other refl)

some_bytes : (base : Base) (rest : List ℕ) → 0 < length (base_name base ++ rest)
some_bytes Int rest = omega arith
some_bytes Float rest = omega arith
some_bytes Color rest = omega arith
some_bytes Point rest = omega arith
some_bytes Vector rest = omega arith
some_bytes Normal rest = omega arith
some_bytes Matrix rest = omega arith
some_bytes Str rest = omega arith
some_bytes Closure rest = omega arith

pub type_front : (ty : Ty) → is_type ty ≡ true → (ty.base ≡ Closure → ⊥) → IsFront (type_text ty)
type_front ty fits other =
    let short = short_array ty fits in
    dull_front (type_text ty) (dull_both (base_name ty.base) (len_text ty.len) (base_dull ty.base other) (len_dull ty.len (omega arith))) (some_bytes ty.base (len_text ty.len))

-- ---- values

pub value_fields : (base : Base) (nums : List ℤ) (texts : List (List ℕ)) → AllByRecursion (IsNumberOf base) nums → AllByRecursion AreBytes texts
    → AllByRecursion IsField (value_words base nums texts)
value_fields base nums texts fit bytes =
    all_both IsField (map (number_text base) nums) (map string_text texts) (all_map (IsNumberOf base) IsField (number_text base) (number_field base) nums fit)
    (all_map AreBytes IsField string_text string_field texts bytes)

magnitude_some : (units : ℕ) → units ≤ fmax → 0 < length (magnitude_text units)
unfolding magnitude_text
magnitude_some units small =
    let front : 0 < length (decimal (units / scale)) = decimal_nonempty (units / scale) (omega arith) in
    omega (arith, length-append (decimal (units / scale)) (fraction_text (units % scale)))

fx_some : (x : ℤ) → IsInRange x → 0 < length (fx_text x)
fx_some (pos n) fits = magnitude_some n (omega arith)
fx_some (negsuc n) fits = omega arith

number_some : (base : Base) (n : ℤ) → IsNumberOf base n → 0 < length (number_text base n)
number_some Int (pos n) fits = decimal_nonempty n (omega arith)
number_some Int (negsuc n) fits = omega arith
number_some Float n fits = fx_some n fits
number_some Color n fits = fx_some n fits
number_some Point n fits = fx_some n fits
number_some Vector n fits = fx_some n fits
number_some Normal n fits = fx_some n fits
number_some Matrix n fits = fx_some n fits
number_some Str n fits = fx_some n fits
number_some Closure n fits = fx_some n fits

number_front : (base : Base) (n : ℤ) → IsNumberOf base n → IsFront (number_text base n)
number_front base n fits = dull_front (number_text base n) (dull_number base n fits) (number_some base n fits)

pub value_fronts : (base : Base) (nums : List ℤ) (texts : List (List ℕ)) → AllByRecursion (IsNumberOf base) nums → AllByRecursion AreBytes texts
    → AllByRecursion IsFront (value_words base nums texts)
value_fronts base nums texts fit bytes =
    all_both IsFront (map (number_text base) nums) (map string_text texts) (all_map (IsNumberOf base) IsFront (number_text base) (number_front base) nums fit)
    (all_map AreBytes IsFront string_text string_front texts bytes)
