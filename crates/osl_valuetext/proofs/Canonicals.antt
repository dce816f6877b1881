-- Words that are numbers: what is written is read, and what is read was written.
use Rattle.std.proofs.Common.{◌≡◌, ℕ, ◌<◌, ◌^◌, Bool, true, false, ◌&&◌, cond, nat_lt, List, [], ◌∷◌, map, ℤ, Option, Some, None, refl, sym, ap, subst, ◌∙◌, arith}
use Rattle.std.specs.Prelude.{FitsSigned}
use Rattle.std.specs.Fmt.{decimal}
use Rattle.std.specs.Int.{w32}
use Rattle.std.specs.List.{AllByRecursion}
use Rattle.std.specs.Str.{bytes_eq}
use Rattle.std.specs.Str.Parse.{digits_value}
use Rattle.std.proofs.lemmas.Bool.{and_parts, and_from, lt-ltb, ltb-true, cond-true}
use Rattle.std.proofs.lemmas.Fmt.{digits_value-decimal}
use Rattle.std.proofs.lemmas.Slice.Eq.{bytes_eq-Decides}
use Rattle.osl_value.specs.declared.types.Base.{Base}
use Rattle.osl_value.specs.declared.types.Base.TheVariants.{Int, Float, Color, Point, Vector, Normal, Matrix, Str, Closure}
use Rattle.osl_value.specs.Numbers.{IsInRange}
use Rattle.osl_value.specs.Plain.{IsNumberOf}
use Rattle.osl_decimal.specs.Canonical.{int_text, fx_text}
use Rattle.osl_decimal.specs.Decimal.{is_numeral, int_of, fx_of}
use Rattle.osl_decimal.proofs.Numerals.{numerals}
use Rattle.osl_decimal.proofs.RoundTrip.{numeral-decimal, int_of-int_text, fx_of-fx_text}
use Rattle.osl_valuetext.specs.Words.{number_text}
use Rattle.osl_valuetext.specs.declared.number.Spelling.{Spelling}
use Rattle.osl_valuetext.specs.declared.number.Spelling.TheVariants.{Canonical, Free}
use Rattle.osl_valuetext.specs.Literals.{◌>>=◌, each, spelled, int_at, fx_at, decimal_at, int_word, fx_word, number_at}
use Rattle.osl_valuetext.proofs.Plains.{bound, spelled_is}
use Rattle.osl_valuetext.proofs.Spellings.{spelled_some, int_spelled, fx_spelled}

-- ---- each of a list

pub each_written : {X Y : Type 0} (f : X → Option Y) (text : Y → X) (P : Y → Type 0) → ((y : Y) → P y → f (text y) ≡ Some y)
    → (ys : List Y) → AllByRecursion P ys → each f (map text ys) ≡ Some ys
each_written f text P one [] all = refl
each_written {X} {Y} f text P one (y ∷ ys) all =
    ap (λ (o : Option Y). o >>= λ z. each f (map text ys) >>= λ zs. Some (z ∷ zs)) (one y all.0)
    ∙ ap (λ (o : Option (List Y)). o >>= λ zs. Some (y ∷ zs)) (each_written f text P one ys all.1)

some_list : {Y : Type 0} (xs ys : List Y) → ◌≡◌ {A = Option (List Y)} (Some xs) (Some ys) → xs ≡ ys
some_list xs ys e = cc

pub each_read : {X Y : Type 0} (f : X → Option Y) (text : Y → X) → ((x : X) (y : Y) → f x ≡ Some y → x ≡ text y)
    → (xs : List X) (ys : List Y) → each f xs ≡ Some ys → xs ≡ map text ys
each_read {X} {Y} f text one [] ys e = ap (map text) (some_list [] ys e)
each_read {X} {Y} f text one (x ∷ xs) ys e =
    let a = bound (f x) (λ y. each f xs >>= λ more. Some (y ∷ more)) ys e in
    let b = bound (each f xs) (λ more. Some (a.0 ∷ more)) ys a.2 in
    ap (λ (z : X). z ∷ xs) (one x a.0 a.1) ∙ ap (λ (zs : List X). text a.0 ∷ zs) (each_read f text one xs b.0 b.1) ∙ ap (map text) (some_list (a.0 ∷ b.0) ys b.2)

-- ---- numbers

pub int_written : (n : ℤ) → FitsSigned w32 n → int_at (int_text n) ≡ Some n
int_written n fits = sym (int_spelled (int_text n) n fits refl)

pub fx_written : (x : ℤ) → IsInRange x → fx_at (fx_text x) ≡ Some x
fx_written x fits = sym (fx_spelled (fx_text x) x fits refl)

int_word_written : (s : Spelling) (n : ℤ) → FitsSigned w32 n → int_word s (int_text n) ≡ Some n
int_word_written Canonical n fits = int_written n fits
int_word_written Free n fits = int_of-int_text n fits

fx_word_written : (s : Spelling) (x : ℤ) → IsInRange x → fx_word s (fx_text x) ≡ Some x
fx_word_written Canonical x fits = fx_written x fits
fx_word_written Free x fits = fx_of-fx_text x fits

pub number_written : (s : Spelling) (base : Base) (n : ℤ) → IsNumberOf base n → number_at s base (number_text base n) ≡ Some n
number_written s Int n fits = int_word_written s n fits
number_written s Float n fits = fx_word_written s n fits
number_written s Color n fits = fx_word_written s n fits
number_written s Point n fits = fx_word_written s n fits
number_written s Vector n fits = fx_word_written s n fits
number_written s Normal n fits = fx_word_written s n fits
number_written s Matrix n fits = fx_word_written s n fits
number_written s Str n fits = fx_word_written s n fits
number_written s Closure n fits = fx_word_written s n fits

pub decimal_written : (n : ℕ) → n < 2 ^ 32 → decimal_at (decimal n) ≡ Some n
unfolding decimal_at
decimal_written n small =
    let fits : n < 2 ^ 64 = omega arith in
    let value : digits_value 10 (decimal n) ≡ n = digits_value-decimal numerals n fits in
    let test : (is_numeral (decimal n) && nat_lt n (2 ^ 32)) ≡ true = and_from _ _ (numeral-decimal n fits) (lt-ltb n (2 ^ 32) small) in
    ap (λ (m : ℕ). cond (is_numeral (decimal n) && nat_lt m (2 ^ 32)) (spelled decimal (decimal n) m) None) value
    ∙ cond-true _ _ _ test ∙ spelled_some decimal (decimal n) n refl

spelled_text : {X : Type 0} (text : X → List ℕ) (word : List ℕ) (x y : X) → spelled text word x ≡ Some y → word ≡ text y
spelled_text {X} text word x y e = go (bytes_eq word (text x)) refl e
  where
    go : (b : Bool) → bytes_eq word (text x) ≡ b → cond b (Some x) None ≡ Some y → word ≡ text y
    go true same h = let is : x ≡ y = cc in (bytes_eq-Decides word (text x)).0 same ∙ ap text is
    go false same h = absurd cc

pub int_read : (word : List ℕ) (n : ℤ) → int_at word ≡ Some n → word ≡ int_text n
unfolding int_at
int_read word n e = let a = bound (int_of word) (spelled int_text word) n e in spelled_text int_text word a.0 n a.2

pub fx_read : (word : List ℕ) (x : ℤ) → fx_at word ≡ Some x → word ≡ fx_text x
unfolding fx_at
fx_read word x e = let a = bound (fx_of word) (spelled fx_text word) x e in spelled_text fx_text word a.0 x a.2

pub number_read : (base : Base) (word : List ℕ) (n : ℤ) → number_at Canonical base word ≡ Some n → word ≡ number_text base n
number_read Int word n e = int_read word n e
number_read Float word n e = fx_read word n e
number_read Color word n e = fx_read word n e
number_read Point word n e = fx_read word n e
number_read Vector word n e = fx_read word n e
number_read Normal word n e = fx_read word n e
number_read Matrix word n e = fx_read word n e
number_read Str word n e = fx_read word n e
number_read Closure word n e = fx_read word n e

pub decimal_read : (word : List ℕ) (n : ℕ) → decimal_at word ≡ Some n → (word ≡ decimal n) × (n < 2 ^ 32)
unfolding decimal_at
decimal_read word n e = go (is_numeral word && nat_lt (digits_value 10 word) (2 ^ 32)) refl e
  where
    go : (b : Bool) → (is_numeral word && nat_lt (digits_value 10 word) (2 ^ 32)) ≡ b → cond b (spelled decimal word (digits_value 10 word)) None ≡ Some n → (word ≡ decimal n) × (n < 2 ^ 32)
    go true test h =
        let same : digits_value 10 word ≡ n = spelled_is decimal word (digits_value 10 word) n h in
        (spelled_text decimal word (digits_value 10 word) n h, subst (λ (m : ℕ). m < 2 ^ 32) same (ltb-true _ _ (and_parts (is_numeral word) (nat_lt (digits_value 10 word) (2 ^ 32)) test).1))
    go false test h = absurd cc
