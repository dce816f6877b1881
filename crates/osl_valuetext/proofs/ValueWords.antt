-- The words of a value: what is written is read, and what is read was written.
use Rattle.std.proofs.Common.{◌≡◌, ℕ, ◌≤◌, Bool, true, false, cond, eqb, List, [], length, map, ℤ, Option, Some, None, refl, sym, ap, subst, ◌∙◌, append-nil, arith}
use Rattle.std.specs.Prelude.{option_map}
use Rattle.std.specs.List.{AllByRecursion}
use Rattle.std.proofs.lemmas.Bool.{eq-eqb, cond-true, le-leb, leb-true}
use Rattle.std.proofs.lemmas.List.{length-map, nil_from_length}
use Rattle.osl_value.specs.declared.types.Base.{Base}
use Rattle.osl_value.specs.declared.types.Base.TheVariants.{Int, Float, Color, Point, Vector, Normal, Matrix, Str, Closure}
use Rattle.osl_value.specs.declared.types.Ty.{Ty}
use Rattle.osl_value.specs.Plain.{IsNumberOf}
use Rattle.osl_value.specs.Types.{same_base, number_count, text_count, longest_text}
use Rattle.osl_valuetext.specs.declared.number.Spelling.{Spelling}
use Rattle.osl_valuetext.specs.declared.number.Spelling.TheVariants.{Canonical}
use Rattle.osl_valuetext.specs.Words.{Line, number_text, string_text, value_words}
use Rattle.osl_valuetext.specs.Literals.{◌>>=◌, each, number_at, string_at, text_at, is_short, Values, numbers_at, strings_at, values_at}
use Rattle.osl_valuetext.proofs.Plains.{bound, counted, each_all}
use Rattle.osl_valuetext.proofs.Canonicals.{each_written, each_read, number_written, number_read}
use Rattle.osl_valuetext.proofs.TypeTexts.{typed}
use Rattle.osl_valuetext.proofs.Escapes.{AreBytes, string_written, string_read}

-- as many numbers and strings as the type has, and each number in its range
pub record MakesUp (ty : Ty) (nums : List ℤ) (texts : List (List ℕ)) : Type 0 where
  pub nums_count : length nums ≡ number_count ty
  pub texts_count : length texts ≡ text_count ty
  pub fit : AllByRecursion (IsNumberOf ty.base) nums

-- ---- strings

pub record IsText (text : List ℕ) : Type 0 where
  pub bytes : AreBytes text
  pub short : length text ≤ longest_text

pub text_written : (text : List ℕ) → IsText text → text_at (string_text text) ≡ Some text
unfolding text_at
text_written text is =
    ap (λ (o : Option (List ℕ)). o >>= λ bytes. cond (is_short bytes) (Some bytes) None) (string_written text is.bytes)
    ∙ cond-true _ _ _ (le-leb (length text) longest_text is.short)

pub text_read : (word text : List ℕ) → text_at word ≡ Some text → (word ≡ string_text text) × IsText text
unfolding text_at
text_read word text e =
    let a = bound (string_at word) (λ bytes. cond (is_short bytes) (Some bytes) None) text e in
    let is = string_read word a.0 a.1 in
    go a.0 is.0 is.1 (is_short a.0) refl a.2
  where
    go : (bytes : List ℕ) → word ≡ string_text bytes → AreBytes bytes → (b : Bool) → is_short bytes ≡ b → cond b (Some bytes) None ≡ Some text → (word ≡ string_text text) × IsText text
    go bytes is are true short h =
        let same : bytes ≡ text = cc in
        let made : IsText bytes = record { bytes = are; short = leb-true _ _ short } in
        (is ∙ ap string_text same, subst IsText same made)
    go bytes is are false short h = absurd cc

-- ---- written, and read

abbrev values : List ℤ → List (List ℕ) → Values
values nums texts = record { nums = nums; texts = texts }

numbers_written : (s : Spelling) (ty : Ty) (nums : List ℤ) → length nums ≡ number_count ty → AllByRecursion (IsNumberOf ty.base) nums
    → numbers_at s ty (map (number_text ty.base) nums) ≡ Some (values nums [])
unfolding numbers_at
numbers_written s ty nums count fit =
    cond-true _ _ _ (eq-eqb _ _ (length-map nums (number_text ty.base) ∙ count))
    ∙ ap (option_map (λ ns. values ns [])) (each_written (number_at s ty.base) (number_text ty.base) (IsNumberOf ty.base) (number_written s ty.base) nums fit)

strings_written : (read : List ℕ → Option (List ℕ)) (P : List ℕ → Type 0) → ((text : List ℕ) → P text → read (string_text text) ≡ Some text)
    → (ty : Ty) (texts : List (List ℕ)) → length texts ≡ text_count ty → AllByRecursion P texts → strings_at read ty (map string_text texts) ≡ Some (values [] texts)
unfolding strings_at
strings_written read P one ty texts count fit =
    cond-true _ _ _ (eq-eqb _ _ (length-map texts string_text ∙ count))
    ∙ ap (option_map (λ ts. values [] ts)) (each_written read string_text P one texts fit)

numbers_alone : (s : Spelling) (ty : Ty) (nums : List ℤ) (texts : List (List ℕ)) → MakesUp ty nums texts → text_count ty ≡ 0
    → numbers_at s ty (value_words ty.base nums texts) ≡ Some (values nums texts)
numbers_alone s ty nums texts is none =
    let empty : [] ≡ texts = sym (nil_from_length texts (is.texts_count ∙ none)) in
    subst (λ (ts : List (List ℕ)). numbers_at s ty (value_words ty.base nums ts) ≡ Some (values nums ts)) empty
    (ap (numbers_at s ty) (append-nil (map (number_text ty.base) nums)) ∙ numbers_written s ty nums is.nums_count is.fit)

strings_alone : (read : List ℕ → Option (List ℕ)) (P : List ℕ → Type 0) → ((text : List ℕ) → P text → read (string_text text) ≡ Some text)
    → (ty : Ty) (nums : List ℤ) (texts : List (List ℕ)) → MakesUp ty nums texts → number_count ty ≡ 0 → AllByRecursion P texts
    → strings_at read ty (value_words ty.base nums texts) ≡ Some (values nums texts)
strings_alone read P one ty nums texts is none all =
    let empty : [] ≡ nums = sym (nil_from_length nums (is.nums_count ∙ none)) in
    subst (λ (ns : List ℤ). strings_at read ty (value_words ty.base ns texts) ≡ Some (values ns texts)) empty (strings_written read P one ty texts is.texts_count all)

module _ (s : Spelling) (read : List ℕ → Option (List ℕ)) (P : List ℕ → Type 0) (one : (text : List ℕ) → P text → read (string_text text) ≡ Some text) where
  pub values_written : (base : Base) (len : ℕ) (nums : List ℤ) (texts : List (List ℕ)) → MakesUp (typed base len) nums texts → AllByRecursion P texts
      → values_at s read (typed base len) (value_words base nums texts) ≡ Some (values nums texts)
  unfolding values_at
  values_written Int len nums texts is all = numbers_alone s (typed Int len) nums texts is (omega arith)
  values_written Float len nums texts is all = numbers_alone s (typed Float len) nums texts is (omega arith)
  values_written Color len nums texts is all = numbers_alone s (typed Color len) nums texts is (omega arith)
  values_written Point len nums texts is all = numbers_alone s (typed Point len) nums texts is (omega arith)
  values_written Vector len nums texts is all = numbers_alone s (typed Vector len) nums texts is (omega arith)
  values_written Normal len nums texts is all = numbers_alone s (typed Normal len) nums texts is (omega arith)
  values_written Matrix len nums texts is all = numbers_alone s (typed Matrix len) nums texts is (omega arith)
  values_written Str len nums texts is all = strings_alone read P one (typed Str len) nums texts is (omega arith) all
  values_written Closure len nums texts is all = numbers_alone s (typed Closure len) nums texts is (omega arith)

-- what is read, with what is so for each string that is read
pub record WereWritten (P : List ℕ → Type 0) (base : Base) (words : Line) (v : Values) : Type 0 where
  pub words_are : words ≡ value_words base v.nums v.texts
  pub all : AllByRecursion P v.texts

numbers_read : (P : List ℕ → Type 0) (ty : Ty) (words : Line) (v : Values) → numbers_at Canonical ty words ≡ Some v → WereWritten P ty.base words v
unfolding numbers_at
numbers_read P ty words v e =
    let make : List ℤ → Values = λ nums. values nums [] in
    let found = counted make (eqb (length words) (number_count ty)) (each (number_at Canonical ty.base) words) v e in
    let is : words ≡ map (number_text ty.base) found.1.0 = each_read (number_at Canonical ty.base) (number_text ty.base) (number_read ty.base) words found.1.0 found.1.1 in
    let made : WereWritten P ty.base words (make found.1.0) = record { words_are = is ∙ sym (append-nil (map (number_text ty.base) found.1.0)); all = tt } in
    subst (λ (u : Values). WereWritten P ty.base words u) found.1.2 made

strings_read : (P : List ℕ → Type 0) (read : List ℕ → Option (List ℕ)) → ((word text : List ℕ) → read word ≡ Some text → (word ≡ string_text text) × P text)
    → (ty : Ty) (words : Line) (v : Values) → strings_at read ty words ≡ Some v → WereWritten P ty.base words v
unfolding strings_at
strings_read P read one ty words v e =
    let make : List (List ℕ) → Values = λ texts. values [] texts in
    let found = counted make (eqb (length words) (text_count ty)) (each read words) v e in
    let is : words ≡ map string_text found.1.0 = each_read read string_text (λ word text h. (one word text h).0) words found.1.0 found.1.1 in
    let made : WereWritten P ty.base words (make found.1.0) = record { words_are = is; all = each_all P read (λ word text h. (one word text h).1) words found.1.0 found.1.1 } in
    subst (λ (u : Values). WereWritten P ty.base words u) found.1.2 made

pub values_read : (P : List ℕ → Type 0) (read : List ℕ → Option (List ℕ)) → ((word text : List ℕ) → read word ≡ Some text → (word ≡ string_text text) × P text)
    → (ty : Ty) (words : Line) (v : Values) → values_at Canonical read ty words ≡ Some v → WereWritten P ty.base words v
unfolding values_at
values_read P read one ty words v e = go (same_base ty.base Str) e
  where
    go : (b : Bool) → cond b (strings_at read ty words) (numbers_at Canonical ty words) ≡ Some v → WereWritten P ty.base words v
    go true h = strings_read P read one ty words v h
    go false h = numbers_read P ty words v h
