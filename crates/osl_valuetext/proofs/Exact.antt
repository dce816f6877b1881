-- Readers against what words spell: both ways.
use Rattle.std.proofs.Common.{◌≡◌, ℕ, suc, Bool, true, false, cond, eqb, List, [], ◌∷◌, length, ℤ, Option, Some, None, refl, sym, ap, subst, ◌∙◌, arith}
use Rattle.std.specs.Prelude.{option_map, nat_lt}
use Rattle.std.specs.List.{AllByRecursion, list_all}
use Rattle.std.proofs.lemmas.Bool.{and_parts, eq-eqb, cond-true, ltb-true, leb-true}
use Rattle.std.proofs.lemmas.List.{nil_from_length}
use Rattle.std.proofs.lemmas.List.Elements.{All-from_recursion, recursion_from_All}
use Rattle.osl_value.specs.declared.types.Base.{Base}
use Rattle.osl_value.specs.declared.types.Base.TheVariants.{Int, Float, Color, Point, Vector, Normal, Matrix, Str, Closure}
use Rattle.osl_value.specs.declared.types.Ty.{Ty}
use Rattle.osl_value.specs.Plain.{Plain, IsNumberOf, IsPlain}
use Rattle.osl_value.specs.Types.{same_base, number_count, text_count, longest_text}
use Rattle.osl_valuetext.specs.declared.number.Spelling.{Spelling}
use Rattle.osl_valuetext.specs.declared.number.Spelling.TheVariants.{Canonical, Free}
use Rattle.osl_valuetext.specs.Words.{Line, value_words}
use Rattle.osl_valuetext.specs.Literals.{◌>>=◌, each, number_at, string_at, text_at, is_short, is_plain_type, value_of, Values, numbers_at, strings_at, values_at, value_at}
use Rattle.osl_valuetext.specs.Types.{type_at}
use Rattle.osl_valuetext.specs.Spells.{IsByte, StringWord, TextWord, are_bytes, is_text, TypeWord, Literal, OneForOne, Spelled, ValueWords}
use Rattle.osl_valuetext.proofs.Alls.{all_pass}
use Rattle.osl_valuetext.proofs.Plains.{bound, counted, number_fits, plain_type, plain_type_from, values_are_plain}
use Rattle.osl_valuetext.proofs.Canonicals.{number_written, number_read}
use Rattle.osl_valuetext.proofs.Escapes.{AreBytes, string_written, string_read}
use Rattle.osl_valuetext.proofs.TypeTexts.{typed, type_written, type_read}
use Rattle.osl_valuetext.proofs.ValueWords.{MakesUp, IsText, text_written, text_read, values_written}

-- ---- strings

pub string_spelled : (word bytes : List ℕ) → string_at word ≡ Some bytes → StringWord word bytes
string_spelled word bytes e = let is = string_read word bytes e in record { text = is.0; all_bytes = All-from_recursion IsByte bytes is.1 }

pub string_there : (word bytes : List ℕ) → StringWord word bytes → string_at word ≡ Some bytes
string_there word bytes is = ap string_at is.text ∙ string_written bytes (recursion_from_All IsByte bytes is.all_bytes)

pub text_spelled : (word text : List ℕ) → text_at word ≡ Some text → TextWord word text
text_spelled word text e =
    let is = text_read word text e in
    record { string = record { text = is.0; all_bytes = All-from_recursion IsByte text is.1.bytes }; short = is.1.short }

pub text_there : (word text : List ℕ) → TextWord word text → text_at word ≡ Some text
text_there word text is =
    let whole : IsText text = record { bytes = recursion_from_All IsByte text is.string.all_bytes; short = is.short } in
    ap text_at is.string.text ∙ text_written text whole

-- ---- types and numbers

pub type_spelled : (word : List ℕ) (ty : Ty) → type_at word ≡ Some ty → TypeWord word ty
type_spelled word ty e =
    let is = type_read word ty e in
    let has = plain_type ty is.1 in
    record { text = is.0; no_closure = has.no_closure; short = has.short }

pub type_there : (word : List ℕ) (ty : Ty) → TypeWord word ty → type_at word ≡ Some ty
type_there word ty is = ap type_at is.text ∙ type_written ty (plain_type_from ty is.no_closure is.short)

pub literal_spelled : (s : Spelling) (base : Base) (word : List ℕ) (n : ℤ) → number_at s base word ≡ Some n → Literal s base word n
literal_spelled Canonical base word n e = (number_read base word n e, number_fits Canonical base word n e)
literal_spelled Free base word n e = e

pub literal_there : (s : Spelling) (base : Base) (word : List ℕ) (n : ℤ) → Literal s base word n → number_at s base word ≡ Some n
literal_there Canonical base word n is = ap (number_at Canonical base) is.0 ∙ number_written Canonical base n is.1
literal_there Free base word n is = is

-- ---- lists

some_list : {Y : Type 0} (xs ys : List Y) → ◌≡◌ {A = Option (List Y)} (Some xs) (Some ys) → xs ≡ ys
some_list xs ys e = cc

one_for_one : {X Y : Type 0} (P : X → Y → Type 0) (f : X → Option Y) → ((x : X) (y : Y) → f x ≡ Some y → P x y)
    → (xs : List X) (ys : List Y) → each f xs ≡ Some ys → OneForOne P xs ys
one_for_one {X} {Y} P f one [] ys e = subst (λ (zs : List Y). OneForOne P [] zs) (some_list [] ys e) tt
one_for_one {X} {Y} P f one (x ∷ xs) ys e =
    let a = bound (f x) (λ y. each f xs >>= λ more. Some (y ∷ more)) ys e in
    let b = bound (each f xs) (λ more. Some (a.0 ∷ more)) ys a.2 in
    subst (λ (zs : List Y). OneForOne P (x ∷ xs) zs) (some_list (a.0 ∷ b.0) ys b.2) (one x a.0 a.1, one_for_one P f one xs b.0 b.1)

each_there : {X Y : Type 0} (P : X → Y → Type 0) (f : X → Option Y) → ((x : X) (y : Y) → P x y → f x ≡ Some y)
    → (xs : List X) (ys : List Y) → OneForOne P xs ys → each f xs ≡ Some ys
each_there P f one [] [] all = refl
each_there P f one [] (y ∷ ys) all = absurd all
each_there P f one (x ∷ xs) [] all = absurd all
each_there {X} {Y} P f one (x ∷ xs) (y ∷ ys) all =
    ap (λ (o : Option Y). o >>= λ z. each f xs >>= λ zs. Some (z ∷ zs)) (one x y all.0)
    ∙ ap (λ (o : Option (List Y)). o >>= λ zs. Some (y ∷ zs)) (each_there P f one xs ys all.1)

as_many : {X Y : Type 0} (P : X → Y → Type 0) (xs : List X) (ys : List Y) → OneForOne P xs ys → length xs ≡ length ys
as_many P [] [] all = refl
as_many P [] (y ∷ ys) all = absurd all
as_many P (x ∷ xs) [] all = absurd all
as_many P (x ∷ xs) (y ∷ ys) all = ap suc (as_many P xs ys all.1)

-- ---- values

abbrev values : List ℤ → List (List ℕ) → Values
values nums texts = record { nums = nums; texts = texts }

numbers_spelled : (s : Spelling) (ty : Ty) (words : Line) (u : Values) → numbers_at s ty words ≡ Some u → OneForOne (Literal s ty.base) words u.nums
unfolding numbers_at
numbers_spelled s ty words u e =
    let found = counted (λ nums. values nums []) (eqb (length words) (number_count ty)) (each (number_at s ty.base) words) u e in
    let all = one_for_one (Literal s ty.base) (number_at s ty.base) (literal_spelled s ty.base) words found.1.0 found.1.1 in
    subst (λ (v : Values). OneForOne (Literal s ty.base) words v.nums) found.1.2 all

strings_spelled : (ty : Ty) (words : Line) (u : Values) → strings_at text_at ty words ≡ Some u → OneForOne TextWord words u.texts
unfolding strings_at
strings_spelled ty words u e =
    let found = counted (λ texts. values [] texts) (eqb (length words) (text_count ty)) (each text_at words) u e in
    let all = one_for_one TextWord text_at text_spelled words found.1.0 found.1.1 in
    subst (λ (v : Values). OneForOne TextWord words v.texts) found.1.2 all

all_spelled : (s : Spelling) (ty : Ty) (words : Line) (u : Values) → values_at s text_at ty words ≡ Some u → Spelled (same_base ty.base Str) s words (value_of ty u)
unfolding values_at
all_spelled s ty words u e = go (same_base ty.base Str) e
  where
    go : (b : Bool) → cond b (strings_at text_at ty words) (numbers_at s ty words) ≡ Some u → Spelled b s words (value_of ty u)
    go true h = strings_spelled ty words u h
    go false h = numbers_spelled s ty words u h

pub value_spelled : (s : Spelling) (ty : Ty) (words : Line) (v : Plain) → value_at s ty words ≡ Some v → (v.ty ≡ ty) × ValueWords s words v
unfolding value_at
value_spelled s ty words v e = go (is_plain_type ty) refl e
  where
    from : is_plain_type ty ≡ true → (o : Option Values) → values_at s text_at ty words ≡ o → option_map (value_of ty) o ≡ Some v → (v.ty ≡ ty) × ValueWords s words v
    from has (Some u) read h =
        let same : value_of ty u ≡ v = cc in
        let made : ValueWords s words (value_of ty u) = record { is_plain = values_are_plain s ty words u has read; spelled = all_spelled s ty words u read } in
        (ap (λ (x : Plain). x.ty) (sym same), subst (λ (x : Plain). ValueWords s words x) same made)
    from has None read h = absurd cc

    go : (b : Bool) → is_plain_type ty ≡ b → cond b (option_map (value_of ty) (values_at s text_at ty words)) None ≡ Some v → (v.ty ≡ ty) × ValueWords s words v
    go true has h = from has (values_at s text_at ty words) refl h
    go false has h = absurd cc

numbers_there : (s : Spelling) (ty : Ty) (words : Line) (nums : List ℤ) (texts : List (List ℕ)) → IsPlain ty nums texts → text_count ty ≡ 0
    → OneForOne (Literal s ty.base) words nums → numbers_at s ty words ≡ Some (values nums texts)
unfolding numbers_at
numbers_there s ty words nums texts is none all =
    let empty : texts ≡ [] = nil_from_length texts (is.texts_fit ∙ none) in
    cond-true _ _ _ (eq-eqb _ _ (as_many (Literal s ty.base) words nums all ∙ is.nums_fit))
    ∙ ap (option_map (λ ns. values ns [])) (each_there (Literal s ty.base) (number_at s ty.base) (literal_there s ty.base) words nums all)
    ∙ ap (λ (ts : List (List ℕ)). Some (values nums ts)) (sym empty)

strings_there : (ty : Ty) (words : Line) (nums : List ℤ) (texts : List (List ℕ)) → IsPlain ty nums texts → number_count ty ≡ 0
    → OneForOne TextWord words texts → strings_at text_at ty words ≡ Some (values nums texts)
unfolding strings_at
strings_there ty words nums texts is none all =
    let empty : nums ≡ [] = nil_from_length nums (is.nums_fit ∙ none) in
    cond-true _ _ _ (eq-eqb _ _ (as_many TextWord words texts all ∙ is.texts_fit))
    ∙ ap (option_map (λ ts. values [] ts)) (each_there TextWord text_at text_there words texts all)
    ∙ ap (λ (ns : List ℤ). Some (values ns texts)) (sym empty)

values_there : (s : Spelling) (base : Base) (len : ℕ) (words : Line) (nums : List ℤ) (texts : List (List ℕ)) → IsPlain (typed base len) nums texts
    → Spelled (same_base base Str) s words (record { ty = typed base len; nums = nums; texts = texts }) → values_at s text_at (typed base len) words ≡ Some (values nums texts)
unfolding values_at
values_there s Int len words nums texts is all = numbers_there s (typed Int len) words nums texts is (omega arith) all
values_there s Float len words nums texts is all = numbers_there s (typed Float len) words nums texts is (omega arith) all
values_there s Color len words nums texts is all = numbers_there s (typed Color len) words nums texts is (omega arith) all
values_there s Point len words nums texts is all = numbers_there s (typed Point len) words nums texts is (omega arith) all
values_there s Vector len words nums texts is all = numbers_there s (typed Vector len) words nums texts is (omega arith) all
values_there s Normal len words nums texts is all = numbers_there s (typed Normal len) words nums texts is (omega arith) all
values_there s Matrix len words nums texts is all = numbers_there s (typed Matrix len) words nums texts is (omega arith) all
values_there s Str len words nums texts is all = strings_there (typed Str len) words nums texts is (omega arith) all
values_there s Closure len words nums texts is all = absurd (is.no_closure refl)

pub value_there : (s : Spelling) (words : Line) (v : Plain) → ValueWords s words v → value_at s v.ty words ≡ Some v
unfolding value_at
value_there s words v is =
    cond-true _ _ _ (plain_type_from v.ty is.is_plain.no_closure is.is_plain.short)
    ∙ ap (option_map (value_of v.ty)) (values_there s v.ty.base v.ty.len words v.nums v.texts is.is_plain is.spelled)

pub value_exact : (s : Spelling) (ty : Ty) (words : Line) (v : Plain) → (v.ty ≡ ty) × ValueWords s words v → value_at s ty words ≡ Some v
value_exact s ty words v is = subst (λ (t : Ty). value_at s t words ≡ Some v) is.0 (value_there s words v is.1)

-- ---- what is written

pub value_written : (s : Spelling) (v : Plain) → IsPlain v.ty v.nums v.texts → AllByRecursion IsText v.texts
    → value_at s v.ty (value_words v.ty.base v.nums v.texts) ≡ Some v
unfolding value_at
value_written s v is texts =
    let makes : MakesUp v.ty v.nums v.texts =
    record { nums_count = is.nums_fit; texts_count = is.texts_fit; fit = recursion_from_All (IsNumberOf v.ty.base) v.nums is.in_range } in
    cond-true _ _ _ (plain_type_from v.ty is.no_closure is.short)
    ∙ ap (option_map (value_of v.ty)) (values_written s text_at IsText text_written v.ty.base v.ty.len v.nums v.texts makes texts)

-- ---- tests

pub bytes_are : (bytes : List ℕ) → are_bytes bytes ≡ true → AreBytes bytes
bytes_are bytes h = all_pass IsByte (λ c. nat_lt c 256) (λ c k. ltb-true c 256 k) bytes h

pub text_is : (text : List ℕ) → is_text text ≡ true → IsText text
text_is text h =
    let parts = and_parts (are_bytes text) (is_short text) h in
    record { bytes = bytes_are text parts.0; short = leb-true (length text) longest_text parts.1 }

pub texts_are : (texts : List (List ℕ)) → list_all is_text texts ≡ true → AllByRecursion IsText texts
texts_are texts h = all_pass IsText is_text text_is texts h
