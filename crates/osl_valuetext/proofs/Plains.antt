-- What is read as a value's numbers and strings makes up a value.
use Rattle.std.proofs.Common.{◌≡◌, ℕ, suc, ◌≤◌, Bool, true, false, not, cond, eqb, List, [], ◌∷◌, length, ℤ, Option, Some, None, refl, sym, ap, subst, ◌∙◌, arith}
use Rattle.std.specs.Prelude.{FitsSigned, IfSome, nat_le, option_map, filter}
use Rattle.std.specs.Int.{w32}
use Rattle.std.specs.List.{AllByRecursion}
use Rattle.std.specs.Str.{bytes_eq}
use Rattle.std.proofs.lemmas.Bool.{and_parts, and_from, eqb-true, leb-true, le-leb, not-true}
use Rattle.std.proofs.lemmas.List.Elements.{All-from_recursion}
use Rattle.osl_value.specs.declared.types.Base.{Base}
use Rattle.osl_value.specs.declared.types.Base.TheVariants.{Int, Float, Color, Point, Vector, Normal, Matrix, Str, Closure}
use Rattle.osl_value.specs.declared.types.Ty.{Ty}
use Rattle.osl_value.specs.Numbers.{IsInRange}
use Rattle.osl_value.specs.Plain.{IsNumberOf, IsPlain}
use Rattle.osl_value.specs.Types.{same_base, number_count, text_count, longest_array}
use Rattle.osl_decimal.specs.Canonical.{int_text, fx_text}
use Rattle.osl_decimal.specs.Decimal.{int_of, fx_of}
use Rattle.osl_valuetext.specs.declared.number.Spelling.{Spelling}
use Rattle.osl_valuetext.specs.declared.number.Spelling.TheVariants.{Canonical, Free}
use Rattle.osl_valuetext.specs.Words.{Line}
use Rattle.osl_valuetext.specs.Literals.{◌>>=◌, each, spelled, int_at, fx_at, int_word, fx_word, number_at, text_at, is_plain_type, Values, numbers_at, strings_at, values_at}
use Rattle.osl_valuetext.proofs.Spellings.{int_in_range, fx_in_range}

-- all pass a test that always holds
pub all_kept : (xs : List (List ℕ)) → filter (λ x. true) xs ≡ xs
all_kept [] = refl
all_kept (x ∷ xs) = ap (λ (ys : List (List ℕ)). x ∷ ys) (all_kept xs)

-- ---- reading each of a list

pub bound : {A B : Type 0} (o : Option A) (f : A → Option B) (y : B) → (o >>= f) ≡ Some y → (x : A) × (o ≡ Some x) × (f x ≡ Some y)
bound (Some x) f y e = (x, refl, e)
bound None f y e = absurd cc

some_is : {A : Type 0} (x y : A) → ◌≡◌ {A = Option A} (Some x) (Some y) → x ≡ y
some_is x y e = cc

pub each_length : {X Y : Type 0} (f : X → Option Y) (xs : List X) (ys : List Y) → each f xs ≡ Some ys → length ys ≡ length xs
each_length {X} {Y} f [] ys e = ap length (sym (some_is {A = List Y} [] ys e))
each_length {X} {Y} f (x ∷ xs) ys e =
    let a = bound (f x) (λ y. each f xs >>= λ more. Some (y ∷ more)) ys e in
    let b = bound (each f xs) (λ more. Some (a.0 ∷ more)) ys a.2 in
    ap length (sym (some_is {A = List Y} (a.0 ∷ b.0) ys b.2)) ∙ ap suc (each_length f xs b.0 b.1)

pub each_all : {X Y : Type 0} (P : Y → Type 0) (f : X → Option Y) → ((x : X) (y : Y) → f x ≡ Some y → P y)
    → (xs : List X) (ys : List Y) → each f xs ≡ Some ys → AllByRecursion P ys
each_all {X} {Y} P f h [] ys e = subst (λ (zs : List Y). AllByRecursion P zs) (some_is {A = List Y} [] ys e) tt
each_all {X} {Y} P f h (x ∷ xs) ys e =
    let a = bound (f x) (λ y. each f xs >>= λ more. Some (y ∷ more)) ys e in
    let b = bound (each f xs) (λ more. Some (a.0 ∷ more)) ys a.2 in
    subst (λ (zs : List Y). AllByRecursion P zs) (some_is {A = List Y} (a.0 ∷ b.0) ys b.2) (h x a.0 a.1, each_all P f h xs b.0 b.1)

-- ---- numbers

pub spelled_is : {X : Type 0} (text : X → List ℕ) (word : List ℕ) (x y : X) → spelled text word x ≡ Some y → x ≡ y
spelled_is {X} text word x y e = go (bytes_eq word (text x)) e
  where
    go : (b : Bool) → cond b (Some x) None ≡ Some y → x ≡ y
    go true h = some_is x y h
    go false h = absurd cc

read_in : {X : Type 0} (text : X → List ℕ) (word : List ℕ) (In : X → Type 0) (read : Option X) (y : X) → IfSome read In → (read >>= spelled text word) ≡ Some y → In y
read_in text word In (Some x) y fits e = subst In (spelled_is text word x y e) fits
read_in text word In None y fits e = absurd cc

int_fits : (word : List ℕ) (n : ℤ) → int_at word ≡ Some n → FitsSigned w32 n
unfolding int_at
int_fits word n e = read_in int_text word (FitsSigned w32) (int_of word) n (int_in_range word) e

fx_fits : (word : List ℕ) (x : ℤ) → fx_at word ≡ Some x → IsInRange x
unfolding fx_at
fx_fits word x e = read_in fx_text word IsInRange (fx_of word) x (fx_in_range word) e

pub int_word_fits : (s : Spelling) (word : List ℕ) (n : ℤ) → int_word s word ≡ Some n → FitsSigned w32 n
int_word_fits Canonical word n e = int_fits word n e
int_word_fits Free word n e = subst (λ (o : Option ℤ). IfSome o (FitsSigned w32)) e (int_in_range word)

pub fx_word_fits : (s : Spelling) (word : List ℕ) (x : ℤ) → fx_word s word ≡ Some x → IsInRange x
fx_word_fits Canonical word x e = fx_fits word x e
fx_word_fits Free word x e = subst (λ (o : Option ℤ). IfSome o IsInRange) e (fx_in_range word)

pub number_fits : (s : Spelling) (base : Base) (word : List ℕ) (n : ℤ) → number_at s base word ≡ Some n → IsNumberOf base n
number_fits s Int word n e = int_word_fits s word n e
number_fits s Float word n e = fx_word_fits s word n e
number_fits s Color word n e = fx_word_fits s word n e
number_fits s Point word n e = fx_word_fits s word n e
number_fits s Vector word n e = fx_word_fits s word n e
number_fits s Normal word n e = fx_word_fits s word n e
number_fits s Matrix word n e = fx_word_fits s word n e
number_fits s Str word n e = fx_word_fits s word n e
number_fits s Closure word n e = fx_word_fits s word n e

-- ---- values

pub counted : {X : Type 0} (make : List X → Values) (b : Bool) (read : Option (List X)) (v : Values) → cond b (option_map make read) None ≡ Some v
    → (b ≡ true) × ((xs : List X) × (read ≡ Some xs) × (make xs ≡ v))
counted make true (Some xs) v e = (refl, (xs, refl, some_is (make xs) v e))
counted make true None v e = absurd cc
counted make false read v e = absurd cc

pub record AreNumbers (ty : Ty) (v : Values) : Type 0 where
  pub count : length v.nums ≡ number_count ty
  pub none : v.texts ≡ []
  pub fit : AllByRecursion (IsNumberOf ty.base) v.nums

pub numbers_are : (s : Spelling) (ty : Ty) (words : Line) (v : Values) → numbers_at s ty words ≡ Some v → AreNumbers ty v
unfolding numbers_at
numbers_are s ty words v e =
    let make : List ℤ → Values = λ nums. record { nums = nums; texts = [] } in
    let found = counted make (eqb (length words) (number_count ty)) (each (number_at s ty.base) words) v e in
    let nums = found.1.0 in
    let made : AreNumbers ty (make nums) =
    record {
      count = each_length (number_at s ty.base) words nums found.1.1 ∙ eqb-true _ _ found.0;
      none = refl;
      fit = each_all (IsNumberOf ty.base) (number_at s ty.base) (number_fits s ty.base) words nums found.1.1;
    } in
    subst (λ (u : Values). AreNumbers ty u) found.1.2 made

pub record AreStrings (ty : Ty) (v : Values) : Type 0 where
  pub count : length v.texts ≡ text_count ty
  pub none : v.nums ≡ []

pub strings_are : (read : List ℕ → Option (List ℕ)) (ty : Ty) (words : Line) (v : Values) → strings_at read ty words ≡ Some v → AreStrings ty v
unfolding strings_at
strings_are read ty words v e =
    let make : List (List ℕ) → Values = λ texts. record { nums = []; texts = texts } in
    let found = counted make (eqb (length words) (text_count ty)) (each read words) v e in
    let made : AreStrings ty (make found.1.0) = record { count = each_length read words found.1.0 found.1.1 ∙ eqb-true _ _ found.0; none = refl } in
    subst (λ (u : Values). AreStrings ty u) found.1.2 made

of_numbers : (ty : Ty) (v : Values) → ty.len ≤ longest_array → (ty.base ≡ Closure → ⊥) → text_count ty ≡ 0 → AreNumbers ty v → IsPlain ty v.nums v.texts
of_numbers ty v h not_closure none are =
    record {
      no_closure = not_closure;
      short = h;
      nums_fit = are.count;
      texts_fit = ap length are.none ∙ sym none;
      in_range = All-from_recursion (IsNumberOf ty.base) v.nums are.fit;
    }

of_strings : (ty : Ty) (v : Values) → ty.len ≤ longest_array → (ty.base ≡ Closure → ⊥) → number_count ty ≡ 0 → AreStrings ty v → IsPlain ty v.nums v.texts
of_strings ty v h not_closure none are =
    record {
      no_closure = not_closure;
      short = h;
      nums_fit = ap length are.none ∙ sym none;
      texts_fit = are.count;
      in_range = All-from_recursion (IsNumberOf ty.base) v.nums (subst (λ (ns : List ℤ). AllByRecursion (IsNumberOf ty.base) ns) (sym are.none) tt);
    }

abbrev typed : Base → ℕ → Ty
typed base len = record { base = base; len = len }

values_make_up : (s : Spelling) (base : Base) (len : ℕ) (words : Line) (v : Values) → let ty : Ty = record { base = base; len = len } in
    len ≤ longest_array → (base ≡ Closure → ⊥) → values_at s text_at ty words ≡ Some v → IsPlain ty v.nums v.texts
unfolding values_at
values_make_up s Int len words v h c e = of_numbers (typed Int len) v h c (omega arith) (numbers_are s (typed Int len) words v e)
values_make_up s Float len words v h c e = of_numbers (typed Float len) v h c (omega arith) (numbers_are s (typed Float len) words v e)
values_make_up s Color len words v h c e = of_numbers (typed Color len) v h c (omega arith) (numbers_are s (typed Color len) words v e)
values_make_up s Point len words v h c e = of_numbers (typed Point len) v h c (omega arith) (numbers_are s (typed Point len) words v e)
values_make_up s Vector len words v h c e = of_numbers (typed Vector len) v h c (omega arith) (numbers_are s (typed Vector len) words v e)
values_make_up s Normal len words v h c e = of_numbers (typed Normal len) v h c (omega arith) (numbers_are s (typed Normal len) words v e)
values_make_up s Matrix len words v h c e = of_numbers (typed Matrix len) v h c (omega arith) (numbers_are s (typed Matrix len) words v e)
values_make_up s Str len words v h c e = of_strings (typed Str len) v h c (omega arith) (strings_are text_at (typed Str len) words v e)
values_make_up s Closure len words v h c e = absurd (c refl)

-- what a test of types says
pub record IsPlainType (ty : Ty) : Type 0 where
  pub no_closure : ty.base ≡ Closure → ⊥
  pub short : ty.len ≤ longest_array

pub plain_type : (ty : Ty) → is_plain_type ty ≡ true → IsPlainType ty
plain_type ty h =
    let parts = and_parts (nat_le ty.len longest_array) (not (same_base ty.base Closure)) h in
    let other : same_base ty.base Closure ≡ false = not-true (same_base ty.base Closure) parts.1 in
    record { no_closure = λ e. absurd (no_bool (ap (λ (b : Base). same_base b Closure) (sym e) ∙ other)); short = leb-true ty.len longest_array parts.0 }
  where
    no_bool : true ≡ false → ⊥
    no_bool e = absurd cc

pub plain_type_from : (ty : Ty) → (ty.base ≡ Closure → ⊥) → ty.len ≤ longest_array → is_plain_type ty ≡ true
plain_type_from ty other short = and_from _ _ (le-leb ty.len longest_array short) (go ty.base other)
  where
    go : (base : Base) → (base ≡ Closure → ⊥) → not (same_base base Closure) ≡ true
    go Int c = refl
    go Float c = refl
    go Color c = refl
    go Point c = refl
    go Vector c = refl
    go Normal c = refl
    go Matrix c = refl
    go Str c = refl
    go Closure c = absurd (c refl)

pub values_are_plain : (s : Spelling) (ty : Ty) (words : Line) (v : Values) → is_plain_type ty ≡ true → values_at s text_at ty words ≡ Some v → IsPlain ty v.nums v.texts
values_are_plain s ty words v h e = let has = plain_type ty h in values_make_up s ty.base ty.len words v has.short has.no_closure e
