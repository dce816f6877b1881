-- The shader's name and metadata that are read fit.
use Rattle.std.proofs.Common.{◌≡◌, ℕ, ◌&&◌, List, [], ◌∷◌, length, ℤ, pos, negsuc, Option, Some, None, refl, sym, ap, ◌∙◌, subst, arith, rules, tests}
use Rattle.std.specs.Prelude.{IsTrue, if◌then◌else◌, ◌==◌, FitsSigned, option_map, option_and_then}
use Rattle.std.specs.Int.{w32}
use Rattle.std.specs.List.{list_all, AllByRecursion, before_first}
use Rattle.std.proofs.lemmas.Bool.{and_from, eq-eqb}
use Rattle.std.proofs.lemmas.Int.{ints}
use Rattle.osl_value.specs.declared.types.Base.{Base}
use Rattle.osl_value.specs.declared.types.Base.TheVariants.{Int, Float, Color, Point, Vector, Normal, Matrix, Str, Closure}
use Rattle.osl_value.specs.declared.types.Ty.{Ty}
use Rattle.osl_value.specs.Numbers.{IsInRange}
use Rattle.osl_value.specs.Plain.{IsNumberOf}
use Rattle.osl_value.specs.Types.{number_count, text_count}
use Rattle.osl_value.specs.declared.shader_kind.ShaderKind.{ShaderKind}
use Rattle.oso_code.specs.declared.symbol.Meta.{Meta}
use Rattle.oso_code.specs.Holding.{is_type, fits_int, fits_float, fits_base, makes_up}
use Rattle.oso_code.specs.Names.{is_name}
use Rattle.oso_code.specs.Symbols.{datum_fits}
use Rattle.osl_valuetext.specs.declared.number.Spelling.TheVariants.{Canonical}
use Rattle.osl_valuetext.specs.Words.{Line}
use Rattle.osl_valuetext.specs.declared.place.Place.TheVariants.{Open}
use Rattle.oso_read.specs.Hints.{Saying}
use Rattle.osl_valuetext.specs.Literals.{each, string_at, Values, values_at}
use Rattle.oso_read.specs.Text.{only_word}
use Rattle.oso_read.specs.SymbolLine.{kind_named, Head, head_words, head_at}
use Rattle.osl_valuetext.specs.Splitting.{pieces, is_comma}
use Rattle.oso_read.specs.Data.{meta_type_at, datum_of, is_meta, in_braces, meta_at}
use Rattle.oso_read.proofs.MetaTypes.{meta_type_read}
use Rattle.oso_read.proofs.Passing.{some_of, follows, maps, tested}
use Rattle.osl_valuetext.proofs.Plains.{each_all, AreNumbers, numbers_are, AreStrings, strings_are}

-- ---- values

int_test : (n : ℤ) → FitsSigned w32 n → IsTrue (fits_int n)
int_test (pos n) h = search (rules, tests, ints)
int_test (negsuc n) h = search (rules, tests, ints)

float_test : (n : ℤ) → IsInRange n → IsTrue (fits_float n)
float_test n h = search (rules, tests)

number_test : (base : Base) (n : ℤ) → IsNumberOf base n → IsTrue (fits_base base n)
number_test Int n h = int_test n h
number_test Float n h = float_test n h
number_test Color n h = float_test n h
number_test Point n h = float_test n h
number_test Vector n h = float_test n h
number_test Normal n h = float_test n h
number_test Matrix n h = float_test n h
number_test Str n h = float_test n h
number_test Closure n h = float_test n h

numbers_test : (base : Base) (nums : List ℤ) → AllByRecursion (IsNumberOf base) nums → IsTrue (list_all (fits_base base) nums)
numbers_test base [] h = refl
numbers_test base (n ∷ nums) h = and_from (fits_base base n) (list_all (fits_base base) nums) (number_test base n h.0) (numbers_test base nums h.1)

made_up : (ty : Ty) (v : Values) → length v.nums ≡ number_count ty → length v.texts ≡ text_count ty → IsTrue (list_all (fits_base ty.base) v.nums) → IsTrue (makes_up ty v.nums v.texts)
made_up ty v nums texts fit =
    and_from ((length v.nums == number_count ty) && (length v.texts == text_count ty)) (list_all (fits_base ty.base) v.nums)
    (and_from (length v.nums == number_count ty) (length v.texts == text_count ty) (eq-eqb (length v.nums) (number_count ty) nums) (eq-eqb (length v.texts) (text_count ty) texts)) fit

of_numbers : (ty : Ty) (v : Values) → text_count ty ≡ 0 → AreNumbers ty v → IsTrue (makes_up ty v.nums v.texts)
of_numbers ty v none are = made_up ty v are.count (ap length are.none ∙ sym none) (numbers_test ty.base v.nums are.fit)

of_strings : (ty : Ty) (v : Values) → number_count ty ≡ 0 → AreStrings ty v → IsTrue (makes_up ty v.nums v.texts)
of_strings ty v none are = made_up ty v (ap length are.none ∙ sym none) are.count (ap (list_all (fits_base ty.base)) are.none)

abbrev typed : Base → ℕ → Ty
typed base len = record { base = base; len = len }

pub values_fit : (read : List ℕ → Option (List ℕ)) (base : Base) (len : ℕ) (words : Line) (v : Values) → values_at Canonical read (record { base = base; len = len }) words ≡ Some v
    → IsTrue (makes_up (record { base = base; len = len }) v.nums v.texts)
unfolding values_at
values_fit read Int len words v e = of_numbers (typed Int len) v (omega arith) (numbers_are Canonical (typed Int len) words v e)
values_fit read Float len words v e = of_numbers (typed Float len) v (omega arith) (numbers_are Canonical (typed Float len) words v e)
values_fit read Color len words v e = of_numbers (typed Color len) v (omega arith) (numbers_are Canonical (typed Color len) words v e)
values_fit read Point len words v e = of_numbers (typed Point len) v (omega arith) (numbers_are Canonical (typed Point len) words v e)
values_fit read Vector len words v e = of_numbers (typed Vector len) v (omega arith) (numbers_are Canonical (typed Vector len) words v e)
values_fit read Normal len words v e = of_numbers (typed Normal len) v (omega arith) (numbers_are Canonical (typed Normal len) words v e)
values_fit read Matrix len words v e = of_numbers (typed Matrix len) v (omega arith) (numbers_are Canonical (typed Matrix len) words v e)
values_fit read Str len words v e = of_strings (typed Str len) v (omega arith) (strings_are read (typed Str len) words v e)
values_fit read Closure len words v e = of_numbers (typed Closure len) v (omega arith) (numbers_are Canonical (typed Closure len) words v e)

-- ---- metadata

abbrev datum : Ty → List ℕ → Values → Meta
datum ty name v = record { ty = ty; name = name; nums = v.nums; texts = v.texts }

words_fit : (words : Line) (m : Meta) → datum_of words ≡ Some m → IsTrue (datum_fits m)
unfolding datum_of
words_fit [] m h = absurd (cc h)
words_fit (ty ∷ []) m h = absurd (cc h)
words_fit (ty ∷ name ∷ values) m h =
    let typed = follows (meta_type_at ty) (λ t. if is_name name then option_map (λ v. datum t name v) (values_at Canonical string_at t values) else None) m h in
    let t = typed.value in
    let test = tested (is_name name) (option_map (λ v. datum t name v) (values_at Canonical string_at t values)) m typed.rest in
    let read = maps (λ v. datum t name v) (values_at Canonical string_at t values) m test.1 in
    subst (λ (d : Meta). IsTrue (datum_fits d)) read.image
    (and_from (is_name name && is_type t) (makes_up t read.value.nums read.value.texts)
    (and_from (is_name name) (is_type t) test.0 (meta_type_read ty t typed.is).1)
    (values_fit string_at t.base t.len values read.value read.is))

pub meta_fits : (word : List ℕ) (m : Meta) → meta_at word ≡ Some m → IsTrue (datum_fits m)
unfolding meta_at
meta_fits word m h =
    let test = tested (is_meta word) (datum_of (pieces is_comma Open (in_braces word))) m h in
    words_fit (pieces is_comma Open (in_braces word)) m test.1

all_of : (metas : List Meta) → AllByRecursion (λ m. IsTrue (datum_fits m)) metas → IsTrue (list_all datum_fits metas)
all_of [] h = refl
all_of (m ∷ metas) h = and_from (datum_fits m) (list_all datum_fits metas) h.0 (all_of metas h.1)

pub metas_fit : (words : Line) (metas : List Meta) → each meta_at words ≡ Some metas → IsTrue (list_all datum_fits metas)
metas_fit words metas h = all_of metas (each_all (λ m. IsTrue (datum_fits m)) meta_at meta_fits words metas h)

-- ---- the line of the kind and the name

pub record HeadFits (head : Head) : Type 0 where
  pub name : IsTrue (is_name head.name)
  pub metas : IsTrue (list_all datum_fits head.metas)

abbrev head_with : ShaderKind → List ℕ → List Meta → Head
head_with kind name metas = record { kind = kind; name = name; metas = metas }

head_words_fit : (words : Line) (metas : List Meta) (head : Head) → IsTrue (list_all datum_fits metas) → head_words words metas ≡ Some head → HeadFits head
unfolding head_words
head_words_fit [] metas head fit h = absurd (cc h)
head_words_fit (kind ∷ words) metas head fit h =
    let named = follows (kind_named kind) (λ k. option_and_then (λ name. if is_name name then Some (head_with k name metas) else None) (only_word words)) head h in
    let only = follows (only_word words) (λ name. if is_name name then Some (head_with named.value name metas) else None) head named.rest in
    let test = tested (is_name only.value) (Some (head_with named.value only.value metas)) head only.rest in
    subst HeadFits (some_of (head_with named.value only.value metas) head test.1) (record { name = test.0; metas = fit })

pub head_fits : (s : Saying) (head : Head) → head_at s ≡ Some head → HeadFits head
unfolding head_at
head_fits s head h =
    let read = follows (each meta_at s.metadata) (head_words s.words) head h in
    head_words_fit s.words read.value head (metas_fit s.metadata read.value read.is) read.rest
