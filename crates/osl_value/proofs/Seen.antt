-- What is seen of values is in range, and what is in range makes up values.
use Rattle.std.proofs.Common.{◌≡◌, ◌≢◌, ℕ, zero, suc, ◌<◌, Bool, true, false, eqb, ℤ, pos, List, [], ◌∷◌, length, map, refl, sym, ap, subst, ◌∙◌, arith, lit≤, ⊎_elim}
use Rattle.std.specs.Prelude.{FitsSigned}
use Rattle.std.specs.Int.{w32}
use Rattle.std.specs.List.{All, list_all}
use Rattle.std.specs.Cmp.Lexicographic.{pointwise}
use Rattle.std.proofs.lemmas.Bool.{false≢true, and_parts, eqb-true, cases_lt, or_cases, cond-true, cond-false}
use Rattle.std.proofs.lemmas.List.{get_or_past, length-map}
use Rattle.std.proofs.lemmas.List.Elements.{All-nil, All-cons, All-get_or, All-map, All-weaker}
use Rattle.osl_value.specs.declared.types.Base.{Base}
use Rattle.osl_value.specs.declared.types.Base.TheVariants.{Int, Float, Color, Point, Vector, Normal, Matrix, Str, Closure}
use Rattle.osl_value.specs.declared.types.Ty.{Ty}
use Rattle.osl_value.specs.AnyValue.{AnyValue, argument, Of, Parts, type_of, numbers_of, floats_of, is_number, is_one_triple}
use Rattle.osl_value.specs.Forms.{Form, AnInt, AFloat, ANumber, Floats, ATriple, APoint, ANormal, AMatrix, AString, AClosure, AFactor, fits, Seen, seen_of, value_seen, Function, function_at}
use Rattle.osl_value.specs.Geometry.{number_at}
use Rattle.osl_value.specs.Numbers.{IsInRange, fx_from_int}
use Rattle.osl_value.specs.Plain.{IsPlain, IsNumberOf}
use Rattle.osl_value.specs.Types.{only, is_only, is_triple, numbers_in, texts_in}
use Rattle.osl_value.specs.WellFormed.{AreFloats, AreParts, IsValue}
use Rattle.osl_value.proofs.InRange.{zero_is, fx_from_int_is}
use Rattle.osl_value.proofs.SameTypes.{same_type-true}

-- ---- floats in a list

pub number_at_is : (xs : List ℤ) (i : ℕ) → All IsInRange xs → IsInRange (number_at xs i)
number_at_is xs i h =
    ⊎_elim
    (λ below. All-get_or IsInRange xs i (pos 0) below h)
    (λ past. subst IsInRange (sym (get_or_past xs i (pos 0) past)) zero_is)
    (cases_lt i (length xs))

-- ---- values of a base type alone

pub plain_alone : (base : Base) (nums : List ℤ) (texts : List (List ℕ)) → base ≢ Closure → length nums ≡ numbers_in base → length texts ≡ texts_in base
    → All (IsNumberOf base) nums → IsPlain (only base) nums texts
plain_alone base nums texts other count texts_count all =
    record { no_closure = other; short = lit≤ tt; nums_fit = omega arith; texts_fit = omega arith; in_range = all }

-- what holds for a base type alone holds for a type that is it
pub as_only : (ty : Ty) (base : Base) (nums : List ℤ) (texts : List (List ℕ)) → is_only base ty ≡ true → IsPlain (only base) nums texts → IsPlain ty nums texts
as_only ty base nums texts h p = subst (λ t. IsPlain t nums texts) (sym (same_type-true ty (only base) h)) p

pub from_only : (ty : Ty) (base : Base) (nums : List ℤ) (texts : List (List ℕ)) → is_only base ty ≡ true → IsPlain ty nums texts → IsPlain (only base) nums texts
from_only ty base nums texts h p = subst (λ t. IsPlain t nums texts) (same_type-true ty (only base) h) p

-- a triple kind alone has three floats
triple_written : (base : Base) (xs : List ℤ) → is_triple base ≡ true → AreFloats 3 xs → IsPlain (only base) xs []
triple_written Int xs h f = absurd (false≢true h)
triple_written Float xs h f = absurd (false≢true h)
triple_written Color xs h f = plain_alone Color xs [] (λ e. (cc)) f.count_fits refl f.in_range
triple_written Point xs h f = plain_alone Point xs [] (λ e. (cc)) f.count_fits refl f.in_range
triple_written Vector xs h f = plain_alone Vector xs [] (λ e. (cc)) f.count_fits refl f.in_range
triple_written Normal xs h f = plain_alone Normal xs [] (λ e. (cc)) f.count_fits refl f.in_range
triple_written Matrix xs h f = absurd (false≢true h)
triple_written Str xs h f = absurd (false≢true h)
triple_written Closure xs h f = absurd (false≢true h)

triple_read : (base : Base) (xs : List ℤ) (texts : List (List ℕ)) → is_triple base ≡ true → IsPlain (only base) xs texts → AreFloats 3 xs
triple_read Int xs texts h p = absurd (false≢true h)
triple_read Float xs texts h p = absurd (false≢true h)
triple_read Color xs texts h p = record { count_fits = p.nums_fit; in_range = p.in_range }
triple_read Point xs texts h p = record { count_fits = p.nums_fit; in_range = p.in_range }
triple_read Vector xs texts h p = record { count_fits = p.nums_fit; in_range = p.in_range }
triple_read Normal xs texts h p = record { count_fits = p.nums_fit; in_range = p.in_range }
triple_read Matrix xs texts h p = absurd (false≢true h)
triple_read Str xs texts h p = absurd (false≢true h)
triple_read Closure xs texts h p = absurd (false≢true h)

-- a type that is no array is its base type alone
pub alone : (ty : Ty) → eqb ty.len 0 ≡ true → ty ≡ only ty.base
alone ty h = let e = eqb-true ty.len 0 h in λ i. record { base = ty.base; len = e i }

pub one_triple_written : (ty : Ty) (xs : List ℤ) → is_one_triple ty ≡ true → AreFloats 3 xs → IsPlain ty xs []
one_triple_written ty xs h f =
    let parts = and_parts (is_triple ty.base) (eqb ty.len 0) h in
    subst (λ t. IsPlain t xs []) (sym (alone ty parts.1)) (triple_written ty.base xs parts.0 f)

pub one_triple_read : (ty : Ty) (xs : List ℤ) (texts : List (List ℕ)) → is_one_triple ty ≡ true → IsPlain ty xs texts → AreFloats 3 xs
one_triple_read ty xs texts h p =
    let parts = and_parts (is_triple ty.base) (eqb ty.len 0) h in
    triple_read ty.base xs texts parts.0 (subst (λ t. IsPlain t xs texts) (alone ty parts.1) p)

pub float_written : (ty : Ty) (x : ℤ) → is_only Float ty ≡ true → IsInRange x → IsPlain ty (x ∷ []) []
float_written ty x h r = as_only ty Float (x ∷ []) [] h (plain_alone Float (x ∷ []) [] (λ e. (cc)) refl refl (All-cons IsInRange x [] r (All-nil IsInRange)))

pub int_written : (ty : Ty) (n : ℤ) → is_only Int ty ≡ true → FitsSigned w32 n → IsPlain ty (n ∷ []) []
int_written ty n h r = as_only ty Int (n ∷ []) [] h (plain_alone Int (n ∷ []) [] (λ e. (cc)) refl refl (All-cons (FitsSigned w32) n [] r (All-nil (FitsSigned w32))))

-- ---- what each form promises

abbrev pub IsSeen : (form : Form) → Seen form → Type 0
IsSeen AnInt n = FitsSigned w32 n
IsSeen AFloat x = IsInRange x
IsSeen ANumber x = IsInRange x
IsSeen Floats xs = All IsInRange xs
IsSeen ATriple xs = AreFloats 3 xs
IsSeen APoint xs = AreFloats 3 xs
IsSeen ANormal xs = AreFloats 3 xs
IsSeen AMatrix xs = AreFloats 16 xs
IsSeen AString text = Unit {0}
IsSeen AClosure parts = AreParts parts
IsSeen AFactor xs = All IsInRange xs

-- the forms that an operation writes
abbrev pub IsWritten : Form → Type 0
IsWritten AnInt = Unit {0}
IsWritten AFloat = Unit {0}
IsWritten ANumber = ⊥
IsWritten Floats = ⊥
IsWritten ATriple = Unit {0}
IsWritten APoint = Unit {0}
IsWritten ANormal = Unit {0}
IsWritten AMatrix = Unit {0}
IsWritten AString = Unit {0}
IsWritten AClosure = Unit {0}
IsWritten AFactor = ⊥

pub written_is : (form : Form) (ty : Ty) (x : Seen form) → IsWritten form → fits form ty ≡ true → IsSeen form x → IsValue (value_seen form ty x)
written_is AnInt ty n w h s = int_written ty n h s
written_is AFloat ty x w h s = float_written ty x h s
written_is ANumber ty x w h s = absurd w
written_is Floats ty xs w h s = absurd w
written_is ATriple ty xs w h s = one_triple_written ty xs h s
written_is APoint ty xs w h s = as_only ty Point xs [] h (triple_written Point xs refl s)
written_is ANormal ty xs w h s = as_only ty Normal xs [] h (triple_written Normal xs refl s)
written_is AMatrix ty xs w h s = as_only ty Matrix xs [] h (plain_alone Matrix xs [] (λ e. (cc)) s.count_fits refl s.in_range)
written_is AString ty text w h s = as_only ty Str [] (text ∷ []) h (plain_alone Str [] (text ∷ []) (λ e. (cc)) refl refl (All-nil IsInRange))
written_is AClosure ty parts w h s = s
written_is AFactor ty xs w h s = absurd w

-- ---- the numbers of a value

-- of a number or a triple, in range
ints_at : (nums : List ℤ) (texts : List (List ℕ)) → IsPlain (only Int) nums texts → FitsSigned w32 (number_at nums 0)
ints_at nums texts p = let some : length nums ≡ 1 = p.nums_fit in All-get_or (FitsSigned w32) nums 0 (pos 0) (omega arith) p.in_range

pub int_seen_is : (v : AnyValue) → IsValue v → is_only Int (type_of v) ≡ true → FitsSigned w32 (seen_of AnInt v)
int_seen_is (Of v) p h = ints_at v.nums v.texts (from_only v.ty Int v.nums v.texts h p)
int_seen_is (Parts parts) p h = absurd (false≢true h)

pub float_numbers : (v : AnyValue) → IsValue v → is_only Float (type_of v) ≡ true → AreFloats 1 (numbers_of v)
float_numbers (Of v) p h =
    let q = from_only v.ty Float v.nums v.texts h p in
    record { count_fits = q.nums_fit; in_range = q.in_range }
float_numbers (Parts parts) p h = absurd (false≢true h)

pub triple_numbers : (v : AnyValue) → IsValue v → is_one_triple (type_of v) ≡ true → AreFloats 3 (numbers_of v)
triple_numbers (Of v) p h = one_triple_read v.ty v.nums v.texts h p
triple_numbers (Parts parts) p h = absurd (false≢true h)

-- the floats that a number or a color is seen as
int_floats : (nums : List ℤ) → length nums ≡ 1 → All (FitsSigned w32) nums → AreFloats 1 (map fx_from_int nums)
int_floats nums count all = record {
  count_fits = length-map nums fx_from_int ∙ count;
  in_range = All-map IsInRange fx_from_int nums (All-weaker (FitsSigned w32) (λ n. IsInRange (fx_from_int n)) fx_from_int_is nums all);
}

int_value_floats : (v : AnyValue) → IsValue v → is_only Int (type_of v) ≡ true → AreFloats 1 (map fx_from_int (numbers_of v))
int_value_floats (Of v) p h = let q = from_only v.ty Int v.nums v.texts h p in int_floats v.nums q.nums_fit q.in_range
int_value_floats (Parts parts) p h = absurd (false≢true h)

-- where a type is no int
pub other_floats : (v : AnyValue) (count : ℕ) → is_only Int (type_of v) ≡ false → AreFloats count (numbers_of v) → AreFloats count (floats_of v)
other_floats v count h f = subst (AreFloats count) (sym (cond-false (is_only Int (type_of v)) (map fx_from_int (numbers_of v)) (numbers_of v) h)) f

no_int : (base : Base) (ty : Ty) → is_only base ty ≡ true → is_only Int (only base) ≡ false → is_only Int ty ≡ false
no_int base ty h e = subst (λ t. is_only Int t ≡ false) (sym (same_type-true ty (only base) h)) e

pub number_floats : (v : AnyValue) → IsValue v → is_number (type_of v) ≡ true → AreFloats 1 (floats_of v)
number_floats v p h =
    ⊎_elim
    (λ is_int. subst (AreFloats 1) (sym (cond-true (is_only Int (type_of v)) (map fx_from_int (numbers_of v)) (numbers_of v) is_int)) (int_value_floats v p is_int))
    (λ is_float. other_floats v 1 (no_int Float (type_of v) is_float refl) (float_numbers v p is_float))
    (or_cases (is_only Int (type_of v)) (is_only Float (type_of v)) h)

color_numbers : (v : AnyValue) → IsValue v → is_only Color (type_of v) ≡ true → AreFloats 3 (numbers_of v)
color_numbers (Of v) p h = triple_read Color v.nums v.texts refl (from_only v.ty Color v.nums v.texts h p)
color_numbers (Parts parts) p h = absurd (false≢true h)

-- ---- what is seen of a value

pub seen_is : (form : Form) (v : AnyValue) → IsValue v → fits form (type_of v) ≡ true → IsSeen form (seen_of form v)
seen_is AnInt v p h = int_seen_is v p h
seen_is AFloat v p h = number_at_is (numbers_of v) 0 (float_numbers v p h).in_range
seen_is ANumber v p h = number_at_is (floats_of v) 0 (number_floats v p h).in_range
seen_is Floats v p h =
    ⊎_elim (λ e. (float_numbers v p e).in_range) (λ e. (triple_numbers v p e).in_range)
    (or_cases (is_only Float (type_of v)) (is_one_triple (type_of v)) h)
seen_is ATriple v p h = triple_numbers v p h
seen_is APoint (Of v) p h = triple_read Point v.nums v.texts refl (from_only v.ty Point v.nums v.texts h p)
seen_is APoint (Parts parts) p h = absurd (false≢true h)
seen_is ANormal (Of v) p h = triple_read Normal v.nums v.texts refl (from_only v.ty Normal v.nums v.texts h p)
seen_is ANormal (Parts parts) p h = absurd (false≢true h)
seen_is AMatrix (Of v) p h =
    let q = from_only v.ty Matrix v.nums v.texts h p in
    record { count_fits = q.nums_fit; in_range = q.in_range }
seen_is AMatrix (Parts parts) p h = absurd (false≢true h)
seen_is AString v p h = tt
seen_is AClosure (Of v) p h = absurd (p.no_closure (ap (λ (t : Ty). t.base) (same_type-true v.ty (only Closure) h)))
seen_is AClosure (Parts parts) p h = p
seen_is AFactor v p h =
    ⊎_elim (λ e. (number_floats v p e).in_range)
    (λ e. (other_floats v 3 (no_int Color (type_of v) e refl) (color_numbers v p e)).in_range)
    (or_cases (is_number (type_of v)) (is_only Color (type_of v)) h)

-- ---- functions of what is seen

abbrev pub Keeps : (forms : List Form) (result : Form) → Function forms result → Type 0
Keeps [] result x = IsSeen result x
Keeps (form ∷ forms) result f = (x : Seen form) → IsSeen form x → Keeps forms result (f x)

abbrev pub AreValues : List AnyValue → Type 0
AreValues [] = Unit {0}
AreValues (v ∷ vs) = IsValue v × AreValues vs

pub function_is : (forms : List Form) (result : Form) (f : Function forms result) (args : List AnyValue) → Keeps forms result f → AreValues args
    → pointwise fits forms (map type_of args) ≡ true → IsSeen result (function_at forms result f args)
function_is [] result f [] k p h = k
function_is [] result f (arg ∷ args) k p h = absurd (false≢true h)
function_is (form ∷ forms) result f [] k p h = absurd (false≢true h)
function_is (form ∷ forms) result f (arg ∷ args) k p h =
    let parts = and_parts (fits form (type_of arg)) (pointwise fits forms (map type_of args)) h in
    function_is forms result (f (seen_of form arg)) args (k (seen_of form arg) (seen_is form arg p.0 parts.0)) p.1 parts.1

pub value_at_place : (args : List AnyValue) (k : ℕ) → AreValues args → k < length args → IsValue (argument args k)
value_at_place [] k p h = absurd (omega arith)
value_at_place (v ∷ vs) zero p h = p.0
value_at_place (v ∷ vs) (suc k) p h = value_at_place vs k p.1 (omega arith)

pub test_at_place : (test : Ty → Bool) (args : List AnyValue) (k : ℕ) → list_all test (map type_of args) ≡ true → k < length args → test (type_of (argument args k)) ≡ true
test_at_place test [] k h l = absurd (omega arith)
test_at_place test (v ∷ vs) zero h l = (and_parts (test (type_of v)) (list_all test (map type_of vs)) h).0
test_at_place test (v ∷ vs) (suc k) h l = test_at_place test vs k (and_parts (test (type_of v)) (list_all test (map type_of vs)) h).1 (omega arith)
