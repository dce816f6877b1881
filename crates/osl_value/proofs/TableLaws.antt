-- The proofs of the laws of the table.
use Rattle.std.proofs.Common.{◌≡◌, ℕ, zero, suc, ◌<◌, Bool, true, false, ◌&&◌, ◌||◌, not, cond, eqb, ℤ, List, [], ◌∷◌, length, map, refl, sym, ap, ◌∙◌, arith}
use Rattle.std.specs.List.{list_all, list_any}
use Rattle.std.proofs.lemmas.Bool.{false≢true, and_parts, and_from, cond-true, cond-false, eq-eqb, ne_eqb, not_from_false, and_left, and_right, or_left, cond_both}
use Rattle.osl_value.specs.declared.types.Base.{Base}
use Rattle.osl_value.specs.declared.types.Base.TheVariants.{Int, Float, Color, Point, Vector, Normal, Matrix, Str, Closure}
use Rattle.osl_value.specs.declared.types.Ty.{Ty}
use Rattle.osl_value.specs.AnyValue.{AnyValue, Of, Parts, type_of, with_numbers, argument, floats_of, zero_value, converted, is_one_triple, is_assignable, element_type}
use Rattle.osl_value.specs.Apply.{apply, is_allowed, takes_ints, takes_floats, takes_other, other_value, first_value, ints_value, floats_value, row_takes, row_value}
use Rattle.osl_value.specs.Forms.{Form, AnInt, AFloat, ANumber, Floats, ATriple, APoint, ANormal, AMatrix, AString, AClosure, AFactor, fits, seen_of, Seen, value_seen}
use Rattle.osl_value.specs.Geometry.{number_at, repeated}
use Rattle.osl_value.specs.Laws.{IntsGiveInts, FloatsGiveFloats, WritesItsType, HasValues, AppliedType, CopiesItsType, int_value}
use Rattle.osl_value.specs.Numbers.{Numeric, Never, One, Two, Three, arity, value_at}
use Rattle.osl_value.specs.Plain.{zero_of}
use Rattle.osl_value.specs.Table.{Rule, On, Made, Assigned, ElementRead, ElementWritten, LengthRead, Row, table}
use Rattle.osl_value.specs.Types.{only, same_base, same_type}
use Rattle.osl_value.proofs.SameTypes.{same_base-true, same_type-true, same_type-refl}

-- ---- ints

value_at_same : (f : Numeric) (a b : ℕ → ℤ) → ((k : ℕ) → a k ≡ b k) → value_at f a ≡ value_at f b
value_at_same Never a b h = refl
value_at_same (One f) a b h = λ i. f (h 0 i)
value_at_same (Two f) a b h = λ i. f (h 0 i) (h 1 i)
value_at_same (Three f) a b h = λ i. f (h 0 i) (h 1 i) (h 2 i)

all_ints : (ns : List ℤ) → list_all (fits AnInt) (map type_of (map int_value ns)) ≡ true
all_ints [] = refl
all_ints (n ∷ ns) = all_ints ns

as_many : (ns : List ℤ) → length (map type_of (map int_value ns)) ≡ length ns
as_many [] = refl
as_many (n ∷ ns) = ap suc (as_many ns)

int_seen : (ns : List ℤ) (k : ℕ) → seen_of AnInt (argument (map int_value ns) k) ≡ number_at ns k
int_seen [] k = refl
int_seen (n ∷ ns) zero = refl
int_seen (n ∷ ns) (suc k) = int_seen ns k

row_ints : (r : Row) (ns : List ℤ) → 0 < length ns → arity r.ints ≡ length ns
    → row_value r (only Int) (map int_value ns) ≡ int_value (value_at r.ints (number_at ns))
row_ints r ns some count =
    let types = map type_of (map int_value ns) in
    let counted : (not (eqb (arity r.ints) 0) && eqb (arity r.ints) (length types)) ≡ true =
    and_from _ _ (not_from_false _ (ne_eqb (arity r.ints) 0 (λ e. omega arith))) (eq-eqb _ _ (count ∙ sym (as_many ns))) in
    let takes : takes_ints r (only Int) types ≡ true =
    and_from _ _ (and_from _ _ counted refl) (all_ints ns) in
    cond-true _ _ _ takes ∙ ap int_value (value_at_same r.ints _ _ (int_seen ns))

pub ints_give_ints : IntsGiveInts
unfolding apply
ints_give_ints op ns some count = row_ints (table op) ns some count

-- ---- floats

-- what fits a float or a triple is no int
no_int : (base : Base) (len : ℕ) → fits Floats (record { base = base; len = len }) ≡ true → fits AnInt (record { base = base; len = len }) ≡ false
no_int Int len h = absurd (false≢true h)
no_int Float len h = refl
no_int Color len h = refl
no_int Point len h = refl
no_int Vector len h = refl
no_int Normal len h = refl
no_int Matrix len h = refl
no_int Str len h = refl
no_int Closure len h = refl

not_ints : (r : Row) (ty : Ty) (types : List Ty) → fits AnInt ty ≡ false → takes_ints r ty types ≡ false
not_ints r ty types h = and_left _ _ (and_right _ _ h)

-- where the first test fails, the second holds
later : (a b : Bool) → a ≡ false → (a || b) ≡ true → b ≡ true
later false b e h = h
later true b e h = absurd (false≢true (sym e))

both_fail : (a b : Bool) → a ≡ false → b ≡ false → (a || b) ≡ false
both_fail a b e h = cc

row_floats : (r : Row) (ty : Ty) (args : List AnyValue) → takes_floats r ty (map type_of args) ≡ true
    → row_value r ty args ≡ floats_value r ty args
row_floats r ty args takes =
    let types = map type_of args in
    let counted = and_parts _ _ (and_parts _ _ takes).0 in
    let other : takes_ints r ty types ≡ false = not_ints r ty types (no_int ty.base ty.len counted.1) in
    cond-false _ _ _ other ∙ cond-true _ _ _ takes

pub floats_give_floats : FloatsGiveFloats
unfolding apply
floats_give_floats op ty args takes = row_floats (table op) ty args takes

-- ---- the written type

writes_seen : (form : Form) (ty : Ty) (x : Seen form) → fits form ty ≡ true → type_of (value_seen form ty x) ≡ ty
writes_seen AnInt ty x h = refl
writes_seen AFloat ty x h = refl
writes_seen ANumber ty x h = refl
writes_seen Floats ty x h = refl
writes_seen ATriple ty x h = refl
writes_seen APoint ty x h = refl
writes_seen ANormal ty x h = refl
writes_seen AMatrix ty x h = refl
writes_seen AString ty x h = refl
writes_seen AClosure ty x h = sym (same_type-true ty (only Closure) h)
writes_seen AFactor ty x h = refl

writes_converted : (ty : Ty) (v : AnyValue) → type_of (converted ty v) ≡ ty
writes_converted ty v =
    cond_both (same_type ty (type_of v)) v
    (cond (is_one_triple ty) (with_numbers ty (repeated 3 (floats_of v))) (with_numbers ty (floats_of v)))
    (λ x. type_of x ≡ ty)
    (λ same. sym (same_type-true ty (type_of v) same))
    (λ other. cond_both (is_one_triple ty) (with_numbers ty (repeated 3 (floats_of v))) (with_numbers ty (floats_of v)) (λ x. type_of x ≡ ty) (λ e. refl) (λ e. refl))

pub writes_other : (ty : Ty) (args : List AnyValue) (rule : Rule) → takes_other ty (map type_of args) rule ≡ true
    → type_of (other_value ty args rule) ≡ ty
writes_other ty args (On forms result f) h = writes_seen result ty _ (and_parts _ _ h).0
writes_other ty args (Made count result) h = refl
writes_other ty args Assigned h = writes_converted ty (argument args 0)
writes_other ty [] ElementRead h = absurd (false≢true h)
writes_other ty (a ∷ []) ElementRead h = absurd (false≢true h)
writes_other ty (a ∷ (i ∷ [])) ElementRead h = sym (same_type-true ty (element_type (type_of a)) (and_parts _ _ h).1)
writes_other ty (a ∷ (i ∷ (x ∷ args))) ElementRead h = absurd (false≢true h)
writes_other ty [] ElementWritten h = absurd (false≢true h)
writes_other ty (a ∷ []) ElementWritten h = absurd (false≢true h)
writes_other ty (a ∷ (i ∷ [])) ElementWritten h = absurd (false≢true h)
writes_other ty (a ∷ (i ∷ (x ∷ []))) ElementWritten h = sym (same_type-true ty (type_of a) (and_parts _ _ h).1)
writes_other ty (a ∷ (i ∷ (x ∷ (y ∷ args)))) ElementWritten h = absurd (false≢true h)
writes_other ty args LengthRead h = refl

writes_first : (ty : Ty) (args : List AnyValue) (rules : List Rule) → list_any (takes_other ty (map type_of args)) rules ≡ true
    → type_of (first_value ty args rules) ≡ ty
writes_first ty args [] h = absurd (false≢true h)
writes_first ty args (rule ∷ rules) h =
    cond_both (takes_other ty (map type_of args) rule) (other_value ty args rule) (first_value ty args rules) (λ x. type_of x ≡ ty) (λ takes. writes_other ty args rule takes) (λ passes. writes_first ty args rules (later _ _ passes h))

row_writes : (r : Row) (ty : Ty) (args : List AnyValue) → row_takes r ty (map type_of args) ≡ true → type_of (row_value r ty args) ≡ ty
row_writes r ty args h =
    let types = map type_of args in
    let below = cond (takes_floats r ty types) (floats_value r ty args) (first_value ty args r.others) in
    cond_both (takes_ints r ty types) (ints_value r ty args) below (λ x. type_of x ≡ ty) (λ e. refl)
    (λ no_ints.
    cond_both (takes_floats r ty types) (floats_value r ty args) (first_value ty args r.others) (λ x. type_of x ≡ ty) (λ e. refl)
    (λ no_floats. writes_first ty args r.others (later _ _ (both_fail _ _ no_ints no_floats) h)))

pub writes_its_type : WritesItsType
unfolding apply is_allowed
writes_its_type op ty args h = row_writes (table op) ty args h

-- ---- the written type, whatever the arguments are

closure_alone : (ty : Ty) → HasValues ty → same_base ty.base Closure ≡ true → only Closure ≡ ty
closure_alone ty has is = let base = same_base-true ty.base Closure is in let len = has base in sym (λ i. record { base = base i; len = len i })

zero_type : (ty : Ty) → HasValues ty → type_of (zero_value ty) ≡ ty
zero_type ty has =
    cond_both (same_base ty.base Closure) (Parts []) (Of (zero_of ty)) (λ x. type_of x ≡ ty) (λ is. closure_alone ty has is) (λ other. refl)

first_type : (ty : Ty) (args : List AnyValue) (rules : List Rule) → HasValues ty → type_of (first_value ty args rules) ≡ ty
first_type ty args [] has = zero_type ty has
first_type ty args (rule ∷ rules) has =
    cond_both (takes_other ty (map type_of args) rule) (other_value ty args rule) (first_value ty args rules) (λ x. type_of x ≡ ty) (λ takes. writes_other ty args rule takes) (λ passes. first_type ty args rules has)

row_type : (r : Row) (ty : Ty) (args : List AnyValue) → HasValues ty → type_of (row_value r ty args) ≡ ty
row_type r ty args has =
    let types = map type_of args in
    let below = cond (takes_floats r ty types) (floats_value r ty args) (first_value ty args r.others) in
    cond_both (takes_ints r ty types) (ints_value r ty args) below (λ x. type_of x ≡ ty) (λ e. refl)
    (λ no_ints.
    cond_both (takes_floats r ty types) (floats_value r ty args) (first_value ty args r.others) (λ x. type_of x ≡ ty) (λ e. refl)
    (λ no_floats. first_type ty args r.others has))

pub applied_type : AppliedType
unfolding apply
applied_type op ty args has = row_type (table op) ty args has

-- ---- copies

pub copies_its_type : CopiesItsType
unfolding apply
copies_its_type v =
    let ty = type_of v in
    let same = same_type-refl ty in
    cond-true (is_assignable ty ty) (converted ty v) (zero_value ty) (or_left _ _ (or_left _ _ same))
    ∙ cond-true (same_type ty ty) v _ same
