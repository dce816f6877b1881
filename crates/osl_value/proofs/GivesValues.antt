-- An operation on values gives a value.
use Rattle.std.proofs.Common.{◌≡◌, ℕ, zero, suc, ◌+◌, ◌*◌, ◌<◌, ◌≤◌, Bool, true, false, cond, eqb, ◌&&◌, ◌||◌, not, ℤ, pos, List, [], ◌∷◌, ◌++◌, length, map, get_or, take, drop, replicate, refl, sym, ap, subst, ◌∙◌, arith, ⊎_elim, length-append, length-take, length-drop}
use Rattle.std.specs.Prelude.{FitsSigned}
use Rattle.std.specs.Int.{w32}
use Rattle.std.specs.List.{All, list_all, list_any}
use Rattle.std.specs.Cmp.Lexicographic.{pointwise}
use Rattle.std.proofs.lemmas.Bool.{false≢true, and_parts, or_cases, or_left, eqb-true, eqb-false, not-true, cond-false, cond_both}
use Rattle.std.proofs.lemmas.List.{length-map}
use Rattle.std.proofs.lemmas.List.Elements.{All-nil, All-cons, All-append, All-take, All-drop, All-head, All-tail}
use Rattle.std.proofs.lemmas.Nat.{mul-le}
use Rattle.std.proofs.Math.Nat.{one-mul}
use Rattle.osl_value.specs.declared.types.Base.{Base}
use Rattle.osl_value.specs.declared.types.Base.TheVariants.{Int, Float, Color, Point, Vector, Normal, Matrix, Str, Closure}
use Rattle.osl_value.specs.declared.types.Ty.{Ty}
use Rattle.osl_value.specs.AnyValue.{AnyValue, Of, Parts, type_of, numbers_of, floats_of, with_numbers, argument, converted, is_assignable, is_number, is_one_triple, is_array, element_type, element_of, with_element, items_at, with_items_at}
use Rattle.osl_value.specs.Apply.{apply, is_allowed, takes_count, takes_ints, takes_floats, takes_other, other_value, first_value, ints_value, floats_value, row_takes, row_value, is_float_part}
use Rattle.osl_value.specs.Forms.{AnInt, AFloat, ANumber, Floats, fits, seen_of, function_at}
use Rattle.osl_value.specs.Geometry.{component, repeated, each, place}
use Rattle.osl_value.specs.Laws.{GivesValues}
use Rattle.osl_value.specs.Numbers.{IsInRange, Numeric, arity, value_at}
use Rattle.osl_value.specs.Plain.{IsPlain, IsNumberOf}
use Rattle.osl_value.specs.Table.{Rule, On, Made, Assigned, ElementRead, ElementWritten, LengthRead, Row, table}
use Rattle.osl_value.specs.Types.{only, is_only, is_triple, same_type, same_base, numbers_in, texts_in, number_count, element_count}
use Rattle.osl_value.specs.WellFormed.{AreFloats, IsValue}
use Rattle.osl_value.proofs.InRange.{zero_fits}
use Rattle.osl_value.proofs.Kept.{KeepsAll, value_at_is, ints_keep, floats_keep, others_keep, RuleKeeps, RulesKeep, each_is, repeated_are}
use Rattle.osl_value.proofs.Seen.{number_at_is, plain_alone, as_only, from_only, alone, one_triple_written, int_written, written_is, int_seen_is, float_numbers, triple_numbers, number_floats, other_floats, function_is, seen_is, AreValues, value_at_place, test_at_place}
use Rattle.osl_value.proofs.SameTypes.{same_type-true}

-- ---- values by place, and by recursion

are_values : (args : List AnyValue) → All IsValue args → AreValues args
are_values [] h = tt
are_values (v ∷ vs) h = (All-head IsValue v vs h, are_values vs (All-tail IsValue v vs h))

mapped_at : (args : List AnyValue) (k : ℕ) → get_or (map numbers_of args) k [] ≡ numbers_of (argument args k)
mapped_at [] k = refl
mapped_at (v ∷ vs) zero = refl
mapped_at (v ∷ vs) (suc k) = mapped_at vs k

as_many : (args : List AnyValue) → length (map type_of args) ≡ length args
as_many args = length-map args type_of

-- as many arguments as the function takes, and at least one
counted : (f : Numeric) (args : List AnyValue) → (not (eqb (arity f) 0) && eqb (arity f) (length (map type_of args))) ≡ true → (0 < arity f) × (arity f ≡ length args)
counted f args h =
    let parts = and_parts (not (eqb (arity f) 0)) (eqb (arity f) (length (map type_of args))) h in
    let some = eqb-false (arity f) 0 (not-true (eqb (arity f) 0) parts.0) in
    let many = eqb-true (arity f) (length (map type_of args)) parts.1 in
    (omega (arith, some), many ∙ as_many args)

-- where the first test fails, the second holds
later : (a b : Bool) → a ≡ false → (a || b) ≡ true → b ≡ true
later false b e h = h
later true b e h = absurd (false≢true (sym e))

both_fail : (a b : Bool) → a ≡ false → b ≡ false → (a || b) ≡ false
both_fail a b e h = cc

-- no triple is an int
no_int : (base : Base) (len : ℕ) → is_triple base ≡ true → is_only Int (record { base = base; len = len }) ≡ false
no_int Int len h = absurd (false≢true h)
no_int Float len h = refl
no_int Color len h = refl
no_int Point len h = refl
no_int Vector len h = refl
no_int Normal len h = refl
no_int Matrix len h = refl
no_int Str len h = refl
no_int Closure len h = refl

triple_no_int : (ty : Ty) → is_one_triple ty ≡ true → is_only Int ty ≡ false
triple_no_int ty h = no_int ty.base ty.len (and_parts (is_triple ty.base) (eqb ty.len 0) h).0

-- ---- ints alone

ints_are : (r : Row) (ty : Ty) (args : List AnyValue) → KeepsAll (FitsSigned w32) r.ints → AreValues args → takes_ints r ty (map type_of args) ≡ true
    → IsValue (ints_value r ty args)
ints_are r ty args keeps p h =
    let both = and_parts (takes_count r.ints (map type_of args) && fits AnInt ty) (list_all (fits AnInt) (map type_of args)) h in
    let first = and_parts (takes_count r.ints (map type_of args)) (fits AnInt ty) both.0 in
    let count = counted r.ints args first.0 in
    int_written ty (value_at r.ints (λ k. seen_of AnInt (argument args k))) first.1
    (value_at_is (FitsSigned w32) r.ints (λ k. seen_of AnInt (argument args k)) keeps count.0
    (λ k below.
    let within : k < length args = subst (λ n. k < n) count.1 below in
    int_seen_is (argument args k) (value_at_place args k p within) (test_at_place (fits AnInt) args k both.1 within)))

-- ---- floats component by component

float_part : (ty : Ty) (v : AnyValue) → IsValue v → is_float_part ty (type_of v) ≡ true → All IsInRange (numbers_of v)
float_part ty v p h =
    ⊎_elim
    (λ e. (float_numbers v p e).in_range)
    (λ e. (triple_numbers v p (and_parts (is_one_triple ty) (is_one_triple (type_of v)) e).1).in_range)
    (or_cases (fits AFloat (type_of v)) (is_one_triple ty && is_one_triple (type_of v)) h)

three_numbers : (base : Base) → is_triple base ≡ true → number_count (only base) ≡ 3
three_numbers Int h = absurd (false≢true h)
three_numbers Float h = absurd (false≢true h)
three_numbers Color h = refl
three_numbers Point h = refl
three_numbers Vector h = refl
three_numbers Normal h = refl
three_numbers Matrix h = absurd (false≢true h)
three_numbers Str h = absurd (false≢true h)
three_numbers Closure h = absurd (false≢true h)

-- so many floats make up a value of a float or a triple
floats_written : (ty : Ty) (xs : List ℤ) → fits Floats ty ≡ true → AreFloats (number_count ty) xs → IsPlain ty xs []
floats_written ty xs h f =
    ⊎_elim
    (λ e.
    let one : number_count ty ≡ 1 = ap number_count (same_type-true ty (only Float) e) in
    as_only ty Float xs [] e (plain_alone Float xs [] (λ e. (cc)) (f.count_fits ∙ one) refl f.in_range))
    (λ e.
    let parts = and_parts (is_triple ty.base) (eqb ty.len 0) e in
    let three : number_count ty ≡ 3 = ap number_count (alone ty parts.1) ∙ three_numbers ty.base parts.0 in
    one_triple_written ty xs e (record { count_fits = f.count_fits ∙ three; in_range = f.in_range }))
    (or_cases (is_only Float ty) (is_one_triple ty) h)

floats_are : (r : Row) (ty : Ty) (args : List AnyValue) → KeepsAll IsInRange r.floats → AreValues args → takes_floats r ty (map type_of args) ≡ true
    → IsValue (floats_value r ty args)
floats_are r ty args keeps p h =
    let both = and_parts (takes_count r.floats (map type_of args) && fits Floats ty) (list_all (is_float_part ty) (map type_of args)) h in
    let first = and_parts (takes_count r.floats (map type_of args)) (fits Floats ty) both.0 in
    let count = counted r.floats args first.0 in
    floats_written ty (each (number_count ty) r.floats (map numbers_of args)) first.1
    (each_is (number_count ty) r.floats (map numbers_of args) (λ k.
    value_at_is IsInRange r.floats (λ i. component (get_or (map numbers_of args) i []) k) keeps count.0 (λ i below.
    let within : i < length args = subst (λ n. i < n) count.1 below in
    let at = argument args i in
    number_at_is (get_or (map numbers_of args) i []) _
    (subst (All IsInRange) (sym (mapped_at args i))
    (float_part ty at (value_at_place args i p within) (test_at_place (is_float_part ty) args i both.1 within))))))

-- ---- numbers made into a triple or a matrix

numbers_are : (count : ℕ) (args : List AnyValue) → AreValues args → pointwise fits (replicate count ANumber) (map type_of args) ≡ true
    → AreFloats count (map (seen_of ANumber) args)
numbers_are zero [] p h = record { count_fits = refl; in_range = All-nil IsInRange }
numbers_are zero (v ∷ vs) p h = absurd (false≢true h)
numbers_are (suc count) [] p h = absurd (false≢true h)
numbers_are (suc count) (v ∷ vs) p h =
    let parts = and_parts (fits ANumber (type_of v)) (pointwise fits (replicate count ANumber) (map type_of vs)) h in
    let rest = numbers_are count vs p.1 parts.1 in
    record {
      count_fits = ap suc rest.count_fits;
      in_range = All-cons IsInRange (seen_of ANumber v) (map (seen_of ANumber) vs) (seen_is ANumber v p.0 parts.0) rest.in_range;
    }

-- ---- assignment

number_or_triple : (v : AnyValue) → IsValue v → (is_number (type_of v) || is_one_triple (type_of v)) ≡ true → All IsInRange (floats_of v)
number_or_triple v p h =
    ⊎_elim
    (λ e. (number_floats v p e).in_range)
    (λ e. (other_floats v 3 (triple_no_int (type_of v) e) (triple_numbers v p e)).in_range)
    (or_cases (is_number (type_of v)) (is_one_triple (type_of v)) h)

-- where the types differ, what may be assigned is a number or a triple
assigned_from : (ty : Ty) (from : Ty) → same_type ty from ≡ false → is_assignable ty from ≡ true → (is_number from || is_one_triple from) ≡ true
assigned_from ty from other h =
    ⊎_elim
    (λ e. ⊎_elim
    (λ same. absurd (false≢true (sym other ∙ same)))
    (λ f. or_left (is_number from) (is_one_triple from) (or_left (is_only Int from) (is_only Float from) (and_parts (is_only Float ty) (is_only Int from) f).1))
    (or_cases (same_type ty from) (is_only Float ty && is_only Int from) e))
    (λ e. (and_parts (is_one_triple ty) (is_number from || is_one_triple from) e).1)
    (or_cases (same_type ty from || (is_only Float ty && is_only Int from)) (is_one_triple ty && (is_number from || is_one_triple from)) h)

-- and where it is assigned to no triple, an int to a float
assigned_int : (ty : Ty) (from : Ty) → same_type ty from ≡ false → is_one_triple ty ≡ false → is_assignable ty from ≡ true → (is_only Float ty ≡ true) × (is_only Int from ≡ true)
assigned_int ty from other flat h =
    ⊎_elim
    (λ e. ⊎_elim
    (λ same. absurd (false≢true (sym other ∙ same)))
    (λ f. and_parts (is_only Float ty) (is_only Int from) f)
    (or_cases (same_type ty from) (is_only Float ty && is_only Int from) e))
    (λ e. absurd (false≢true (sym flat ∙ (and_parts (is_one_triple ty) (is_number from || is_one_triple from) e).0)))
    (or_cases (same_type ty from || (is_only Float ty && is_only Int from)) (is_one_triple ty && (is_number from || is_one_triple from)) h)

converted_is : (ty : Ty) (v : AnyValue) → IsValue v → is_assignable ty (type_of v) ≡ true → IsValue (converted ty v)
converted_is ty v p h =
    let triple = with_numbers ty (repeated 3 (floats_of v)) in
    let float = with_numbers ty (floats_of v) in
    cond_both (same_type ty (type_of v)) v (cond (is_one_triple ty) triple float) IsValue
    (λ same. p)
    (λ other. cond_both (is_one_triple ty) triple float IsValue
    (λ e. one_triple_written ty (repeated 3 (floats_of v)) e (repeated_are 3 (floats_of v) (number_or_triple v p (assigned_from ty (type_of v) other h))))
    (λ flat.
    let parts = assigned_int ty (type_of v) other flat h in
    let floats = number_floats v p (or_left (is_only Int (type_of v)) (is_only Float (type_of v)) parts.1) in
    as_only ty Float (floats_of v) [] parts.0 (plain_alone Float (floats_of v) [] (λ e. (cc)) floats.count_fits refl floats.in_range)))

-- ---- arrays

place_within : (i : ℤ) (len : ℕ) → (len ≡ 0 → ⊥) → place i len < len
place_within i len h = omega arith

-- an array has as many elements as its length says
array_len : (ty : Ty) → is_array ty ≡ true → (ty.len ≡ 0 → ⊥) × (element_count ty ≡ ty.len)
array_len ty h =
    let parts = and_parts (not (eqb ty.len 0)) (not (same_base ty.base Closure)) h in
    let some = not-true (eqb ty.len 0) parts.0 in
    (eqb-false ty.len 0 some, cond-false (eqb ty.len 0) 1 ty.len some)

-- the items of element k are all there
items_count : {X : Type 0} (w k len : ℕ) (xs : List X) → k < len → length xs ≡ len * w → length (items_at w (k * w) xs) ≡ w
items_count w k len xs below count =
    let fits : (k + 1) * w ≤ len * w = mul-le (k + 1) w len w (omega arith) (omega arith) in
    omega (arith, length-take w (drop (k * w) xs), length-drop (k * w) xs)

with_items_count : {X : Type 0} (w k len : ℕ) (items xs : List X) → k < len → length items ≡ w → length xs ≡ len * w → length (with_items_at w (k * w) items xs) ≡ len * w
with_items_count w k len items xs below some count =
    let fits : (k + 1) * w ≤ len * w = mul-le (k + 1) w len w (omega arith) (omega arith) in
    omega (arith, length-append (take (k * w) xs) (items ++ drop (k * w + w) xs), length-append items (drop (k * w + w) xs), length-take (k * w) xs, length-drop (k * w + w) xs)

element_read_is : (v : AnyValue) (i : ℤ) → IsValue v → is_array (type_of v) ≡ true → IsValue (element_of v (place i (type_of v).len))
element_read_is (Of v) i p h =
    let len = array_len v.ty h in
    let k = place i v.ty.len in
    let below = place_within i v.ty.len len.0 in
    let base = v.ty.base in
    let nums : length v.nums ≡ v.ty.len * numbers_in base = p.nums_fit ∙ ap (λ n. n * numbers_in base) len.1 in
    let texts : length v.texts ≡ v.ty.len * texts_in base = p.texts_fit ∙ ap (λ n. n * texts_in base) len.1 in
    plain_alone base (items_at (numbers_in base) (k * numbers_in base) v.nums) (items_at (texts_in base) (k * texts_in base) v.texts) p.no_closure
    (items_count (numbers_in base) k v.ty.len v.nums below nums)
    (items_count (texts_in base) k v.ty.len v.texts below texts)
    (All-take (IsNumberOf base) (numbers_in base) (drop (k * numbers_in base) v.nums) (All-drop (IsNumberOf base) (k * numbers_in base) v.nums p.in_range))
element_read_is (Parts parts) i p h = absurd (false≢true h)

element_write_is : (v x : AnyValue) (i : ℤ) → IsValue v → IsValue x → is_array (type_of v) ≡ true → same_type (type_of x) (element_type (type_of v)) ≡ true
    → IsValue (with_element v (place i (type_of v).len) x)
element_write_is (Of v) (Of x) i p q h e =
    let len = array_len v.ty h in
    let k = place i v.ty.len in
    let below = place_within i v.ty.len len.0 in
    let base = v.ty.base in
    let nums : length v.nums ≡ v.ty.len * numbers_in base = p.nums_fit ∙ ap (λ n. n * numbers_in base) len.1 in
    let texts : length v.texts ≡ v.ty.len * texts_in base = p.texts_fit ∙ ap (λ n. n * texts_in base) len.1 in
    let one = from_only x.ty base x.nums x.texts e q in
    let few : length x.nums ≡ numbers_in base = one.nums_fit ∙ one-mul (numbers_in base) in
    let words : length x.texts ≡ texts_in base = one.texts_fit ∙ one-mul (texts_in base) in
    record {
      no_closure = p.no_closure;
      short = p.short;
      nums_fit = with_items_count (numbers_in base) k v.ty.len x.nums v.nums below few nums ∙ sym (ap (λ n. n * numbers_in base) len.1);
      texts_fit = with_items_count (texts_in base) k v.ty.len x.texts v.texts below words texts ∙ sym (ap (λ n. n * texts_in base) len.1);
      in_range = All-append (IsNumberOf base) (take (k * numbers_in base) v.nums) (x.nums ++ drop (k * numbers_in base + numbers_in base) v.nums)
          (All-take (IsNumberOf base) (k * numbers_in base) v.nums p.in_range)
          (All-append (IsNumberOf base) x.nums (drop (k * numbers_in base + numbers_in base) v.nums) one.in_range
          (All-drop (IsNumberOf base) (k * numbers_in base + numbers_in base) v.nums p.in_range));
    }
element_write_is (Of v) (Parts parts) i p q h e =
    absurd (p.no_closure (sym (ap (λ (t : Ty). t.base) (same_type-true (only Closure) (element_type v.ty) e))))
element_write_is (Parts parts) x i p q h e = absurd (false≢true h)

length_read_is : (v : AnyValue) (ty : Ty) → IsValue v → fits AnInt ty ≡ true → IsValue (with_numbers ty (pos (type_of v).len ∷ []))
length_read_is (Of v) ty p h = let short = p.short in int_written ty (pos v.ty.len) h (record { sfits = omega arith })
length_read_is (Parts parts) ty p h = int_written ty (pos 0) h zero_fits

-- ---- the rules

other_is : (ty : Ty) (args : List AnyValue) (rule : Rule) → RuleKeeps rule → AreValues args → takes_other ty (map type_of args) rule ≡ true
    → IsValue (other_value ty args rule)
other_is ty args (On forms result f) keeps p h =
    let parts = and_parts (fits result ty) (pointwise fits forms (map type_of args)) h in
    written_is result ty (function_at forms result f args) keeps.0 parts.0 (function_is forms result f args keeps.1 p parts.1)
other_is ty args (Made count result) keeps p h =
    let parts = and_parts (fits result ty) (pointwise fits (replicate count ANumber) (map type_of args)) h in
    keeps ty (map (seen_of ANumber) args) parts.0 (numbers_are count args p parts.1)
other_is ty [] Assigned keeps p h = absurd (false≢true h)
other_is ty (v ∷ []) Assigned keeps p h = converted_is ty v p.0 h
other_is ty (v ∷ (w ∷ args)) Assigned keeps p h = absurd (false≢true h)
other_is ty [] ElementRead keeps p h = absurd (false≢true h)
other_is ty (v ∷ []) ElementRead keeps p h = absurd (false≢true h)
other_is ty (v ∷ (i ∷ [])) ElementRead keeps p h =
    let first = and_parts (is_array (type_of v) && fits AnInt (type_of i)) (same_type ty (element_type (type_of v))) h in
    element_read_is v (seen_of AnInt i) p.0 (and_parts (is_array (type_of v)) (fits AnInt (type_of i)) first.0).0
other_is ty (v ∷ (i ∷ (x ∷ args))) ElementRead keeps p h = absurd (false≢true h)
other_is ty [] ElementWritten keeps p h = absurd (false≢true h)
other_is ty (v ∷ []) ElementWritten keeps p h = absurd (false≢true h)
other_is ty (v ∷ (i ∷ [])) ElementWritten keeps p h = absurd (false≢true h)
other_is ty (v ∷ (i ∷ (x ∷ []))) ElementWritten keeps p h =
    let third = and_parts (is_array (type_of v) && fits AnInt (type_of i) && same_type (type_of x) (element_type (type_of v))) (same_type ty (type_of v)) h in
    let second = and_parts (is_array (type_of v) && fits AnInt (type_of i)) (same_type (type_of x) (element_type (type_of v))) third.0 in
    element_write_is v x (seen_of AnInt i) p.0 p.1.1.0 (and_parts (is_array (type_of v)) (fits AnInt (type_of i)) second.0).0 second.1
other_is ty (v ∷ (i ∷ (x ∷ (y ∷ args)))) ElementWritten keeps p h = absurd (false≢true h)
other_is ty [] LengthRead keeps p h = absurd (false≢true h)
other_is ty (v ∷ []) LengthRead keeps p h = length_read_is v ty p.0 (and_parts (is_array (type_of v)) (fits AnInt ty) h).1
other_is ty (v ∷ (w ∷ args)) LengthRead keeps p h = absurd (false≢true h)

first_is : (ty : Ty) (args : List AnyValue) (rules : List Rule) → RulesKeep rules → AreValues args → list_any (takes_other ty (map type_of args)) rules ≡ true
    → IsValue (first_value ty args rules)
first_is ty args [] keeps p h = absurd (false≢true h)
first_is ty args (rule ∷ rules) keeps p h =
    cond_both (takes_other ty (map type_of args) rule) (other_value ty args rule) (first_value ty args rules) IsValue
    (λ takes. other_is ty args rule keeps.0 p takes)
    (λ passes. first_is ty args rules keeps.1 p (later (takes_other ty (map type_of args) rule) _ passes h))

-- ---- the table

row_is : (r : Row) (ty : Ty) (args : List AnyValue) → KeepsAll (FitsSigned w32) r.ints → KeepsAll IsInRange r.floats → RulesKeep r.others → AreValues args
    → row_takes r ty (map type_of args) ≡ true → IsValue (row_value r ty args)
row_is r ty args ints floats others p h =
    let types = map type_of args in
    cond_both (takes_ints r ty types) (ints_value r ty args) (cond (takes_floats r ty types) (floats_value r ty args) (first_value ty args r.others)) IsValue
    (λ e. ints_are r ty args ints p e)
    (λ no_ints. cond_both (takes_floats r ty types) (floats_value r ty args) (first_value ty args r.others) IsValue
    (λ e. floats_are r ty args floats p e)
    (λ no_floats. first_is ty args r.others others p (later (takes_ints r ty types || takes_floats r ty types) _ (both_fail _ _ no_ints no_floats) h)))

pub gives_values : GivesValues
unfolding apply is_allowed
gives_values op ty args p h = row_is (table op) ty args (ints_keep op) (floats_keep op) (others_keep op) (are_values args p) h
