-- Sums and products of closures, transforms, triples of numbers, and elements.
use Rattle.std.proofs.Common.{◌≡◌, Bool, true, false, ◌&&◌, ◌||◌, eqb, List, [], ◌∷◌, length, map, refl, sym, ap, subst, ◌∙◌, ⊎_elim}
use Rattle.std.specs.List.{list_any}
use Rattle.std.proofs.lemmas.Bool.{false≢true, and_parts, and_from, and_left, and_right, or_cases, or_left, or_right, cases_Bool, eq-eqb}
use Rattle.osl_value.specs.Numbers.{arity}
use Rattle.osl_value.specs.declared.op_name.OpName.{OpName}
use Rattle.osl_value.specs.declared.op_name.OpName.TheVariants.{Add, Mul, Transform, Triple, ARef, AAssign}
use Rattle.osl_value.specs.declared.types.Base.TheVariants.{Color, Point, Matrix, Closure}
use Rattle.osl_value.specs.declared.types.Ty.{Ty}
use Rattle.osl_value.specs.AnyValue.{AnyValue, type_of, numbers_of, with_numbers, is_array, is_number, is_one_triple, element_type, element_of, with_element}
use Rattle.osl_value.specs.Apply.{apply, takes_other}
use Rattle.osl_value.specs.Closures.{joined, weighted, weighted_by}
use Rattle.osl_value.specs.Forms.{AnInt, ANumber, ATriple, APoint, AMatrix, AClosure, AFactor, fits, seen_of}
use Rattle.osl_value.specs.Geometry.{mat_mul, place, transform}
use Rattle.osl_value.specs.Table.{Rule, On, Made, ElementRead, ElementWritten, table}
use Rattle.osl_value.specs.Types.{only, is_only, is_triple, same_base, same_type}
use Rattle.osl_value.proofs.SameTypes.{same_type-true}
use Rattle.osl_apply.specs.Operands.{takes}
use Rattle.osl_apply.proofs.Forms.{Two, two_applied}
use Rattle.osl_apply.proofs.Counts.{takes_count_of}
use Rattle.osl_apply.proofs.Numbers.{no_int_written}
use Rattle.osl_apply.proofs.Rules.{only_rule, others_of, in_others, first_rule, later_rule, last_rule}
use Rattle.osl_apply.proofs.Rules.{Others as OtherRules}

-- ---- closures

closure_rules : (op : OpName) (a b : AnyValue) → takes op (only Closure) (a ∷ b ∷ []) ≡ true → OtherRules op (only Closure) (a ∷ b ∷ []) (table op).others
closure_rules op a b h =
    in_others op (only Closure) (a ∷ b ∷ [])
    (record { no_ints = no_int_written (table op) (only Closure) (type_of a ∷ type_of b ∷ []) refl; no_floats = and_left _ _ (and_right _ _ refl) }) h

at_closure : (name op : OpName) (ty : Ty) (a b : AnyValue) → name ≡ op → ty ≡ only Closure → takes name ty (a ∷ b ∷ []) ≡ true → takes op (only Closure) (a ∷ b ∷ []) ≡ true
at_closure name op ty a b is e h = subst (λ t. takes op t (a ∷ b ∷ []) ≡ true) e (subst (λ n. takes n ty (a ∷ b ∷ []) ≡ true) is h)

pub add_at : (name : OpName) (ty : Ty) (a b : AnyValue) → name ≡ Add → ty ≡ only Closure → takes name ty (a ∷ b ∷ []) ≡ true → Two name AClosure AClosure AClosure joined ty a b
add_at name ty a b is e h =
    subst (λ n. Two n AClosure AClosure AClosure joined ty a b) (sym is)
    (subst (λ t. Two Add AClosure AClosure AClosure joined t a b) (sym e)
    (two_applied Add AClosure AClosure AClosure joined (only Closure) a b
    (last_rule Add (only Closure) (a ∷ b ∷ []) (On (AClosure ∷ AClosure ∷ []) AClosure joined) (closure_rules Add a b (at_closure name Add ty a b is e h)))))

-- a factor is a number or a triple, and no closure
pub factor_is : (t : Ty) → fits AFactor t ≡ true → (is_number t || is_one_triple t) ≡ true
factor_is t h =
    ⊎_elim (λ e. or_left (is_number t) (is_one_triple t) e) (λ e. or_right (is_number t) (is_one_triple t) (ap is_one_triple (same_type-true t (only Color) e)))
    (or_cases (is_number t) (is_only Color t) h)

no_factor : (t : Ty) → t ≡ only Closure → fits AFactor t ≡ false
no_factor t e = ap (fits AFactor) e

abbrev right_rule : Rule
right_rule = On (AFactor ∷ AClosure ∷ []) AClosure weighted

abbrev left_rule : Rule
left_rule = On (AClosure ∷ AFactor ∷ []) AClosure weighted_by

mul_rules : (a b : AnyValue) → takes Mul (only Closure) (a ∷ b ∷ []) ≡ true → OtherRules Mul (only Closure) (a ∷ b ∷ []) (right_rule ∷ left_rule ∷ [])
mul_rules a b h = later_rule Mul (only Closure) (a ∷ b ∷ []) (On (AMatrix ∷ AMatrix ∷ []) AMatrix mat_mul) (right_rule ∷ left_rule ∷ []) refl (closure_rules Mul a b h)

mul_right_here : (a b : AnyValue) → type_of b ≡ only Closure → takes Mul (only Closure) (a ∷ b ∷ []) ≡ true → Two Mul AFactor AClosure AClosure weighted (only Closure) a b
mul_right_here a b e h =
    let o = mul_rules a b h in
    ⊎_elim
    (λ yes_right. two_applied Mul AFactor AClosure AClosure weighted (only Closure) a b (first_rule Mul (only Closure) (a ∷ b ∷ []) right_rule (left_rule ∷ []) yes_right o))
    (λ no_right.
    let r = two_applied Mul AClosure AFactor AClosure weighted_by (only Closure) a b (last_rule Mul (only Closure) (a ∷ b ∷ []) left_rule (later_rule Mul (only Closure) (a ∷ b ∷ []) right_rule (left_rule ∷ []) no_right o)) in
    absurd (false≢true (sym (no_factor (type_of b) e) ∙ r.second)))
    (cases_Bool (takes_other (only Closure) (type_of a ∷ type_of b ∷ []) right_rule))

mul_left_here : (a b : AnyValue) → is_only Closure (type_of b) ≡ false → takes Mul (only Closure) (a ∷ b ∷ []) ≡ true → Two Mul AClosure AFactor AClosure weighted_by (only Closure) a b
mul_left_here a b e h =
    let o = mul_rules a b h in
    ⊎_elim
    (λ yes_right.
    let r = two_applied Mul AFactor AClosure AClosure weighted (only Closure) a b (first_rule Mul (only Closure) (a ∷ b ∷ []) right_rule (left_rule ∷ []) yes_right o) in
    absurd (false≢true (sym e ∙ r.second)))
    (λ no_right. two_applied Mul AClosure AFactor AClosure weighted_by (only Closure) a b (last_rule Mul (only Closure) (a ∷ b ∷ []) left_rule (later_rule Mul (only Closure) (a ∷ b ∷ []) right_rule (left_rule ∷ []) no_right o)))
    (cases_Bool (takes_other (only Closure) (type_of a ∷ type_of b ∷ []) right_rule))

pub mul_right : (name : OpName) (ty : Ty) (a b : AnyValue) → name ≡ Mul → ty ≡ only Closure → type_of b ≡ only Closure → takes name ty (a ∷ b ∷ []) ≡ true → Two name AFactor AClosure AClosure weighted ty a b
mul_right name ty a b is e c h =
    subst (λ n. Two n AFactor AClosure AClosure weighted ty a b) (sym is)
    (subst (λ t. Two Mul AFactor AClosure AClosure weighted t a b) (sym e) (mul_right_here a b c (at_closure name Mul ty a b is e h)))

pub mul_left : (name : OpName) (ty : Ty) (a b : AnyValue) → name ≡ Mul → ty ≡ only Closure → is_only Closure (type_of b) ≡ false → takes name ty (a ∷ b ∷ []) ≡ true → Two name AClosure AFactor AClosure weighted_by ty a b
mul_left name ty a b is e c h =
    subst (λ n. Two n AClosure AFactor AClosure weighted_by ty a b) (sym is)
    (subst (λ t. Two Mul AClosure AFactor AClosure weighted_by t a b) (sym e) (mul_left_here a b c (at_closure name Mul ty a b is e h)))

-- ---- transforms

pub record Transformed (name : OpName) (ty : Ty) (a b : AnyValue) : Type 0 where
  pub writes : is_one_triple ty ≡ true
  pub first : fits AMatrix (type_of a) ≡ true
  pub second : fits ATriple (type_of b) ≡ true
  pub value : apply name ty (a ∷ b ∷ []) ≡ with_numbers ty (transform (same_base ty.base Point) (numbers_of a) (numbers_of b))

abbrev point_rule : Rule
point_rule = On (AMatrix ∷ ATriple ∷ []) APoint (transform true)

abbrev triple_rule : Rule
triple_rule = On (AMatrix ∷ ATriple ∷ []) ATriple (transform false)

transformed : (ty : Ty) (a b : AnyValue) → takes Transform ty (a ∷ b ∷ []) ≡ true → Transformed Transform ty a b
transformed ty a b h =
    let o = others_of Transform (point_rule ∷ triple_rule ∷ []) ty (a ∷ b ∷ []) refl h in
    ⊎_elim
    (λ point.
    let r = two_applied Transform AMatrix ATriple APoint (transform true) ty a b (first_rule Transform ty (a ∷ b ∷ []) point_rule (triple_rule ∷ []) point o) in
    let is_point : same_base ty.base Point ≡ true = (and_parts (same_base ty.base Point) (eqb ty.len 0) r.writes).0 in
    record {
      writes = ap is_one_triple (same_type-true ty (only Point) r.writes);
      first = r.first;
      second = r.second;
      value = r.value ∙ ap (λ p. with_numbers ty (transform p (numbers_of a) (numbers_of b))) (sym is_point);
    })
    (λ other.
    let r = two_applied Transform AMatrix ATriple ATriple (transform false) ty a b (last_rule Transform ty (a ∷ b ∷ []) triple_rule (later_rule Transform ty (a ∷ b ∷ []) point_rule (triple_rule ∷ []) other o)) in
    let alone_in = (and_parts (is_triple ty.base) (eqb ty.len 0) r.writes).1 in
    let no_point : same_base ty.base Point ≡ false =
    ⊎_elim
    (λ p. absurd (false≢true (sym other ∙ and_from _ _ (and_from _ _ p alone_in) (and_from _ _ r.first (and_from _ _ r.second refl)))))
    (λ p. p)
    (cases_Bool (same_base ty.base Point)) in
    record {
      writes = r.writes;
      first = r.first;
      second = r.second;
      value = r.value ∙ ap (λ p. with_numbers ty (transform p (numbers_of a) (numbers_of b))) (sym no_point);
    })
    (cases_Bool (takes_other ty (type_of a ∷ type_of b ∷ []) point_rule))

pub transform_at : (name : OpName) (ty : Ty) (a b : AnyValue) → name ≡ Transform → takes name ty (a ∷ b ∷ []) ≡ true → Transformed name ty a b
transform_at name ty a b is h = subst (λ n. Transformed n ty a b) (sym is) (transformed ty a b (subst (λ n. takes n ty (a ∷ b ∷ []) ≡ true) is h))

-- ---- triples of numbers

pub record MadeTriple (name : OpName) (ty : Ty) (a b c : AnyValue) : Type 0 where
  pub writes : is_one_triple ty ≡ true
  pub first : is_number (type_of a) ≡ true
  pub second : is_number (type_of b) ≡ true
  pub third : is_number (type_of c) ≡ true
  pub value : apply name ty (a ∷ b ∷ c ∷ []) ≡ with_numbers ty (seen_of ANumber a ∷ seen_of ANumber b ∷ seen_of ANumber c ∷ [])

pub triple_at : (name : OpName) (ty : Ty) (a b c : AnyValue) → name ≡ Triple → takes name ty (a ∷ b ∷ c ∷ []) ≡ true → MadeTriple name ty a b c
triple_at name ty a b c is h =
    let p = only_rule name (Made 3 ATriple) ty (a ∷ b ∷ c ∷ []) (ap table is) h in
    let q = and_parts (is_one_triple ty) (is_number (type_of a) && (is_number (type_of b) && (is_number (type_of c) && true))) p.takes in
    let r = and_parts (is_number (type_of a)) (is_number (type_of b) && (is_number (type_of c) && true)) q.1 in
    let s = and_parts (is_number (type_of b)) (is_number (type_of c) && true) r.1 in
    record { writes = q.0; first = r.0; second = s.0; third = (and_parts (is_number (type_of c)) true s.1).0; value = p.value }

-- ---- elements

pub record Element (name : OpName) (ty : Ty) (a i : AnyValue) : Type 0 where
  pub array : is_array (type_of a) ≡ true
  pub index : fits AnInt (type_of i) ≡ true
  pub writes : ty ≡ element_type (type_of a)
  pub value : apply name ty (a ∷ i ∷ []) ≡ element_of a (place (seen_of AnInt i) (type_of a).len)

pub element_at : (name : OpName) (ty : Ty) (a i : AnyValue) → name ≡ ARef → takes name ty (a ∷ i ∷ []) ≡ true → Element name ty a i
element_at name ty a i is h =
    let p = only_rule name ElementRead ty (a ∷ i ∷ []) (ap table is) h in
    let q = and_parts (is_array (type_of a) && fits AnInt (type_of i)) (same_type ty (element_type (type_of a))) p.takes in
    let r = and_parts (is_array (type_of a)) (fits AnInt (type_of i)) q.0 in
    record { array = r.0; index = r.1; writes = same_type-true ty (element_type (type_of a)) q.1; value = p.value }

pub record NewElement (ty : Ty) (a i x : AnyValue) : Type 0 where
  pub array : is_array (type_of a) ≡ true
  pub index : fits AnInt (type_of i) ≡ true
  pub element : type_of x ≡ element_type (type_of a)
  pub writes : ty ≡ type_of a
  pub value : apply AAssign ty (a ∷ i ∷ x ∷ []) ≡ with_element a (place (seen_of AnInt i) (type_of a).len) x

pub new_element : (ty : Ty) (a i x : AnyValue) → takes AAssign ty (a ∷ i ∷ x ∷ []) ≡ true → NewElement ty a i x
new_element ty a i x h =
    let p = only_rule AAssign ElementWritten ty (a ∷ i ∷ x ∷ []) refl h in
    let q = and_parts ((is_array (type_of a) && fits AnInt (type_of i)) && same_type (type_of x) (element_type (type_of a))) (same_type ty (type_of a)) p.takes in
    let r = and_parts (is_array (type_of a) && fits AnInt (type_of i)) (same_type (type_of x) (element_type (type_of a))) q.0 in
    let s = and_parts (is_array (type_of a)) (fits AnInt (type_of i)) r.0 in
    record { array = s.0; index = s.1; element = same_type-true (type_of x) (element_type (type_of a)) r.1; writes = same_type-true ty (type_of a) q.1; value = p.value }

-- an array whose elements are no matrices
pub element_no_matrix : (ty t : Ty) → is_only Matrix ty ≡ false → ty ≡ element_type t → t.base ≡ Matrix → ⊥
element_no_matrix ty t h e b = false≢true (sym h ∙ ap (is_only Matrix) (e ∙ ap only b))

pub element_is_matrix : (t : Ty) → only Matrix ≡ element_type t → t.base ≡ Matrix
element_is_matrix t e = sym (ap (λ (u : Ty). u.base) e)

-- ---- of the operations on two floats, a sum and a product alone take closures

abbrev closes : OpName → Bool
closes op = eqb (arity (table op).floats) 2 && list_any (λ (rule : Rule). true) (table op).others

closes_left : (op : OpName) → closes op ≡ true → (op ≡ Add → ⊥) → op ≡ Mul
closes_left Add h n = absurd (n refl)
closes_left Mul h n = refl
closes_left _ h n = absurd (false≢true h)

some_rule : (f : Rule → Bool) (rules : List Rule) → list_any f rules ≡ true → list_any (λ (rule : Rule). true) rules ≡ true
some_rule f [] h = absurd (false≢true h)
some_rule f (rule ∷ rules) h = refl

pub is_product : (name : OpName) (ty : Ty) (a b : AnyValue) → arity (table name).floats ≡ 2 → ty ≡ only Closure → (name ≡ Add → ⊥) → takes name ty (a ∷ b ∷ []) ≡ true → name ≡ Mul
is_product name ty a b n e no_add h =
    let o = closure_rules name a b (at_closure name name ty a b refl e h) in
    closes_left name (and_from _ _ (eq-eqb _ _ n) (some_rule _ (table name).others o.some)) no_add

-- an element is written with three operands
pub three_for_element : (ty : Ty) (args : List AnyValue) → takes AAssign ty args ≡ true → length (map type_of args) ≡ 3
three_for_element ty args h = sym (takes_count_of ty (map type_of args) ElementWritten (only_rule AAssign ElementWritten ty args refl h).takes)
