-- Operations whose rules are not of forms alone, and those that have more than one rule.
use Rattle.std.proofs.Common.{◌≡◌, Bool, true, false, ◌&&◌, ◌||◌, not, eqb, ℤ, pos, [], ◌∷◌, refl, sym, ap, subst, ◌∙◌, ⊎_elim}
use Rattle.std.specs.Cmp.Lexicographic.{pointwise}
use Rattle.std.specs.Ordering.{int_eq}
use Rattle.std.specs.Str.{bytes_eq}
use Rattle.std.proofs.lemmas.Bool.{false≢true, and_parts, and_from, or_cases, or_left, or_right, cond-true, cond-false, cases_Bool}
use Rattle.osl_value.specs.declared.op_name.OpName.{OpName}
use Rattle.osl_value.specs.declared.op_name.OpName.TheVariants.{Assign, Not, ArrayLength, Eq, Neq, Lt, Gt, Le, Ge}
use Rattle.osl_value.specs.declared.types.Base.{Base}
use Rattle.osl_value.specs.declared.types.Base.TheVariants.{Int, Float, Color, Point, Vector, Normal, Matrix, Str, Closure}
use Rattle.osl_value.specs.declared.types.Ty.{Ty}
use Rattle.osl_value.specs.AnyValue.{AnyValue, type_of, numbers_of, is_array, is_assignable, is_one_triple, converted, with_numbers}
use Rattle.osl_value.specs.Apply.{apply, takes_floats, takes_other}
use Rattle.osl_value.specs.Forms.{Form, AnInt, AFloat, Floats, AMatrix, AString, fits, seen_of}
use Rattle.osl_value.specs.Geometry.{number_at, repeated}
use Rattle.osl_value.specs.Laws.{int_value}
use Rattle.osl_value.specs.Numbers.{int_not, truth, value_at, lt, gt, le, ge}
use Rattle.osl_value.specs.Numbers.{Two as Two'}
use Rattle.osl_value.specs.Table.{Rule, On, Assigned, LengthRead, table}
use Rattle.osl_value.specs.Types.{only, is_only, is_triple}
use Rattle.osl_value.proofs.SameTypes.{same_type-true}
use Rattle.osl_value.proofs.Seen.{alone}
use Rattle.osl_apply.specs.Operands.{takes, are_ints, are_same, are_comparable, is_ordering}
use Rattle.osl_apply.proofs.Forms.{One, Two, one_applied, two_applied, two_gives}
use Rattle.osl_apply.proofs.Numbers.{no_int_one, no_int_two}
use Rattle.osl_apply.proofs.Rules.{only_rule, in_others, first_rule, later_rule, last_rule}
use Rattle.osl_apply.proofs.Rules.{Others as OtherRules}

-- ---- copies

pub record Copied (name : OpName) (ty : Ty) (a : AnyValue) : Type 0 where
  pub fits_it : is_assignable ty (type_of a) ≡ true
  pub value : apply name ty (a ∷ []) ≡ converted ty a

pub assigned_at : (name : OpName) (ty : Ty) (a : AnyValue) → name ≡ Assign → takes name ty (a ∷ []) ≡ true → Copied name ty a
assigned_at name ty a is h = let p = only_rule name Assigned ty (a ∷ []) (ap table is) h in record { fits_it = p.takes; value = p.value }

-- ---- a float that is 0

not_here : (ty : Ty) (a : AnyValue) → fits AnInt (type_of a) ≡ false → takes Not ty (a ∷ []) ≡ true → One Not AFloat AnInt int_not ty a
not_here ty a i h =
    one_applied Not AFloat AnInt int_not ty a
    (last_rule Not ty (a ∷ []) (On (AFloat ∷ []) AnInt int_not)
    (in_others Not ty (a ∷ []) (record { no_ints = no_int_one (table Not) ty (type_of a) i; no_floats = refl }) h))

pub not_at : (name : OpName) (ty : Ty) (a : AnyValue) → name ≡ Not → fits AnInt (type_of a) ≡ false → takes name ty (a ∷ []) ≡ true → One name AFloat AnInt int_not ty a
not_at name ty a is i h = subst (λ op. One op AFloat AnInt int_not ty a) (sym is) (not_here ty a i (subst (λ op. takes op ty (a ∷ []) ≡ true) is h))

-- ---- the length of an array

pub record Measured (name : OpName) (ty : Ty) (a : AnyValue) : Type 0 where
  pub array : is_array (type_of a) ≡ true
  pub writes : fits AnInt ty ≡ true
  pub value : apply name ty (a ∷ []) ≡ with_numbers ty (pos (type_of a).len ∷ [])

pub length_at : (name : OpName) (ty : Ty) (a : AnyValue) → name ≡ ArrayLength → takes name ty (a ∷ []) ≡ true → Measured name ty a
length_at name ty a is h =
    let p = only_rule name LengthRead ty (a ∷ []) (ap table is) h in
    let q = and_parts (is_array (type_of a)) (fits AnInt ty) p.takes in
    record { array = q.0; writes = q.1; value = p.value }

-- ---- comparisons

-- on two operands that are not ints alone, where the row has ints and other rules
others_two : (op : OpName) (ty : Ty) (a b : AnyValue) → takes_floats (table op) ty (type_of a ∷ type_of b ∷ []) ≡ false → are_ints (type_of a) (type_of b) ≡ false
    → takes op ty (a ∷ b ∷ []) ≡ true → OtherRules op ty (a ∷ b ∷ []) (table op).others
others_two op ty a b f i h = in_others op ty (a ∷ b ∷ []) (record { no_ints = no_int_two (table op) ty (type_of a) (type_of b) i; no_floats = f }) h

pub lt_at : (name : OpName) (ty : Ty) (a b : AnyValue) → name ≡ Lt → are_ints (type_of a) (type_of b) ≡ false → takes name ty (a ∷ b ∷ []) ≡ true → Two name AFloat AFloat AnInt lt ty a b
lt_at name ty a b is i h =
    subst (λ op. Two op AFloat AFloat AnInt lt ty a b) (sym is)
    (two_applied Lt AFloat AFloat AnInt lt ty a b (last_rule Lt ty (a ∷ b ∷ []) (On (AFloat ∷ AFloat ∷ []) AnInt lt) (others_two Lt ty a b refl i (subst (λ op. takes op ty (a ∷ b ∷ []) ≡ true) is h))))

pub gt_at : (name : OpName) (ty : Ty) (a b : AnyValue) → name ≡ Gt → are_ints (type_of a) (type_of b) ≡ false → takes name ty (a ∷ b ∷ []) ≡ true → Two name AFloat AFloat AnInt gt ty a b
gt_at name ty a b is i h =
    subst (λ op. Two op AFloat AFloat AnInt gt ty a b) (sym is)
    (two_applied Gt AFloat AFloat AnInt gt ty a b (last_rule Gt ty (a ∷ b ∷ []) (On (AFloat ∷ AFloat ∷ []) AnInt gt) (others_two Gt ty a b refl i (subst (λ op. takes op ty (a ∷ b ∷ []) ≡ true) is h))))

pub le_at : (name : OpName) (ty : Ty) (a b : AnyValue) → name ≡ Le → are_ints (type_of a) (type_of b) ≡ false → takes name ty (a ∷ b ∷ []) ≡ true → Two name AFloat AFloat AnInt le ty a b
le_at name ty a b is i h =
    subst (λ op. Two op AFloat AFloat AnInt le ty a b) (sym is)
    (two_applied Le AFloat AFloat AnInt le ty a b (last_rule Le ty (a ∷ b ∷ []) (On (AFloat ∷ AFloat ∷ []) AnInt le) (others_two Le ty a b refl i (subst (λ op. takes op ty (a ∷ b ∷ []) ≡ true) is h))))

pub ge_at : (name : OpName) (ty : Ty) (a b : AnyValue) → name ≡ Ge → are_ints (type_of a) (type_of b) ≡ false → takes name ty (a ∷ b ∷ []) ≡ true → Two name AFloat AFloat AnInt ge ty a b
ge_at name ty a b is i h =
    subst (λ op. Two op AFloat AFloat AnInt ge ty a b) (sym is)
    (two_applied Ge AFloat AFloat AnInt ge ty a b (last_rule Ge ty (a ∷ b ∷ []) (On (AFloat ∷ AFloat ∷ []) AnInt ge) (others_two Ge ty a b refl i (subst (λ op. takes op ty (a ∷ b ∷ []) ≡ true) is h))))

-- an ordering of floats gives what its row says of ints
pub record Ordered (name : OpName) (ty : Ty) (a b : AnyValue) : Type 0 where
  pub first : fits AFloat (type_of a) ≡ true
  pub second : fits AFloat (type_of b) ≡ true
  pub value : (x y : ℤ) → x ≡ seen_of AFloat a → y ≡ seen_of AFloat b → int_value (value_at (table name).ints (number_at (x ∷ y ∷ []))) ≡ apply name ty (a ∷ b ∷ [])

order_at : (op : OpName) (f : ℤ → ℤ → ℤ) (ty : Ty) (a b : AnyValue) → Two op AFloat AFloat AnInt f ty a b → (table op).ints ≡ Two' f → Ordered op ty a b
order_at op f ty a b o e = record {
  first = o.first;
  second = o.second;
  value = λ x y p q. ap (λ g. int_value (value_at g (number_at (x ∷ y ∷ [])))) e ∙ two_gives o (f x y) (λ i. f (p i) (q i));
}

pub ordered_at : (name : OpName) (ty : Ty) (a b : AnyValue) → is_ordering name ≡ true → are_ints (type_of a) (type_of b) ≡ false → takes name ty (a ∷ b ∷ []) ≡ true → Ordered name ty a b
ordered_at Lt ty a b o i h = order_at Lt lt ty a b (lt_at Lt ty a b refl i h) refl
ordered_at Gt ty a b o i h = order_at Gt gt ty a b (gt_at Gt ty a b refl i h) refl
ordered_at Le ty a b o i h = order_at Le le ty a b (le_at Le ty a b refl i h) refl
ordered_at Ge ty a b o i h = order_at Ge ge ty a b (ge_at Ge ty a b refl i h) refl
ordered_at _ ty a b o i h = absurd (false≢true o)

-- equality: of floats and triples, of matrices, of strings
pub record Equal (name : OpName) (answer : Bool → Bool) (ty : Ty) (a b : AnyValue) : Type 0 where
  pub comparable : are_comparable (type_of a) (type_of b) ≡ true
  pub value : int_value (truth (answer (are_same a b))) ≡ apply name ty (a ∷ b ∷ [])

triple_no_text : (base : Base) → is_triple base ≡ true → fits AString (only base) ≡ false
triple_no_text Int h = refl
triple_no_text Float h = refl
triple_no_text Color h = refl
triple_no_text Point h = refl
triple_no_text Vector h = refl
triple_no_text Normal h = refl
triple_no_text Matrix h = refl
triple_no_text Str h = absurd (false≢true h)
triple_no_text Closure h = refl

triple_no_matrix : (base : Base) → is_triple base ≡ true → fits AMatrix (only base) ≡ false
triple_no_matrix Int h = refl
triple_no_matrix Float h = refl
triple_no_matrix Color h = refl
triple_no_matrix Point h = refl
triple_no_matrix Vector h = refl
triple_no_matrix Normal h = refl
triple_no_matrix Matrix h = absurd (false≢true h)
triple_no_matrix Str h = refl
triple_no_matrix Closure h = refl

-- a type of one form is none of another
not_text : (t : Ty) → fits Floats t ≡ true → fits AString t ≡ false
not_text t h =
    ⊎_elim (λ e. ap (fits AString) (same_type-true t (only Float) e))
    (λ e. let p = and_parts (is_triple t.base) (eqb t.len 0) e in ap (fits AString) (alone t p.1) ∙ triple_no_text t.base p.0)
    (or_cases (is_only Float t) (is_one_triple t) h)

not_matrix : (t : Ty) → fits Floats t ≡ true → fits AMatrix t ≡ false
not_matrix t h =
    ⊎_elim (λ e. ap (fits AMatrix) (same_type-true t (only Float) e))
    (λ e. let p = and_parts (is_triple t.base) (eqb t.len 0) e in ap (fits AMatrix) (alone t p.1) ∙ triple_no_matrix t.base p.0)
    (or_cases (is_only Float t) (is_one_triple t) h)

same_floats : (a b : AnyValue) → fits Floats (type_of a) ≡ true → are_same a b ≡ pointwise int_eq (repeated 3 (numbers_of a)) (repeated 3 (numbers_of b))
same_floats a b h = cond-false _ _ _ (not_text (type_of a) h) ∙ cond-false _ _ _ (not_matrix (type_of a) h)

same_matrices : (a b : AnyValue) → fits AMatrix (type_of a) ≡ true → are_same a b ≡ pointwise int_eq (numbers_of a) (numbers_of b)
same_matrices a b h =
    cond-false _ _ _ (ap (fits AString) (same_type-true (type_of a) (only Matrix) h)) ∙ cond-true _ _ _ h

same_texts : (a b : AnyValue) → fits AString (type_of a) ≡ true → are_same a b ≡ bytes_eq (seen_of AString a) (seen_of AString b)
same_texts a b h = cond-true _ _ _ h

module _ (op : OpName) (answer : Bool → Bool) (ty : Ty) (a b : AnyValue) where
  abbrev floats_rule : Rule
  floats_rule = On (Floats ∷ Floats ∷ []) AnInt (λ xs ys. truth (answer (pointwise int_eq (repeated 3 xs) (repeated 3 ys))))

  abbrev matrix_rule : Rule
  matrix_rule = On (AMatrix ∷ AMatrix ∷ []) AnInt (λ xs ys. truth (answer (pointwise int_eq xs ys)))

  abbrev text_rule : Rule
  text_rule = On (AString ∷ AString ∷ []) AnInt (λ s t. truth (answer (bytes_eq s t)))

  abbrev both : Form → Bool
  both form = fits form (type_of a) && fits form (type_of b)

  pub equal_by : OtherRules op ty (a ∷ b ∷ []) (floats_rule ∷ matrix_rule ∷ text_rule ∷ []) → Equal op answer ty a b
  equal_by o =
      ⊎_elim
      (λ h. let r = two_applied op Floats Floats AnInt _ ty a b (first_rule op ty (a ∷ b ∷ []) floats_rule (matrix_rule ∷ text_rule ∷ []) h o) in record {
        comparable = or_left (both Floats) (both AMatrix || both AString) (and_from _ _ r.first r.second);
        value = two_gives r _ (ap (λ e. truth (answer e)) (same_floats a b r.first));
      })
      (λ no_floats. let o2 = later_rule op ty (a ∷ b ∷ []) floats_rule (matrix_rule ∷ text_rule ∷ []) no_floats o in
      ⊎_elim
      (λ h. let r = two_applied op AMatrix AMatrix AnInt _ ty a b (first_rule op ty (a ∷ b ∷ []) matrix_rule (text_rule ∷ []) h o2) in record {
        comparable = or_right (both Floats) (both AMatrix || both AString) (or_left (both AMatrix) (both AString) (and_from _ _ r.first r.second));
        value = two_gives r _ (ap (λ e. truth (answer e)) (same_matrices a b r.first));
      })
      (λ no_matrices. let r = two_applied op AString AString AnInt _ ty a b (last_rule op ty (a ∷ b ∷ []) text_rule (later_rule op ty (a ∷ b ∷ []) matrix_rule (text_rule ∷ []) no_matrices o2)) in record {
        comparable = or_right (both Floats) (both AMatrix || both AString) (or_right (both AMatrix) (both AString) (and_from _ _ r.first r.second));
        value = two_gives r _ (ap (λ e. truth (answer e)) (same_texts a b r.first));
      })
      (cases_Bool (takes_other ty (type_of a ∷ type_of b ∷ []) matrix_rule)))
      (cases_Bool (takes_other ty (type_of a ∷ type_of b ∷ []) floats_rule))

pub eq_at : (name : OpName) (ty : Ty) (a b : AnyValue) → name ≡ Eq → are_ints (type_of a) (type_of b) ≡ false → takes name ty (a ∷ b ∷ []) ≡ true → Equal name (λ same. same) ty a b
eq_at name ty a b is i h =
    subst (λ op. Equal op (λ same. same) ty a b) (sym is)
    (equal_by Eq (λ same. same) ty a b (others_two Eq ty a b refl i (subst (λ op. takes op ty (a ∷ b ∷ []) ≡ true) is h)))

pub neq_at : (name : OpName) (ty : Ty) (a b : AnyValue) → name ≡ Neq → are_ints (type_of a) (type_of b) ≡ false → takes name ty (a ∷ b ∷ []) ≡ true → Equal name not ty a b
neq_at name ty a b is i h =
    subst (λ op. Equal op not ty a b) (sym is)
    (equal_by Neq not ty a b (others_two Neq ty a b refl i (subst (λ op. takes op ty (a ∷ b ∷ []) ≡ true) is h)))
