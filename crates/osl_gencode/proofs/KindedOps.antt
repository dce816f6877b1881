-- Operations that code is made of take what they are given: from the kinds of operands, as typing told them.
use Rattle.std.proofs.Common.{◌≡◌, ℕ, suc, ◌⊎◌, inl, inr, List, [], ◌∷◌, Some, None, Bool, true, false, not, refl, sym, ap, ◌∙◌}
use Rattle.std.specs.Prelude.{is_some, ◌&&◌, ◌||◌, ◌==◌, if◌then◌else◌}
use Rattle.std.specs.List.{list_all}
use Rattle.std.proofs.lemmas.Bool.{or_left, eqb-true}
use Rattle.osl_value.specs.declared.op_name.OpName.{OpName}
use Rattle.osl_value.specs.declared.op_name.OpName.TheVariants as O
use Rattle.osl_value.specs.declared.types.Base.{Base}
use Rattle.osl_value.specs.declared.types.Base.TheVariants.{Int, Float, Matrix, Closure}
use Rattle.osl_value.specs.declared.types.Ty.{Ty}
use Rattle.osl_value.specs.AnyValue.{is_array, is_assignable, is_number, is_one_triple, element_type}
use Rattle.osl_value.specs.Apply.{is_allowed}
use Rattle.osl_value.specs.Forms.{AnInt, fits}
use Rattle.osl_value.specs.Table.{is_control, updates}
use Rattle.osl_value.specs.Types.{only, is_only, same_base, same_type}
use Rattle.osl_value.proofs.SameTypes.{same_type-refl}
use Rattle.osl_overload.specs.Cost.{promotion, promotion_of}
use Rattle.osl_overload.specs.declared.signature.Kind.TheVariants.{Value}
use Rattle.osl_welltyped.specs.Kinded.{is_type, takes, promotes, selects}
use Rattle.osl_welltyped.proofs.TypeTables.{bases, each_base, Short, short_only, short_triple, short_number, only_base, or_true}
use Rattle.oso_code.proofs.Members.{and_both, both_and}

-- ---- tables

implies : Bool → Bool → Bool
implies true b = b
implies false b = true

implied : (a b : Bool) → implies a b ≡ true → a ≡ true → b ≡ true
unfolding implies
implied true b h is = h
implied false b h is = absurd (cc is)

-- what holds of each base type alone
by_base : (test holds : Ty → Bool) → Short test → ((b : Base) → implies (test (only b)) (holds (only b)) ≡ true) → (ty : Ty) → test ty ≡ true → holds ty ≡ true
by_base test holds short all ty is =
    let e = only_base ty (short ty is) in
    ap holds e ∙ implied (test (only ty.base)) (holds (only ty.base)) (all ty.base) (sym (ap test e) ∙ is)

-- ---- operations of the source

-- an operation that typing writes in is in the table, has a value, and writes nothing that it reads
pub takes_allowed : (op : OpName) (ty : Ty) (types : List Ty) → takes op ty (Some types) ≡ true → (is_allowed op ty types ≡ true) × (updates op ≡ false)
takes_allowed op ty types h =
    let p = and_both (is_type ty && is_allowed op ty types) (not (updates op)) h in
    ((and_both (is_type ty) (is_allowed op ty types) p.0).1, by_test (updates op) p.1)
  where
    by_test : (t : Bool) → not t ≡ true → t ≡ false
    by_test true h = absurd (cc h)
    by_test false h = refl

pub allowed_plain : (op : OpName) (ty : Ty) (types : List Ty) → is_allowed op ty types ≡ true → is_control op ≡ false
unfolding is_allowed
allowed_plain O.If ty types h = absurd (cc h)
allowed_plain O.For ty types h = absurd (cc h)
allowed_plain O.While ty types h = absurd (cc h)
allowed_plain O.DoWhile ty types h = absurd (cc h)
allowed_plain O.FunctionCall ty types h = absurd (cc h)
allowed_plain O.Break ty types h = absurd (cc h)
allowed_plain O.Continue ty types h = absurd (cc h)
allowed_plain O.Return ty types h = absurd (cc h)
allowed_plain O.Exit ty types h = absurd (cc h)
allowed_plain op ty types h = refl

-- ---- copies and promotions

pub assigns_from : (ty from : Ty) → is_assignable ty from ≡ true → is_allowed O.Assign ty (from ∷ []) ≡ true
unfolding is_allowed
assigns_from ty from h = or_left (is_assignable ty from) false h

-- a value into a symbol of its type
pub assigns_same : (ty : Ty) → is_allowed O.Assign ty (ty ∷ []) ≡ true
assigns_same ty = assigns_from ty ty (or_left (same_type ty ty || (is_only Float ty && is_only Int ty)) (is_one_triple ty && (is_number ty || is_one_triple ty)) (or_left (same_type ty ty) (is_only Float ty && is_only Int ty) (same_type-refl ty)))

promoted_base : (a b : Base) → implies (is_some (promotion a b)) (is_assignable (only b) (only a)) ≡ true
unfolding implies
promoted_base a b = each_base (λ x. implies (is_some (promotion a x)) (is_assignable (only x) (only a))) (each_base (λ y. list_all (λ x. implies (is_some (promotion y x)) (is_assignable (only x) (only y))) bases) refl a) b

-- one that promotes
pub assigns_promoted : (from ty : Ty) → is_some (promotion_of (Value from) (Value ty)) ≡ true → is_allowed O.Assign ty (from ∷ []) ≡ true
assigns_promoted from ty h = assigns_from ty from (by_short (from.len == 0) (ty.len == 0) refl refl h)
  where
    by_short : (s t : Bool) → (from.len == 0) ≡ s → (ty.len == 0) ≡ t → is_some (if s && t then promotion from.base ty.base else None) ≡ true → is_assignable ty from ≡ true
    by_short true true e f g =
        let a = only_base from (eqb-true from.len 0 e) in let b = only_base ty (eqb-true ty.len 0 f) in
        (λ i. is_assignable (b i) (a i)) ∙ implied (is_some (promotion from.base ty.base)) (is_assignable (only ty.base) (only from.base)) (promoted_base from.base ty.base) g
    by_short true false e f g = absurd (cc g)
    by_short false t e f g = absurd (cc g)

-- as a promotion of the source, which is no closure
pub promotes_allowed : (from ty : Ty) → same_base ty.base Closure ≡ false → promotes ty (Some (Value from)) ≡ true → is_allowed O.Assign ty (from ∷ []) ≡ true
promotes_allowed from ty other h = by_cases (or_true (is_some (promotion_of (Value from) (Value ty))) (is_only Closure ty && is_only Int from) h)
  where
    by_cases : (is_some (promotion_of (Value from) (Value ty)) ≡ true) ⊎ ((is_only Closure ty && is_only Int from) ≡ true) → is_allowed O.Assign ty (from ∷ []) ≡ true
    by_cases (inl p) = assigns_promoted from ty p
    by_cases (inr c) = absurd (
        let f : true ≡ false = sym ((and_both (same_base ty.base Closure) (ty.len == 0) ((and_both (is_only Closure ty) (is_only Int from) c).0)).0) ∙ other in cc f)

-- the empty closure
pub empty_allowed : is_allowed O.Empty (only Closure) [] ≡ true
unfolding is_allowed
empty_allowed = refl

-- ---- tests and counters

pub not_allowed : (ty : Ty) → is_number ty ≡ true → is_allowed O.Not (only Int) (ty ∷ []) ≡ true
unfolding is_allowed implies
not_allowed ty h = by_base (λ t. is_number t) (λ t. is_allowed O.Not (only Int) (t ∷ [])) short_number (each_base (λ b. implies (is_number (only b)) (is_allowed O.Not (only Int) (only b ∷ []))) refl) ty h

-- `++` and `--`, and the counter of a brace list
pub adds_allowed : (ty : Ty) → is_number ty ≡ true → is_allowed O.Add ty (ty ∷ ty ∷ []) ≡ true
unfolding is_allowed implies
adds_allowed ty h = by_base (λ t. is_number t) (λ t. is_allowed O.Add t (t ∷ t ∷ [])) short_number (each_base (λ b. implies (is_number (only b)) (is_allowed O.Add (only b) (only b ∷ only b ∷ []))) refl) ty h

pub subtracts_allowed : (ty : Ty) → is_number ty ≡ true → is_allowed O.Sub ty (ty ∷ ty ∷ []) ≡ true
unfolding is_allowed implies
subtracts_allowed ty h = by_base (λ t. is_number t) (λ t. is_allowed O.Sub t (t ∷ t ∷ [])) short_number (each_base (λ b. implies (is_number (only b)) (is_allowed O.Sub (only b) (only b ∷ only b ∷ []))) refl) ty h

-- ---- parts of values

pub element_read : (ty : Ty) → is_array ty ≡ true → is_allowed O.ARef (element_type ty) (ty ∷ only Int ∷ []) ≡ true
unfolding is_allowed
element_read ty h = or_left (is_array ty && fits AnInt (only Int) && same_type (element_type ty) (element_type ty)) false (both_and (is_array ty && fits AnInt (only Int)) (same_type (element_type ty) (element_type ty)) (both_and (is_array ty) (fits AnInt (only Int)) h refl) (same_type-refl (element_type ty)))

pub element_written : (ty : Ty) → is_array ty ≡ true → is_allowed O.AAssign ty (ty ∷ only Int ∷ element_type ty ∷ []) ≡ true
unfolding is_allowed
element_written ty h =
    or_left (is_array ty && fits AnInt (only Int) && same_type (element_type ty) (element_type ty) && same_type ty ty) false (both_and (is_array ty && fits AnInt (only Int) && same_type (element_type ty) (element_type ty)) (same_type ty ty) (both_and (is_array ty && fits AnInt (only Int)) (same_type (element_type ty) (element_type ty)) (both_and (is_array ty) (fits AnInt (only Int)) h refl) (same_type-refl (element_type ty))) (same_type-refl ty))

pub component_read : (ty : Ty) → is_one_triple ty ≡ true → is_allowed O.CompRef (only Float) (ty ∷ only Int ∷ []) ≡ true
unfolding is_allowed implies
component_read ty h = by_base (λ t. is_one_triple t) (λ t. is_allowed O.CompRef (only Float) (t ∷ only Int ∷ [])) short_triple (each_base (λ b. implies (is_one_triple (only b)) (is_allowed O.CompRef (only Float) (only b ∷ only Int ∷ []))) refl) ty h

pub component_written : (ty : Ty) → is_one_triple ty ≡ true → is_allowed O.CompAssign ty (ty ∷ only Int ∷ only Float ∷ []) ≡ true
unfolding is_allowed implies
component_written ty h = by_base (λ t. is_one_triple t) (λ t. is_allowed O.CompAssign t (t ∷ only Int ∷ only Float ∷ [])) short_triple (each_base (λ b. implies (is_one_triple (only b)) (is_allowed O.CompAssign (only b) (only b ∷ only Int ∷ only Float ∷ []))) refl) ty h

pub entry_read : (ty : Ty) → is_only Matrix ty ≡ true → is_allowed O.MxCompRef (only Float) (ty ∷ only Int ∷ only Int ∷ []) ≡ true
unfolding is_allowed implies
entry_read ty h = by_base (is_only Matrix) (λ t. is_allowed O.MxCompRef (only Float) (t ∷ only Int ∷ only Int ∷ [])) (short_only Matrix) (each_base (λ b. implies (is_only Matrix (only b)) (is_allowed O.MxCompRef (only Float) (only b ∷ only Int ∷ only Int ∷ []))) refl) ty h

pub entry_written : (ty : Ty) → is_only Matrix ty ≡ true → is_allowed O.MxCompAssign ty (ty ∷ only Int ∷ only Int ∷ only Float ∷ []) ≡ true
unfolding is_allowed implies
entry_written ty h = by_base (is_only Matrix) (λ t. is_allowed O.MxCompAssign t (t ∷ only Int ∷ only Int ∷ only Float ∷ [])) (short_only Matrix) (each_base (λ b. implies (is_only Matrix (only b)) (is_allowed O.MxCompAssign (only b) (only b ∷ only Int ∷ only Int ∷ only Float ∷ []))) refl) ty h

-- what indices select, one step at a time
pub data Selected (ty : Ty) (n : ℕ) : Type 0 where
  element : is_array ty ≡ true → selects (element_type ty) n ≡ true → Selected ty n
  entry : is_array ty ≡ false → is_only Matrix ty ≡ true → n ≡ 1 → Selected ty n
  component : is_array ty ≡ false → is_only Matrix ty ≡ false → is_one_triple ty ≡ true → n ≡ 0 → Selected ty n

pub selected_by : (ty : Ty) (n : ℕ) → selects ty (suc n) ≡ true → Selected ty n
unfolding selects
selected_by ty n h = by_array (is_array ty) refl h
  where
    by_matrix : (t : Bool) → is_array ty ≡ false → is_only Matrix ty ≡ t → (if t then n == 1 else is_one_triple ty && (n == 0)) ≡ true → Selected ty n
    by_matrix true a e g = entry a e (eqb-true n 1 g)
    by_matrix false a e g = let p = and_both (is_one_triple ty) (n == 0) g in component a e p.0 (eqb-true n 0 p.1)

    by_array : (t : Bool) → is_array ty ≡ t → (if t then selects (element_type ty) n else if is_only Matrix ty then n == 1 else is_one_triple ty && (n == 0)) ≡ true → Selected ty n
    by_array true e g = element e g
    by_array false e g = by_matrix (is_only Matrix ty) e refl g
