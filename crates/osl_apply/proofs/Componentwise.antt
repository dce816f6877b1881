-- What an operation on floats, component by component, gives.
use Rattle.std.proofs.Common.{◌≡◌, true, false, ◌&&◌, ℤ, List, [], ◌∷◌, get_or, map, refl, sym, ap, subst, ◌∙◌, ⊎_elim}
use Rattle.std.proofs.lemmas.Bool.{false≢true, and_parts, or_cases, or_left, or_right}
use Rattle.osl_value.specs.declared.op_name.OpName.{OpName}
use Rattle.osl_value.specs.declared.types.Base.{Base}
use Rattle.osl_value.specs.declared.types.Base.TheVariants.{Int, Float, Color, Point, Vector, Normal, Matrix, Str, Closure}
use Rattle.osl_value.specs.declared.types.Ty.{Ty}
use Rattle.osl_value.specs.AnyValue.{AnyValue, type_of, numbers_of, with_numbers, is_one_triple}
use Rattle.osl_value.specs.Apply.{apply, takes_floats, is_float_part}
use Rattle.osl_value.specs.Forms.{AFloat, Floats, fits}
use Rattle.osl_value.specs.Geometry.{each}
use Rattle.osl_value.specs.Table.{table}
use Rattle.osl_value.specs.Types.{only, is_only, is_triple, number_count}
use Rattle.osl_value.proofs.SameTypes.{same_type-true}
use Rattle.osl_value.proofs.Seen.{alone}
use Rattle.osl_value.proofs.TableLaws.{floats_give_floats}
use Rattle.osl_apply.specs.Slots.{base_of}
use Rattle.osl_apply.specs.declared.slot.Kind.{Kind}
use Rattle.osl_apply.specs.declared.slot.Kind.TheVariants as K
use Rattle.osl_apply.proofs.Values.{base_is}

-- the written type is a float or a triple
pub floats_written : (op : OpName) (ty : Ty) (types : List Ty) → takes_floats (table op) ty types ≡ true → fits Floats ty ≡ true
floats_written op ty types h = (and_parts _ _ (and_parts _ _ h).0).1

triple_of_float : (base : Base) → base ≡ Float → is_triple base ≡ false
triple_of_float base e = ap is_triple e

is_triple_type : (ty : Ty) → fits Floats ty ≡ true → is_triple ty.base ≡ true → is_one_triple ty ≡ true
is_triple_type ty h t =
    ⊎_elim (λ e. absurd (false≢true (sym (triple_of_float ty.base (base_is ty Float e)) ∙ t))) (λ e. e) (or_cases (is_only Float ty) (is_one_triple ty) h)

pub is_float_type : (ty : Ty) → fits Floats ty ≡ true → is_triple ty.base ≡ false → ty ≡ only Float
is_float_type ty h t =
    ⊎_elim (λ e. same_type-true ty (only Float) e) (λ e. absurd (false≢true (sym t ∙ (and_parts _ _ e).0))) (or_cases (is_only Float ty) (is_one_triple ty) h)

three_in : (base : Base) → is_triple base ≡ true → number_count (only base) ≡ 3
three_in Int h = absurd (false≢true h)
three_in Float h = absurd (false≢true h)
three_in Color h = refl
three_in Point h = refl
three_in Vector h = refl
three_in Normal h = refl
three_in Matrix h = absurd (false≢true h)
three_in Str h = absurd (false≢true h)
three_in Closure h = absurd (false≢true h)

pub on_triples : (op : OpName) (ty : Ty) (args : List AnyValue) (base : Base) (xs : List ℤ) → takes_floats (table op) ty (map type_of args) ≡ true
    → base ≡ ty.base → is_triple base ≡ true → xs ≡ each 3 (table op).floats (map numbers_of args) → with_numbers (only base) xs ≡ apply op ty args
on_triples op ty args base xs h e t x =
    let f = (table op).floats in
    let nums = map numbers_of args in
    let triple = is_triple_type ty (floats_written op ty (map type_of args) h) (subst (λ b. is_triple b ≡ true) e t) in
    let is_alone : ty ≡ only base = alone ty (and_parts _ _ triple).1 ∙ ap only (sym e) in
    ap (with_numbers (only base)) (x ∙ ap (λ n. each n f nums) (sym (three_in base t)))
    ∙ ap (λ t. with_numbers t (each (number_count t) f nums)) (sym is_alone)
    ∙ sym (floats_give_floats op ty args h)

pub on_floats : (op : OpName) (ty : Ty) (args : List AnyValue) (xs : List ℤ) (d : ℤ) → takes_floats (table op) ty (map type_of args) ≡ true
    → is_triple ty.base ≡ false → xs ≡ each 1 (table op).floats (map numbers_of args) → with_numbers (only Float) (get_or xs 0 d ∷ []) ≡ apply op ty args
on_floats op ty args xs d h t e =
    let f = (table op).floats in
    let nums = map numbers_of args in
    ap (λ (ys : List ℤ). with_numbers (only Float) (get_or ys 0 d ∷ [])) e
    ∙ ap (λ t. with_numbers t (each (number_count t) f nums)) (sym (is_float_type ty (floats_written op ty (map type_of args) h) t))
    ∙ sym (floats_give_floats op ty args h)

pub kind_is_triple : (kind : Kind) → is_triple (base_of kind) ≡ true
kind_is_triple K.Color = refl
kind_is_triple K.Point = refl
kind_is_triple K.Vector = refl
kind_is_triple K.Normal = refl

-- ---- operands

pub part_is_floats : (ty t : Ty) → is_float_part ty t ≡ true → fits Floats t ≡ true
part_is_floats ty t h =
    ⊎_elim (λ e. or_left (is_only Float t) (is_one_triple t) e) (λ e. or_right (is_only Float t) (is_one_triple t) (and_parts (is_one_triple ty) (is_one_triple t) e).1)
    (or_cases (fits AFloat t) (is_one_triple ty && is_one_triple t) h)

-- where a float is written each operand is one
pub part_is_one : (ty t : Ty) → is_triple ty.base ≡ false → is_float_part ty t ≡ true → number_count t ≡ 1
part_is_one ty t other h =
    ⊎_elim (λ e. ap number_count (same_type-true t (only Float) e))
    (λ e. absurd (false≢true (sym other ∙ (and_parts _ _ (and_parts _ _ e).0).0)))
    (or_cases (fits AFloat t) (is_one_triple ty && is_one_triple t) h)

pub record AreParts (ty a b c : Ty) : Type 0 where
  pub first : is_float_part ty a ≡ true
  pub second : is_float_part ty b ≡ true
  pub third : is_float_part ty c ≡ true

pub three_parts : (op : OpName) (ty a b c : Ty) → takes_floats (table op) ty (a ∷ b ∷ c ∷ []) ≡ true → AreParts ty a b c
three_parts op ty a b c h =
    let one = and_parts _ _ (and_parts _ _ h).1 in
    let two = and_parts _ _ one.1 in
    record { first = one.0; second = two.0; third = (and_parts _ _ two.1).0 }
