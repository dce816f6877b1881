-- Types and truth of what operations give.
use Rattle.std.proofs.Common.{◌≡◌, true, false, Bool, not, cond, [], ◌∷◌, refl, sym, ap, ◌∙◌, ◌⊎◌, ⊎_elim}
use Rattle.std.proofs.lemmas.Bool.{cond_both}
use Rattle.osl_value.specs.declared.op_name.OpName.TheVariants.{Assign, Empty, Not}
use Rattle.osl_value.specs.declared.types.Base.TheVariants.{Int, Float, Closure}
use Rattle.osl_value.specs.declared.types.Ty.{Ty}
use Rattle.osl_value.specs.AnyValue.{AnyValue, Of, Parts, type_of, numbers_of, with_numbers, zero_value}
use Rattle.osl_value.specs.Apply.{apply, takes_ints, takes_floats, takes_other, other_value, first_value, ints_value, floats_value}
use Rattle.osl_value.specs.Geometry.{number_at}
use Rattle.osl_value.specs.Numbers.{is_zero, truth, int_not}
use Rattle.osl_value.specs.Plain.{zero_of}
use Rattle.osl_value.specs.Table.{On, table}
use Rattle.osl_value.specs.Forms.{AClosure}
use Rattle.osl_value.specs.Types.{only, same_base}
use Rattle.osl_value.proofs.SameTypes.{same_base-true}
use Rattle.osl_value.specs.Laws.{HasValues}
use Rattle.osl_value.proofs.TableLaws.{copies_its_type}
use Rattle.osl_typed.specs.Expressions.{holds, promoted}

-- ---- types

pub zero_type : (ty : Ty) → HasValues ty → type_of (zero_value ty) ≡ ty
zero_type ty has =
    cond_both (same_base ty.base Closure) (Parts []) (Of (zero_of ty)) (λ x. type_of x ≡ ty) (λ is. let base = same_base-true ty.base Closure is in let len = has base in sym (λ i. record { base = base i; len = len i })) (λ other. refl)

pub copied : (v : AnyValue) (ty : Ty) → type_of v ≡ ty → apply Assign ty (v ∷ []) ≡ v
copied v ty h = ap (λ t. apply Assign t (v ∷ [])) (sym h) ∙ copies_its_type v

pub emptied : (ty : Ty) → same_base ty.base Closure ≡ true → apply Empty ty [] ≡ Parts []
unfolding apply
emptied ty is =
    cond_both (takes_other ty [] (On [] AClosure [])) (Parts []) (zero_value ty) (λ x. x ≡ Parts []) (λ e. refl) (λ e. ap (λ t. cond t (Parts []) (Of (zero_of ty))) is)

-- a promotion is one op
pub promotes : (ty : Ty) (v : AnyValue) → same_base ty.base Closure ≡ false → promoted ty v ≡ apply Assign ty (v ∷ [])
promotes ty v is = ap (λ t. cond t (Parts []) (apply Assign ty (v ∷ []))) is

pub promotes_empty : (ty : Ty) (v : AnyValue) → same_base ty.base Closure ≡ true → promoted ty v ≡ Parts []
promotes_empty ty v is = ap (λ t. cond t (Parts []) (apply Assign ty (v ∷ []))) is

-- ---- truth

-- a number that is not zero, turned round
pub not_int : (v : AnyValue) → type_of v ≡ only Int → apply Not (only Int) (v ∷ []) ≡ with_numbers (only Int) (int_not (number_at (numbers_of v) 0) ∷ [])
unfolding apply
not_int v h =
    let r = table Not in
    ap (λ ty. cond (takes_ints r (only Int) (ty ∷ [])) (ints_value r (only Int) (v ∷ [])) (cond (takes_floats r (only Int) (ty ∷ [])) (floats_value r (only Int) (v ∷ [])) (first_value (only Int) (v ∷ []) r.others))) h

pub not_float : (v : AnyValue) → type_of v ≡ only Float → apply Not (only Int) (v ∷ []) ≡ with_numbers (only Int) (int_not (number_at (numbers_of v) 0) ∷ [])
unfolding apply
not_float v h =
    let r = table Not in
    ap (λ ty. cond (takes_ints r (only Int) (ty ∷ [])) (ints_value r (only Int) (v ∷ [])) (cond (takes_floats r (only Int) (ty ∷ [])) (floats_value r (only Int) (v ∷ [])) (elim r.others [ [] ↦ zero_value (only Int) | rule ∷ rules ↦ cond (takes_other (only Int) (ty ∷ []) rule) (other_value (only Int) (v ∷ []) rule) (first_value (only Int) (v ∷ []) rules) ]))) h

-- a number, as `&&`, `||`, `?:` and conditions take it
abbrev pub IsNumeric : Ty → Type 0
IsNumeric ty = (ty ≡ only Int) ⊎ (ty ≡ only Float)

abbrev pub as_int : Bool → AnyValue
as_int t = with_numbers (only Int) (truth t ∷ [])

pub not_number : (v : AnyValue) → IsNumeric (type_of v) → apply Not (only Int) (v ∷ []) ≡ as_int (not (holds (v ∷ [])))
not_number v n = ⊎_elim (λ i. not_int v i) (λ f. not_float v f) n ∙ twice (is_zero (number_at (numbers_of v) 0))
  where
    twice : (z : Bool) → as_int z ≡ as_int (not (not z))
    twice true = refl
    twice false = refl

-- and once more
pub not_truth : (t : Bool) → apply Not (only Int) (as_int (not t) ∷ []) ≡ as_int t
not_truth true = not_int (as_int false) refl
not_truth false = not_int (as_int true) refl
