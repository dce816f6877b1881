-- Values of types: zeros, literals, and what operations give.
use Rattle.std.proofs.Common.{◌≡◌, ℕ, ◌<◌, Bool, true, false, ℤ, pos, negsuc, List, [], ◌∷◌, map, refl, sym, ap, ◌∙◌, subst, arith, lit≤}
use Rattle.std.specs.Prelude.{not, ◌&&◌, ◌||◌, ◌==◌, ◌^◌, nat_le, IsTrue}
use Rattle.std.specs.List.{All, list_any}
use Rattle.std.proofs.lemmas.Bool.{false≢true, cond-false, ltb-true, leb-true, and_parts}
use Rattle.std.proofs.lemmas.List.Elements.{All-nil, All-cons}
use Rattle.osl_value.specs.declared.op_name.OpName.{OpName}
use Rattle.osl_value.specs.declared.types.Base.{Base}
use Rattle.osl_value.specs.declared.types.Base.TheVariants as B
use Rattle.osl_value.specs.declared.types.Ty.{Ty}
use Rattle.osl_value.specs.AnyValue.{AnyValue, Parts, type_of, with_numbers, with_text, zero_value}
use Rattle.osl_value.specs.Apply.{apply, is_allowed, takes_ints, takes_floats, takes_other, other_value, first_value, row_takes, row_value, ints_value, floats_value}
use Rattle.osl_value.specs.Laws.{HasValues}
use Rattle.osl_value.specs.Numbers.{truth}
use Rattle.osl_value.specs.Plain.{IsNumberOf}
use Rattle.osl_value.specs.Table.{Rule, Row, table}
use Rattle.osl_value.specs.Types.{only, same_base, longest_array}
use Rattle.osl_value.specs.WellFormed.{IsValue, IsOfType}
use Rattle.osl_value.proofs.GivesValues.{gives_values}
use Rattle.osl_value.proofs.TableLaws.{applied_type}
use Rattle.osl_welltyped.specs.Kinded.{is_type}
use Rattle.osl_welltyped.specs.Measures.{fits_int, fits_float, fault_unless}
use Rattle.oso_code.proofs.TypedStart.{zero_typed}
use Rattle.osl_typed.specs.Parts.{int_of}
use Rattle.std.proofs.lemmas.Bool.{eqb-true}

-- ---- types

pub as_type : (a b : Ty) (v : AnyValue) → a ≡ b → IsOfType a v → IsOfType b v
as_type a b v same h = record { value = h.value; type = h.type ∙ same }

no_array : (b : Bool) → not (b && false) ≡ true
no_array true = refl
no_array false = refl

-- what is no array is a type of the language
pub alone_fits : (ty : Ty) → ty.len ≡ 0 → IsTrue (is_type ty)
alone_fits ty h = ap (λ n. nat_le n longest_array && not (same_base ty.base B.Closure && not (n == 0))) h ∙ no_array (same_base ty.base B.Closure)

pub only_fits : (base : Base) → IsTrue (is_type (only base))
only_fits base = alone_fits (only base) refl

-- and there are values of it
pub type_has : (ty : Ty) → IsTrue (is_type ty) → HasValues ty
type_has ty h = λ base. eqb-true ty.len 0 (by (same_base ty.base B.Closure) (ty.len == 0) (and_parts (nat_le ty.len longest_array) (not (same_base ty.base B.Closure && not (ty.len == 0))) h).1 (ap (λ b. same_base b B.Closure) base))
  where
    by : (a c : Bool) → not (a && not c) ≡ true → a ≡ true → c ≡ true
    by true true n a = refl
    by true false n a = absurd (false≢true n)
    by false c n a = absurd (false≢true a)

-- ---- what operations give

neither : (a b : Bool) → (a || b) ≡ false → (a ≡ false) × (b ≡ false)
neither true b h = absurd (false≢true (sym h))
neither false b h = (refl, h)

first_zero : (ty : Ty) (args : List AnyValue) (rules : List Rule) → list_any (takes_other ty (map type_of args)) rules ≡ false → first_value ty args rules ≡ zero_value ty
first_zero ty args [] h = refl
first_zero ty args (rule ∷ rules) h =
    let p = neither (takes_other ty (map type_of args) rule) (list_any (takes_other ty (map type_of args)) rules) h in
    cond-false (takes_other ty (map type_of args) rule) (other_value ty args rule) (first_value ty args rules) p.0 ∙ first_zero ty args rules p.1

row_zero : (r : Row) (ty : Ty) (args : List AnyValue) → row_takes r ty (map type_of args) ≡ false → row_value r ty args ≡ zero_value ty
row_zero r ty args h =
    let types = map type_of args in
    let p = neither (takes_ints r ty types || takes_floats r ty types) (list_any (takes_other ty types) r.others) h in
    let q = neither (takes_ints r ty types) (takes_floats r ty types) p.0 in
    cond-false (takes_ints r ty types) (ints_value r ty args) _ q.0
    ∙ cond-false (takes_floats r ty types) (floats_value r ty args) (first_value ty args r.others) q.1
    ∙ first_zero ty args r.others p.1

-- where it takes no such arguments it gives zero
refused_zero : (op : OpName) (ty : Ty) (args : List AnyValue) → is_allowed op ty (map type_of args) ≡ false → zero_value ty ≡ apply op ty args
unfolding apply is_allowed
refused_zero op ty args h = sym (row_zero (table op) ty args h)

-- whatever the types of its arguments are, it gives a value of the type that is to be written
pub applied : (op : OpName) (ty : Ty) (args : List AnyValue) → IsTrue (is_type ty) → All IsValue args → IsOfType ty (apply op ty args)
applied op ty args fits all = by (is_allowed op ty (map type_of args)) refl
  where
    by : (b : Bool) → is_allowed op ty (map type_of args) ≡ b → IsOfType ty (apply op ty args)
    by true h = record { value = gives_values op ty args all h; type = applied_type op ty args (type_has ty fits) }
    by false h = subst (IsOfType ty) (refused_zero op ty args h) (zero_typed ty fits)

-- ---- literals

int_in_range : (n : ℤ) → fits_int n ≡ true → IsNumberOf B.Int n
int_in_range (pos n) h = let k = ltb-true n (2 ^ 31) h in record { sfits = omega arith }
int_in_range (negsuc n) h = let k = ltb-true n (2 ^ 31) h in record { sfits = omega arith }

no_fault : (b : Bool) → fault_unless b ≡ 0 → b ≡ true
no_fault true h = refl
no_fault false h = absurd (cc h)

int_fits : (n : ℤ) → IsNumberOf B.Int n → IsOfType (only B.Int) (with_numbers (only B.Int) (n ∷ []))
int_fits n h = record {
  value = record { no_closure = λ e. (cc); short = lit≤ tt; nums_fit = refl; texts_fit = refl; in_range = All-cons (IsNumberOf B.Int) n [] h (All-nil (IsNumberOf B.Int)) };
  type = refl;
}

pub int_typed : (n : ℤ) → fault_unless (fits_int n) ≡ 0 → IsOfType (only B.Int) (with_numbers (only B.Int) (n ∷ []))
int_typed n h = int_fits n (int_in_range n (no_fault (fits_int n) h))

pub float_typed : (units : ℤ) → fault_unless (fits_float units) ≡ 0 → IsOfType (only B.Float) (with_numbers (only B.Float) (units ∷ []))
float_typed units h = record {
  value = record {
    no_closure = λ e. (cc);
    short = lit≤ tt;
    nums_fit = refl;
    texts_fit = refl;
    in_range = All-cons (IsNumberOf B.Float) units [] (leb-true _ _ (no_fault (fits_float units) h)) (All-nil (IsNumberOf B.Float));
  };
  type = refl;
}

pub text_typed : (bytes : List ℕ) → IsOfType (only B.Str) (with_text (only B.Str) bytes)
text_typed bytes = record {
  value = record { no_closure = λ e. (cc); short = lit≤ tt; nums_fit = refl; texts_fit = refl; in_range = All-nil (IsNumberOf B.Str) };
  type = refl;
}

-- a small number as an int
pub count_typed : (n : ℕ) → n < 2 ^ 31 → IsOfType (only B.Int) (int_of n)
count_typed n h = int_fits (pos n) (record { sfits = omega (arith, h) })

pub truth_typed : (b : Bool) → IsOfType (only B.Int) (with_numbers (only B.Int) (truth b ∷ []))
truth_typed true = int_typed (pos 1) refl
truth_typed false = int_typed (pos 0) refl

pub empty_closure : IsOfType (only B.Closure) (Parts [])
empty_closure = zero_typed (only B.Closure) refl
