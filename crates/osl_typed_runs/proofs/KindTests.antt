-- What tests of kinds say where they hold.
use Rattle.std.proofs.Common.{◌≡◌, ℕ, Bool, true, false, ◌&&◌, ◌||◌, List, [], ◌∷◌, Option, Some, None, refl, ap, subst, arith}
use Rattle.std.specs.Prelude.{if◌then◌else◌, ◌==◌, nat_lt, not, is_some, IsTrue}
use Rattle.std.specs.List.{All}
use Rattle.std.proofs.lemmas.Bool.{false≢true, and_parts, eqb-true, ltb-true}
use Rattle.std.proofs.lemmas.List.Elements.{All-nil, All-cons}
use Rattle.osl_value.specs.declared.op_name.OpName.{OpName}
use Rattle.osl_value.specs.declared.types.Base.TheVariants.{Int, Float, Closure}
use Rattle.osl_value.specs.declared.types.Ty.{Ty}
use Rattle.osl_value.specs.AnyValue.{is_number, is_one_triple}
use Rattle.osl_value.specs.Types.{only, is_only, same_type}
use Rattle.osl_value.specs.WellFormed.{IsValue}
use Rattle.osl_value.proofs.SameTypes.{same_type-true}
use Rattle.osl_overload.specs.Cost.{promotion, promotion_of}
use Rattle.osl_overload.specs.declared.signature.Kind.{Kind}
use Rattle.osl_overload.specs.declared.signature.Kind.TheVariants.{Value, Structure, Void}
use Rattle.osl_typed.specs.Parts.{int_of, named_component}
use Rattle.osl_typed.specs.Selections.{selected_type}
use Rattle.osl_welltyped.specs.Kinded.{is_type, is_int, is_numeric, only_if, selects, component_fits, kind_selects, takes, promotes, is_stored_as, updates_by, steps}
use Rattle.osl_welltyped.proofs.Steps.{none_is_not, some_same}
use Rattle.osl_typed_runs.proofs.Values.{alone_fits, count_typed}

pub if_so : (t : Bool) (k kind : Kind) → only_if t k ≡ Some kind → (t ≡ true) × (k ≡ kind)
if_so true k kind h = (refl, some_same k kind h)
if_so false k kind h = none_is_not kind h

-- ---- a kind that is there

pub record Found (o : Option Kind) : Type 0 where
  pub kind : Kind
  pub is : o ≡ Some kind

pub int_found : (o : Option Kind) → is_int o ≡ true → Found o
int_found None h = absurd (false≢true h)
int_found (Some kind) h = record { kind = kind; is = refl }

pub number_found : (o : Option Kind) → is_numeric o ≡ true → Found o
number_found None h = absurd (false≢true h)
number_found (Some kind) h = record { kind = kind; is = refl }

-- ---- components

component_named : (ty : Ty) (c : Option ℕ) → component_fits ty c ≡ true → All IsValue (named_component c)
component_named ty None h = All-nil IsValue
component_named ty (Some c) h =
    let k = ltb-true c 3 (and_parts (is_one_triple ty) (nat_lt c 3) h).1 in
    All-cons IsValue (int_of c) [] (count_typed c (omega (arith, k))).value (All-nil IsValue)

nothing_named : (b : Bool) (c : Option ℕ) → (b && not (is_some c)) ≡ true → All IsValue (named_component c)
nothing_named b None h = All-nil IsValue
nothing_named b (Some c) h = absurd (false≢true (and_parts b false h).1)

pub named_fits : (kind : Kind) (n : ℕ) (c : Option ℕ) → kind_selects kind n c ≡ true → All IsValue (named_component c)
named_fits (Value ty) n c h = component_named (selected_type ty n) c (and_parts (selects ty n) (component_fits (selected_type ty n) c) h).1
named_fits (Structure m) n c h = nothing_named (n == 0) c h
named_fits Void n c h = nothing_named (n == 0) c h

-- ---- promotions

is_there : (b : Bool) (o : Option ℕ) → is_some (if b then o else None) ≡ true → b ≡ true
is_there true o h = refl
is_there false o h = absurd (false≢true h)

-- what promotes becomes no array
promotion_fits : (from to : Ty) → is_some (promotion_of (Value from) (Value to)) ≡ true → IsTrue (is_type to)
promotion_fits from to h = alone_fits to (eqb-true to.len 0 (and_parts (from.len == 0) (to.len == 0) (is_there (from.len == 0 && to.len == 0) (promotion from.base to.base) h)).1)

pub promotes_fits : (ty : Ty) (o : Option Kind) → promotes ty o ≡ true → IsTrue (is_type ty) × Found o
promotes_fits ty None h = absurd (false≢true h)
promotes_fits ty (Some (Structure m)) h = absurd (false≢true h)
promotes_fits ty (Some Void) h = absurd (false≢true h)
promotes_fits ty (Some (Value from)) h = (by (is_some (promotion_of (Value from) (Value ty))) refl h, record { kind = Value from; is = refl })
  where
    by : (b : Bool) → is_some (promotion_of (Value from) (Value ty)) ≡ b → (b || (is_only Closure ty && is_only Int from)) ≡ true → IsTrue (is_type ty)
    by true is g = promotion_fits from ty is
    by false is g = alone_fits ty (ap (λ (t : Ty). t.len) (same_type-true ty (only Closure) (and_parts (is_only Closure ty) (is_only Int from) g).0))

-- ---- operations

pub takes_fits : (op : OpName) (ty : Ty) (types : List Ty) → takes op ty (Some types) ≡ true → IsTrue (is_type ty)
takes_fits op ty types h = (and_parts _ _ (and_parts _ _ h).0).0

-- `x op= e`, where what the operation gives may be stored
pub record UpdateFits (ty : Ty) (k : Kind) (o : Option Kind) : Type 0 where
  pub to : Ty
  pub from : Ty
  pub stored : k ≡ Value to
  pub given : o ≡ Some (Value from)
  pub made : IsTrue (is_type ty)
  pub fits : IsTrue (is_type to)

pub update_fits : (op : OpName) (ty : Ty) (k : Kind) (o : Option Kind) → updates_by op ty k o ≡ true → UpdateFits ty k o
update_fits op ty (Structure m) o h = absurd (false≢true h)
update_fits op ty Void o h = absurd (false≢true h)
update_fits op ty (Value to) None h = absurd (false≢true h)
update_fits op ty (Value to) (Some (Structure m)) h = absurd (false≢true h)
update_fits op ty (Value to) (Some Void) h = absurd (false≢true h)
update_fits op ty (Value to) (Some (Value from)) h =
    let p = and_parts (takes op ty (Some (to ∷ from ∷ []))) (is_stored_as (Value to) (Value ty)) h in
    let made = takes_fits op ty (to ∷ from ∷ []) p.0 in
    record { to = to; from = from; stored = refl; given = refl; made = made; fits = by (same_type ty to) refl made p.1 }
  where
    by : (b : Bool) → same_type ty to ≡ b → IsTrue (is_type ty) → (b || is_some (promotion_of (Value ty) (Value to))) ≡ true → IsTrue (is_type to)
    by true is made g = subst (λ t. IsTrue (is_type t)) (same_type-true ty to is) made
    by false is made g = promotion_fits ty to g

number_fits : (ty : Ty) → is_number ty ≡ true → IsTrue (is_type ty)
number_fits ty h = by (is_only Int ty) refl h
  where
    by : (b : Bool) → is_only Int ty ≡ b → (b || is_only Float ty) ≡ true → IsTrue (is_type ty)
    by true is g = alone_fits ty (ap (λ (t : Ty). t.len) (same_type-true ty (only Int) is))
    by false is g = alone_fits ty (ap (λ (t : Ty). t.len) (same_type-true ty (only Float) g))

pub step_fits : (ty : Ty) (o : Option Kind) → steps ty o ≡ true → (o ≡ Some (Value ty)) × IsTrue (is_type ty)
step_fits ty None h = absurd (false≢true h)
step_fits ty (Some (Structure m)) h = absurd (false≢true h)
step_fits ty (Some Void) h = absurd (false≢true h)
step_fits ty (Some (Value from)) h = let p = and_parts (same_type from ty) (is_number ty) h in (ap (λ z. Some (Value z)) (same_type-true from ty p.0), number_fits ty p.1)
