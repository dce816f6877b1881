-- Each leaf of a variable has a type of the language, of which zero is a value.
use Rattle.std.proofs.Common.{◌≡◌, ℕ, zero, suc, ◌+◌, Bool, true, false, ◌&&◌, List, [], ◌∷◌, length, map, Some, refl, sym, ap, ◌∙◌}
use Rattle.std.specs.Prelude.{slice_get, ◌==◌, not, nat_lt, IsTrue}
use Rattle.std.specs.List.{flat_map, list_all}
use Rattle.std.proofs.lemmas.Bool.{false≢true, and_parts, cond_both}
use Rattle.std.proofs.lemmas.List.Folds.{list_all-append}
use Rattle.osl_value.specs.declared.types.Base.TheVariants.{Closure}
use Rattle.osl_value.specs.declared.types.Ty.{Ty}
use Rattle.osl_value.specs.AnyValue.{zero_value}
use Rattle.osl_value.specs.Types.{same_base}
use Rattle.osl_layer.specs.Layer.{Inputs}
use Rattle.osl_overload.specs.declared.signature.Kind.{Kind}
use Rattle.osl_overload.specs.declared.signature.Kind.TheVariants.{Value, Structure, Void}
use Rattle.osl_typed.specs.declared.shader.TypedStructure.{TypedStructure}
use Rattle.osl_typed.specs.Frames.{fields_of, leaves_with, leaves_below, leaves_of}
use Rattle.osl_welltyped.specs.Kinded.{Rules, is_type}
use Rattle.osl_welltyped.specs.WellTyped.{field_fits, structures_fit, variable_fits, result_fits}
use Rattle.osl_welltyped.proofs.Steps.{none_is_not, some_same}
use Rattle.oso_code.proofs.TypedStart.{zero_typed}
use Rattle.osl_typed_runs.specs.Typed.{AreOfTypes, types_by, IsTypedFrame}
use Rattle.osl_typed_runs.proofs.LeafRows.{fit_at}
use Rattle.osl_typed_runs.proofs.LeafTypes.{no_values, one_more}

-- ---- tests of all

both : (a b : Bool) → a ≡ true → b ≡ true → (a && b) ≡ true
both true b h g = g
both false b h g = absurd (false≢true h)

pub all_get : {X : Type 0} (p : X → Bool) (xs : List X) (k : ℕ) (x : X) → list_all p xs ≡ true → slice_get xs k ≡ Some x → p x ≡ true
all_get p [] k x h is = none_is_not x is
all_get p (y ∷ ys) zero x h is = ap p (sym (some_same y x is)) ∙ (and_parts (p y) (list_all p ys) h).0
all_get p (y ∷ ys) (suc k) x h is = all_get p ys k x (and_parts (p y) (list_all p ys) h).1 is

-- ---- kinds

module _ (structures : List TypedStructure) (fit : structures_fit 0 structures ≡ true) where
  fields_all : (n j : ℕ) (kinds : List Kind) → ((m : ℕ) → list_all is_type (leaves_below structures n m) ≡ true) → list_all (field_fits j) kinds ≡ true
      → list_all is_type (flat_map (leaves_with (leaves_below structures n)) kinds) ≡ true
  fields_all n j [] below h = refl
  fields_all n j (Value ty ∷ kinds) below h =
      let p = and_parts (is_type ty && not (same_base ty.base Closure)) (list_all (field_fits j) kinds) h in
      both (is_type ty) (list_all is_type (flat_map (leaves_with (leaves_below structures n)) kinds)) (and_parts (is_type ty) (not (same_base ty.base Closure)) p.0).0 (fields_all n j kinds below p.1)
  fields_all n j (Structure m ∷ kinds) below h =
      let p = and_parts (nat_lt m j) (list_all (field_fits j) kinds) h in
      let own = leaves_below structures n m in
      let rest = flat_map (leaves_with (leaves_below structures n)) kinds in
      list_all-append is_type own rest ∙ both (list_all is_type own) (list_all is_type rest) (below m) (fields_all n j kinds below p.1)
  fields_all n j (Void ∷ kinds) below h = absurd (false≢true h)

  leaves_all : (n m : ℕ) → list_all is_type (leaves_below structures n m) ≡ true
  unfolding leaves_below
  leaves_all zero m = refl
  leaves_all (suc n) m =
      cond_both (m == n) (flat_map (leaves_with (leaves_below structures n)) (fields_of structures n)) (leaves_below structures n m) (λ z. list_all is_type z ≡ true)
      (λ same. fields_all n (0 + n) (fields_of structures n) (leaves_all n) (fit_at structures structures 0 n fit))
      (λ other. leaves_all n m)

  -- of a variable
  pub kind_all : (kind : Kind) → variable_fits structures kind ≡ true → list_all is_type (leaves_of structures kind) ≡ true
  kind_all (Value ty) h = both (is_type ty) true h refl
  kind_all (Structure m) h = leaves_all (length structures) m
  kind_all Void h = refl

  -- of what a function gives
  pub result_all : (kind : Kind) → result_fits structures kind ≡ true → list_all is_type (leaves_of structures kind) ≡ true
  result_all (Value ty) h = both (is_type ty) true h refl
  result_all (Structure m) h = leaves_all (length structures) m
  result_all Void h = refl

  pub frame_all : (kinds : List Kind) → list_all (variable_fits structures) kinds ≡ true → list_all is_type (flat_map (leaves_of structures) kinds) ≡ true
  frame_all [] h = refl
  frame_all (kind ∷ kinds) h =
      let p = and_parts (variable_fits structures kind) (list_all (variable_fits structures) kinds) h in
      let own = leaves_of structures kind in
      let rest = flat_map (leaves_of structures) kinds in
      list_all-append is_type own rest ∙ both (list_all is_type own) (list_all is_type rest) (kind_all kind p.0) (frame_all kinds p.1)

pub leaf_fits : (rules : Rules) (inputs : Inputs) → IsTypedFrame rules inputs → (k : ℕ) (ty : Ty) → slice_get (types_by rules) k ≡ Some ty → IsTrue (is_type ty)
leaf_fits rules inputs fit k ty is = all_get is_type (types_by rules) k ty (frame_all rules.structures fit.structures rules.kinds fit.kinds) is

-- ---- zeros

pub zero_row : (row : List Ty) → list_all is_type row ≡ true → AreOfTypes row (map zero_value row)
zero_row [] h = no_values
zero_row (ty ∷ row) h =
    let p = and_parts (is_type ty) (list_all is_type row) h in
    one_more ty row (zero_value ty) (map zero_value row) (zero_typed ty p.0) (zero_row row p.1)
