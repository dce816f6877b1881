-- What indices lead to, index by index as typing goes, and by the rules from the outside in.
use Rattle.std.proofs.Common.{◌≡◌, ℕ, zero, suc, Bool, true, false, ◌&&◌, List, [], ◌∷◌, Option, Some, None, refl, sym, ap}
use Rattle.std.specs.Prelude.{if◌then◌else◌, ◌==◌}
use Rattle.std.proofs.lemmas.Bool.{false≢true}
use Rattle.osl_value.specs.declared.types.Base.{Base}
use Rattle.osl_value.specs.declared.types.Base.TheVariants.{Int, Float, Color, Point, Vector, Normal, Matrix, Str, Closure}
use Rattle.osl_value.specs.declared.types.Ty.{Ty}
use Rattle.osl_value.specs.AnyValue.{is_array, is_one_triple, element_type}
use Rattle.osl_value.specs.Types.{only, is_only}
use Rattle.osl_typed.specs.Selections.{selected_type, last_type, types_on_the_way}
use Rattle.osl_typed.specs.Typing.{◌>>=◌, indexed_type}
use Rattle.osl_welltyped.specs.Kinded.{selects}
use Rattle.osl_welltyped.proofs.Steps.{none_is_not, some_same}

-- ---- what indices lead to, a row of a matrix too

abbrev pub reached_inside : Ty → ℕ → Option (Ty × Bool)
reached_inside ty zero = if is_one_triple ty then Some (only Float, false) else if is_only Matrix ty then Some (ty, true) else None
reached_inside ty (suc zero) = if is_only Matrix ty then Some (only Float, false) else None
reached_inside ty (suc (suc n)) = None

unfoldable pub reached : Ty → ℕ → Option (Ty × Bool)
reached ty zero = Some (ty, false)
reached ty (suc n) = if is_array ty then reached (element_type ty) n else reached_inside ty n

abbrev one_more : Ty → ℕ → Type 0
one_more ty n = reached ty (suc n) ≡ (reached ty n >>= λ r. indexed_type (r.1) (r.0))

abbrev float_if : Bool → Option (Ty × Bool)
float_if t = if t then Some (only Float, false) else None

abbrev row_if : Ty → Bool → Option (Ty × Bool)
row_if ty t = if t then Some (ty, true) else None

float_ends : (t : Bool) → ◌≡◌ {A = Option (Ty × Bool)} None (float_if t >>= λ r. indexed_type (r.1) (r.0))
float_ends true = refl
float_ends false = refl

-- behind what is no array
inside_more : (b : Base) (len n : ℕ) → let ty : Ty = record { base = b; len = len } in
    reached_inside ty (suc n) ≡ (reached_inside ty n >>= λ r. indexed_type (r.1) (r.0))
inside_more Matrix len zero =
    elim (len == 0) as (λ t. float_if t ≡ (row_if (record { base = Matrix; len = len }) t >>= λ r. indexed_type (r.1) (r.0))) [
      | true ↦ refl
      | false ↦ refl
    ]
inside_more Color len zero = float_ends (len == 0)
inside_more Point len zero = float_ends (len == 0)
inside_more Vector len zero = float_ends (len == 0)
inside_more Normal len zero = float_ends (len == 0)
inside_more Int len zero = refl
inside_more Float len zero = refl
inside_more Str len zero = refl
inside_more Closure len zero = refl
inside_more b len (suc zero) = float_ends (is_only Matrix (record { base = b; len = len }))
inside_more b len (suc (suc n)) = refl

more_inside : (b : Base) (n : ℕ) → one_more (only b) n
unfolding reached
more_inside b zero = refl
more_inside b (suc n) = inside_more b 0 n

-- one index more
pub reached_more : (ty : Ty) (n : ℕ) → reached ty (suc n) ≡ (reached ty n >>= λ r. indexed_type (r.1) (r.0))
unfolding reached
reached_more ty zero = refl
reached_more ty (suc n) =
    elim (is_array ty) as (λ t. (if t then reached (element_type ty) (suc n) else reached_inside ty (suc n)) ≡ ((if t then reached (element_type ty) n else reached_inside ty n) >>= λ r. indexed_type (r.1) (r.0))) [
      | true ↦ more_inside ty.base n
      | false ↦ inside_more ty.base ty.len n
    ]

-- ---- against the rules

-- the type is reached by the rules too, where no row is left
pub record Ends (ty : Ty) (n : ℕ) (to : Ty) : Type 0 where
  pub selects : selects ty n ≡ true
  pub type : selected_type ty n ≡ to

no_row : {X : Type 0} (a b : Ty) → ◌≡◌ {A = Option (Ty × Bool)} (Some (a, true)) (Some (b, false)) → X
no_row a b h = absurd (false≢true (sym (ap (λ (p : Ty × Bool). p.1) (some_same {A = Ty × Bool} (a, true) (b, false) h))))

same_end : (a b : Ty) → ◌≡◌ {A = Option (Ty × Bool)} (Some (a, false)) (Some (b, false)) → a ≡ b
same_end a b h = ap (λ (p : Ty × Bool). p.0) (some_same {A = Ty × Bool} (a, false) (b, false) h)

abbrev component_type : Ty → ℕ → List Ty
component_type ty zero = []
component_type ty (suc n) = only Float ∷ []

triple_ends : (b : Base) (len : ℕ) (to : Ty) → float_if (len == 0) ≡ Some (to, false)
    → (((len == 0) && (0 == 0)) ≡ true) × (only Float ≡ to)
triple_ends b len to h =
    elim (len == 0) as (λ t. float_if t ≡ Some (to, false) → ((t && (0 == 0)) ≡ true) × (only Float ≡ to)) [
      | true ↦ λ e. (refl, same_end _ _ e)
      | false ↦ λ e. none_is_not _ e
    ] h

-- behind what is no array
ends_inside : (b : Base) (len m : ℕ) (to : Ty) → let ty : Ty = record { base = b; len = len } in
    reached_inside ty m ≡ Some (to, false)
    → ((if is_only Matrix ty then m == 1 else is_one_triple ty && (m == 0)) ≡ true) × (last_type ty (if is_only Matrix ty then component_type ty m else only Float ∷ []) ≡ to)
ends_inside b len (suc (suc m)) to h = none_is_not (to, false) h
ends_inside b len (suc zero) to h =
    elim (is_only Matrix (record { base = b; len = len })) as (λ t. float_if t ≡ Some (to, false)
    → ((if t then 1 == 1 else is_one_triple (record { base = b; len = len }) && (1 == 0)) ≡ true) × (last_type (record { base = b; len = len }) (if t then component_type (record { base = b; len = len }) 1 else only Float ∷ []) ≡ to)) [
      | true ↦ λ e. (refl, same_end _ _ e)
      | false ↦ λ e. none_is_not _ e
    ] h
ends_inside Matrix len zero to h =
    elim (len == 0) as (λ t. row_if (record { base = Matrix; len = len }) t ≡ Some (to, false)
    → ((if t then 0 == 1 else false) ≡ true) × (last_type (record { base = Matrix; len = len }) (if t then [] else only Float ∷ []) ≡ to)) [
      | true ↦ λ e. no_row _ _ e
      | false ↦ λ e. none_is_not _ e
    ] h
ends_inside Color len zero to h = triple_ends Color len to h
ends_inside Point len zero to h = triple_ends Point len to h
ends_inside Vector len zero to h = triple_ends Vector len to h
ends_inside Normal len zero to h = triple_ends Normal len to h
ends_inside Int len zero to h = none_is_not (to, false) h
ends_inside Float len zero to h = none_is_not (to, false) h
ends_inside Str len zero to h = none_is_not (to, false) h
ends_inside Closure len zero to h = none_is_not (to, false) h

ends_one : (b : Base) (n : ℕ) (to : Ty) → reached (only b) n ≡ Some (to, false) → Ends (only b) n to
unfolding reached selects types_on_the_way
ends_one b zero to h = record { selects = refl; type = same_end _ _ h }
ends_one b (suc m) to h = let r = ends_inside b 0 m to h in record { selects = r.0; type = r.1 }

pub reached_ends : (ty : Ty) (n : ℕ) (to : Ty) → reached ty n ≡ Some (to, false) → Ends ty n to
unfolding reached selects types_on_the_way
reached_ends ty zero to h = record { selects = refl; type = same_end _ _ h }
reached_ends ty (suc m) to h =
    let r = (elim (is_array ty) as (λ t. (if t then reached (element_type ty) m else reached_inside ty m) ≡ Some (to, false)
    → ((if t then selects (element_type ty) m else (if is_only Matrix ty then m == 1 else is_one_triple ty && (m == 0))) ≡ true)
    × (last_type ty (if t then element_type ty ∷ types_on_the_way (element_type ty) m else (if is_only Matrix ty then component_type ty m else only Float ∷ [])) ≡ to)) [
      | true ↦ λ e. let r = ends_one ty.base m to e in (r.selects, r.type)
      | false ↦ λ e. ends_inside ty.base ty.len m to e
    ] h) in
    record { selects = r.0; type = r.1 }
