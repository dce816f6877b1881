-- Where the leaves of variables and of their fields lie.
use Rattle.std.proofs.Common.{◌≡◌, ◌≢◌, ℕ, zero, suc, ◌+◌, ◌<◌, true, List, [], ◌∷◌, ◌++◌, length, take, Option, Some, None, refl, sym, ap, ◌∙◌, subst, arith}
use Rattle.std.specs.Prelude.{slice_get, slice_index_or, ◌==◌, nat_lt}
use Rattle.std.specs.List.{flat_map, list_all}
use Rattle.std.proofs.lemmas.Bool.{false≢true, cond_both, and_parts, eqb-true, ltb-true, eq-eqb}
use Rattle.osl_value.specs.declared.types.Ty.{Ty}
use Rattle.osl_overload.specs.declared.signature.Kind.{Kind}
use Rattle.osl_overload.specs.declared.signature.Kind.TheVariants.{Value, Structure, Void}
use Rattle.osl_typed.specs.declared.shader.TypedStructure.{TypedStructure}
use Rattle.osl_typed.specs.Frames.{fields_of, leaves_with, leaves_below, leaves_of, leaves_before, place_of, kind_in}
use Rattle.osl_welltyped.specs.Kinded.{led_to}
use Rattle.osl_welltyped.specs.WellTyped.{field_fits, structures_fit}
use Rattle.osl_welltyped.proofs.Steps.{none_is_not, some_same}

-- ---- lists

get_left : (xs ys : List Ty) (j : ℕ) (ty : Ty) → slice_get xs j ≡ Some ty → slice_get (xs ++ ys) j ≡ Some ty
get_left [] ys j ty h = none_is_not ty h
get_left (x ∷ xs) ys zero ty h = h
get_left (x ∷ xs) ys (suc j) ty h = get_left xs ys j ty h

get_right : (xs ys : List Ty) (j : ℕ) → slice_get (xs ++ ys) (length xs + j) ≡ slice_get ys j
get_right [] ys j = let e : 0 + j ≡ j = omega arith in ap (slice_get ys) e
get_right (x ∷ xs) ys j = let e : suc (length xs) + j ≡ suc (length xs + j) = omega arith in ap (slice_get (x ∷ xs ++ ys)) e ∙ get_right xs ys j

both_lengths : (xs ys : List Ty) → length (xs ++ ys) ≡ length xs + length ys
both_lengths [] ys = omega arith
both_lengths (x ∷ xs) ys = let h = both_lengths xs ys in omega (arith, h)

get_or : (kinds : List Kind) (k : ℕ) (kind : Kind) → slice_get kinds k ≡ Some kind → slice_index_or kinds k Void ≡ kind
get_or [] k kind h = none_is_not kind h
get_or (x ∷ xs) zero kind h = some_same x kind h
get_or (x ∷ xs) (suc k) kind h = get_or xs k kind h

-- ---- rows

-- a row of types lies among others from a place on
pub record LiesIn (types : List Ty) (from : ℕ) (row : List Ty) : Type 0 where
  pub each : (j : ℕ) (ty : Ty) → slice_get row j ≡ Some ty → slice_get types (from + j) ≡ Some ty

pub lies_on : (a b c : List Ty) (i j : ℕ) → LiesIn a i b → LiesIn b j c → LiesIn a (i + j) c
lies_on a b c i j ab bc = record { each = λ k ty at. let e : (i + j) + k ≡ i + (j + k) = omega arith in ap (slice_get a) e ∙ ab.each (j + k) ty (bc.each k ty at) }

pub lies_self : (a : List Ty) → LiesIn a 0 a
lies_self a = record { each = λ k ty at. let e : 0 + k ≡ k = omega arith in ap (slice_get a) e ∙ at }

-- the leaves of one of several kinds
pub lies_placed : (leaves : Kind → List Ty) (kinds : List Kind) (k : ℕ) (kind : Kind) → slice_get kinds k ≡ Some kind → LiesIn (flat_map leaves kinds) (length (flat_map leaves (take k kinds))) (leaves kind)
lies_placed leaves [] k kind h = none_is_not kind h
lies_placed leaves (x ∷ xs) zero kind h = record {
  each = λ j ty at.
      let e : 0 + j ≡ j = omega arith in
      ap (slice_get (leaves x ++ flat_map leaves xs)) e ∙ get_left (leaves x) (flat_map leaves xs) j ty (ap (λ z. slice_get (leaves z) j) (some_same x kind h) ∙ at);
}
lies_placed leaves (x ∷ xs) (suc k) kind h = record {
  each = λ j ty at.
      let before = flat_map leaves (take k xs) in
      let l = both_lengths (leaves x) before in
      let e : length (leaves x ++ before) + j ≡ length (leaves x) + (length before + j) = omega (arith, l) in
      ap (slice_get (leaves x ++ flat_map leaves xs)) e ∙ get_right (leaves x) (flat_map leaves xs) (length before + j) ∙ (lies_placed leaves xs k kind h).each j ty at;
}

-- a row has two rows one after the other
pub lies_first : (a b : List Ty) → LiesIn (a ++ b) 0 a
lies_first a b = record { each = λ j ty at. let e : 0 + j ≡ j = omega arith in ap (slice_get (a ++ b)) e ∙ get_left a b j ty at }

pub lies_before : (types a b : List Ty) (n : ℕ) → LiesIn types n (a ++ b) → LiesIn types n a
lies_before types a b n lies = record { each = λ j ty at. lies.each j ty (get_left a b j ty at) }

pub lies_after : (types a b : List Ty) (n : ℕ) → LiesIn types n (a ++ b) → LiesIn types (n + length a) b
lies_after types a b n lies = record {
  each = λ j ty at.
      let e : (n + length a) + j ≡ n + (length a + j) = omega arith in
      ap (slice_get types) e ∙ lies.each (length a + j) ty (get_right a b j ∙ at);
}

-- ---- structures

module _ (structures : List TypedStructure) where
  -- a structure's leaves are those that it has among the structures up to itself
  leaves_own : (n m : ℕ) → m < n → leaves_below structures n m ≡ flat_map (leaves_with (leaves_below structures m)) (fields_of structures m)
  unfolding leaves_below
  leaves_own zero m lt = absurd (omega (arith, lt))
  leaves_own (suc n) m lt =
      cond_both (m == n) (flat_map (leaves_with (leaves_below structures n)) (fields_of structures n)) (leaves_below structures n m)
      (λ z. z ≡ flat_map (leaves_with (leaves_below structures m)) (fields_of structures m))
      (λ same. ap (λ k. flat_map (leaves_with (leaves_below structures k)) (fields_of structures k)) (sym (eqb-true m n same)))
      (λ other. let ne : m ≢ n = λ e. false≢true (sym other ∙ eq-eqb m n e) in leaves_own n m (omega (arith, lt, ne)))

  same_leaves : (m n p : ℕ) (kinds : List Kind) → m < suc n → m < suc p → list_all (field_fits m) kinds ≡ true → flat_map (leaves_with (leaves_below structures n)) kinds ≡ flat_map (leaves_with (leaves_below structures p)) kinds
  same_leaves m n p [] ln lp fit = refl
  same_leaves m n p (Value ty ∷ kinds) ln lp fit = ap (λ l. ty ∷ l) (same_leaves m n p kinds ln lp (and_parts (field_fits m (Value ty)) (list_all (field_fits m) kinds) fit).1)
  same_leaves m n p (Structure j ∷ kinds) ln lp fit =
      let parts = and_parts (nat_lt j m) (list_all (field_fits m) kinds) fit in
      let lt = ltb-true j m parts.0 in
      ap (λ l. l ++ flat_map (leaves_with (leaves_below structures n)) kinds) (leaves_own n j (omega (arith, lt, ln)) ∙ sym (leaves_own p j (omega (arith, lt, lp))))
      ∙ ap (λ l. leaves_below structures p j ++ l) (same_leaves m n p kinds ln lp parts.1)
  same_leaves m n p (Void ∷ kinds) ln lp fit = same_leaves m n p kinds ln lp (and_parts (field_fits m Void) (list_all (field_fits m) kinds) fit).1

  pub fit_at : (all : List TypedStructure) (n m : ℕ) → structures_fit n all ≡ true → list_all (field_fits (n + m)) (fields_of all m) ≡ true
  fit_at [] n m fit = refl
  fit_at (x ∷ all) n zero fit =
      let e : n + 0 ≡ n = omega arith in
      ap (λ k. list_all (field_fits k) x.fields) e ∙ (and_parts (list_all (field_fits n) x.fields) (structures_fit (suc n) all) fit).0
  fit_at (x ∷ all) n (suc m) fit =
      let e : n + suc m ≡ suc n + m = omega arith in
      ap (λ k. list_all (field_fits k) (fields_of all m)) e ∙ fit_at all (suc n) m (and_parts (list_all (field_fits n) x.fields) (structures_fit (suc n) all) fit).1

  there : (all : List TypedStructure) (m field : ℕ) (kind : Kind) → slice_get (fields_of all m) field ≡ Some kind → m < length all
  there [] m field kind h = none_is_not kind h
  there (x ∷ all) zero field kind h = omega arith
  there (x ∷ all) (suc m) field kind h = let r = there all m field kind h in omega (arith, r)

  module _ (fit : structures_fit 0 structures ≡ true) where
    pub leaves_inside : (m : ℕ) → m < length structures → leaves_of structures (Structure m) ≡ flat_map (leaves_of structures) (fields_of structures m)
    leaves_inside m lt =
        let e : 0 + m ≡ m = omega arith in
        leaves_own (length structures) m lt
        ∙ same_leaves m m (length structures) (fields_of structures m) (omega arith) (omega (arith, lt)) (ap (λ k. list_all (field_fits k) (fields_of structures m)) (sym e) ∙ fit_at structures 0 m fit)

    -- the leaves that fields lead to
    pub lies_led : (kind to : Kind) (fields : List ℕ) → led_to structures (Some kind) fields ≡ Some to → LiesIn (leaves_of structures kind) (leaves_before structures kind fields) (leaves_of structures to)
    unfolding leaves_before
    lies_led kind to [] h = subst (λ z. LiesIn (leaves_of structures kind) 0 (leaves_of structures z)) (some_same kind to h) (lies_self (leaves_of structures kind))
    lies_led (Value ty) to (field ∷ fields) h = none_is_not to h
    lies_led Void to (field ∷ fields) h = none_is_not to h
    lies_led (Structure m) to (field ∷ fields) h = by (λ next. lies_led next to fields) (slice_get (fields_of structures m) field) refl h
      where
        by : ((next : Kind) → led_to structures (Some next) fields ≡ Some to → LiesIn (leaves_of structures next) (leaves_before structures next fields) (leaves_of structures to))
            → (o : Option Kind) → slice_get (fields_of structures m) field ≡ o → led_to structures o fields ≡ Some to
            → LiesIn (leaves_of structures (Structure m)) (length (flat_map (leaves_of structures) (take field (fields_of structures m))) + leaves_before structures (slice_index_or (fields_of structures m) field Void) fields) (leaves_of structures to)
        by again None is g = none_is_not to g
        by again (Some next) is g =
            let all = fields_of structures m in
            let at = length (flat_map (leaves_of structures) (take field all)) in
            lies_on (leaves_of structures (Structure m)) (leaves_of structures next) (leaves_of structures to) at (leaves_before structures (slice_index_or all field Void) fields)
            (subst (λ z. LiesIn z at (leaves_of structures next)) (sym (leaves_inside m (there structures m field next is))) (lies_placed (leaves_of structures) all field next is))
            (subst (λ z. LiesIn (leaves_of structures next) (leaves_before structures z fields) (leaves_of structures to)) (sym (get_or all field next is)) (again next g))

    -- a part of a variable
    pub lies_part : (kinds : List Kind) (k : ℕ) (kind to : Kind) (fields : List ℕ) → slice_get kinds k ≡ Some kind → led_to structures (Some kind) fields ≡ Some to
        → LiesIn (flat_map (leaves_of structures) kinds) (place_of structures kinds k + leaves_before structures (kind_in kinds k) fields) (leaves_of structures to)
    lies_part kinds k kind to fields is led =
        lies_on (flat_map (leaves_of structures) kinds) (leaves_of structures kind) (leaves_of structures to) (place_of structures kinds k) (leaves_before structures (kind_in kinds k) fields)
        (lies_placed (leaves_of structures) kinds k kind is)
        (subst (λ z. LiesIn (leaves_of structures kind) (leaves_before structures z fields) (leaves_of structures to)) (sym (get_or kinds k kind is)) (lies_led kind to fields led))
