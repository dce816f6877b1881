-- Leaves that are read have their types, and states stay typed where leaves and global variables of their types are written.
use Rattle.std.proofs.Common.{◌≡◌, ℕ, zero, suc, ◌+◌, Bool, true, false, List, [], ◌∷◌, ◌++◌, length, map, take, drop, Some, refl, sym, ap, ◌∙◌, subst, arith}
use Rattle.std.specs.Prelude.{slice_get, if◌then◌else◌, ◌==◌}
use Rattle.std.proofs.lemmas.Bool.{eqb-true}
use Rattle.std.proofs.lemmas.List.{map-append}
use Rattle.std.proofs.lemmas.List.Elements.{All-nil, All-cons, All-head, All-tail, All-append, All-take, All-drop}
use Rattle.osl_value.specs.declared.types.Ty.{Ty}
use Rattle.osl_value.specs.AnyValue.{AnyValue, type_of}
use Rattle.osl_value.specs.WellFormed.{IsValue, IsOfType}
use Rattle.osl_layer.specs.Globals.{type_of_global}
use Rattle.osl_layer.specs.declared.global.GlobalName.{GlobalName}
use Rattle.osl_layer.specs.declared.global.GlobalName.TheVariants.{P, N, Ng, I, U, V, Ci}
use Rattle.osl_typed.specs.State.{Environment, Globals, leaves_at, with_leaves, same_global, with_global}
use Rattle.osl_welltyped.proofs.Steps.{none_is_not, some_same}
use Rattle.osl_typed_runs.specs.Typed.{AreOfTypes, LeavesHaveTypes, GlobalsHaveTypes}
use Rattle.osl_typed_runs.proofs.LeafRows.{LiesIn}
use Rattle.osl_typed_runs.proofs.Values.{as_type}

-- ---- rows of values

pub no_values : AreOfTypes [] []
no_values = record { values = All-nil IsValue; types = refl }

pub one_value : (ty : Ty) (v : AnyValue) → IsOfType ty v → AreOfTypes (ty ∷ []) (v ∷ [])
one_value ty v h = record { values = All-cons IsValue v [] h.value (All-nil IsValue); types = ap (λ t. t ∷ []) h.type }

pub one_more : (ty : Ty) (types : List Ty) (v : AnyValue) (vs : List AnyValue) → IsOfType ty v → AreOfTypes types vs → AreOfTypes (ty ∷ types) (v ∷ vs)
one_more ty types v vs h are = record { values = All-cons IsValue v vs h.value are.values; types = ap (λ t. t ∷ map type_of vs) h.type ∙ ap (λ l. ty ∷ l) are.types }

pub first_value : (ty : Ty) (types : List Ty) (v : AnyValue) (vs : List AnyValue) → AreOfTypes (ty ∷ types) (v ∷ vs) → IsOfType ty v
first_value ty types v vs are = let e : type_of v ∷ map type_of vs ≡ ty ∷ types = are.types in record { value = All-head IsValue v vs are.values; type = cc e }

pub other_values : (ty : Ty) (types : List Ty) (v : AnyValue) (vs : List AnyValue) → AreOfTypes (ty ∷ types) (v ∷ vs) → AreOfTypes types vs
other_values ty types v vs are = let e : type_of v ∷ map type_of vs ≡ ty ∷ types = are.types in record { values = All-tail IsValue v vs are.values; types = cc e }

pub both_rows : (types others : List Ty) (vs ws : List AnyValue) → AreOfTypes types vs → AreOfTypes others ws → AreOfTypes (types ++ others) (vs ++ ws)
both_rows types others vs ws a b = record {
  values = All-append IsValue vs ws a.values b.values;
  types = map-append type_of vs ws ∙ ap (λ l. l ++ map type_of ws) a.types ∙ ap (λ l. types ++ l) b.types;
}

dropped : (types : List Ty) (vs : List AnyValue) (n : ℕ) → map type_of vs ≡ types → map type_of (drop n vs) ≡ drop n types
dropped types vs zero h = h
dropped types [] (suc n) h = ap (drop (suc n)) h
dropped types (v ∷ vs) (suc n) h = dropped (map type_of vs) vs n refl ∙ ap (drop (suc n)) h

pub row_dropped : (types : List Ty) (vs : List AnyValue) (n : ℕ) → AreOfTypes types vs → AreOfTypes (drop n types) (drop n vs)
row_dropped types vs n are = record { values = All-drop IsValue n vs are.values; types = dropped types vs n are.types }

-- ---- reading

pub leaves_typed : (vars : Environment) (at : ℕ) (row : List Ty) → ((k : ℕ) (ty : Ty) → slice_get row k ≡ Some ty → IsOfType ty (vars (at + k))) → AreOfTypes row (leaves_at vars at (length row))
unfolding leaves_at
leaves_typed vars at [] h = no_values
leaves_typed vars at (t ∷ row) h =
    let e : at + 0 ≡ at = omega arith in
    one_more t row (vars at) (leaves_at vars (at + 1) (length row)) (subst (λ z. IsOfType t (vars z)) e (h 0 t refl))
    (leaves_typed vars (at + 1) row (λ k ty is. let q : at + suc k ≡ (at + 1) + k = omega arith in subst (λ z. IsOfType ty (vars z)) q (h (suc k) ty is)))

pub row_held : (types row : List Ty) (vars : Environment) (at : ℕ) → LeavesHaveTypes types vars → LiesIn types at row → AreOfTypes row (leaves_at vars at (length row))
row_held types row vars at have lies = leaves_typed vars at row (λ k ty is. have.each (at + k) ty (lies.each k ty is))

-- a part of a row of values
taken : (vs : List AnyValue) (n : ℕ) → map type_of (take n vs) ≡ take n (map type_of vs)
taken vs zero = refl
taken [] (suc n) = refl
taken (v ∷ vs) (suc n) = ap (λ l. type_of v ∷ l) (taken vs n)

first_row : (types row : List Ty) → LiesIn types 0 row → take (length row) types ≡ row
first_row types [] lies = refl
first_row [] (t ∷ row) lies = none_is_not t (lies.each 0 t refl)
first_row (x ∷ types) (t ∷ row) lies =
    ap (λ z. z ∷ take (length row) types) (some_same x t (lies.each 0 t refl))
    ∙ ap (λ l. t ∷ l) (first_row types row (record { each = λ j ty at. let e : suc (0 + j) ≡ 0 + suc j = omega arith in ap (slice_get (x ∷ types)) e ∙ lies.each (suc j) ty at }))

row_taken : (types row : List Ty) (n : ℕ) → LiesIn types n row → take (length row) (drop n types) ≡ row
row_taken types row zero lies = first_row types row lies
row_taken [] [] (suc n) lies = refl
row_taken [] (t ∷ row) (suc n) lies = none_is_not t (lies.each 0 t refl)
row_taken (x ∷ types) row (suc n) lies = row_taken types row n (record { each = λ j ty at. let e : suc (n + j) ≡ suc n + j = omega arith in ap (slice_get (x ∷ types)) e ∙ lies.each j ty at })

pub part_typed : (types row : List Ty) (vs : List AnyValue) (n : ℕ) → AreOfTypes types vs → LiesIn types n row → AreOfTypes row (take (length row) (drop n vs))
part_typed types row vs n are lies =
    let d = row_dropped types vs n are in
    record { values = All-take IsValue (length row) (drop n vs) d.values; types = taken (drop n vs) (length row) ∙ ap (take (length row)) d.types ∙ row_taken types row n lies }

-- ---- writing

pub row_written : (types row : List Ty) (vs : List AnyValue) (vars : Environment) (at : ℕ) → LeavesHaveTypes types vars → AreOfTypes row vs → LiesIn types at row → LeavesHaveTypes types (with_leaves at vs vars)
unfolding with_leaves
row_written types row [] vars at have are lies = have
row_written types [] (v ∷ vs) vars at have are lies = let e : type_of v ∷ map type_of vs ≡ [] = are.types in absurd (cc e)
row_written types (t ∷ row) (v ∷ vs) vars at have are lies =
    let rest = row_written types row vs vars (at + 1) have (other_values t row v vs are) (record { each = λ j ty is. let e : (at + 1) + j ≡ at + suc j = omega arith in ap (slice_get types) e ∙ lies.each (suc j) ty is }) in
    record { each = λ k ty is. by rest k ty is (k == at) refl }
  where
    by : LeavesHaveTypes types (with_leaves (at + 1) vs vars) → (k : ℕ) (ty : Ty) → slice_get types k ≡ Some ty → (b : Bool) → (k == at) ≡ b → IsOfType ty (if b then v else with_leaves (at + 1) vs vars k)
    by rest k ty is true same =
        let e : at + 0 ≡ at = omega arith in
        as_type t ty v (some_same t ty (sym (lies.each 0 t refl) ∙ ap (slice_get types) (e ∙ sym (eqb-true k at same)) ∙ is)) (first_value t row v vs are)
    by rest k ty is false other = rest.each k ty is

same_global-true : (g h : GlobalName) → same_global g h ≡ true → g ≡ h
same_global-true P P e = refl
same_global-true N N e = refl
same_global-true Ng Ng e = refl
same_global-true I I e = refl
same_global-true U U e = refl
same_global-true V V e = refl
same_global-true Ci Ci e = refl
same_global-true _ _ e = absurd (cc e)

pub global_written : (g : GlobalName) (v : AnyValue) (globals : Globals) → GlobalsHaveTypes globals → IsOfType (type_of_global g) v → GlobalsHaveTypes (with_global g v globals)
global_written g v globals are is = record { each = λ h. by h (same_global h g) refl }
  where
    by : (h : GlobalName) (b : Bool) → same_global h g ≡ b → IsOfType (type_of_global h) (if b then v else globals h)
    by h true same = as_type (type_of_global g) (type_of_global h) v (ap type_of_global (sym (same_global-true h g same))) is
    by h false other = are.each h
