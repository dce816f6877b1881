-- What indices select is a value of its type, and so is a value with another one there.
use Rattle.std.proofs.Common.{◌≡◌, ℕ, suc, true, false, cond, List, [], ◌∷◌, length, refl, sym}
use Rattle.std.specs.Prelude.{IsTrue}
use Rattle.std.specs.List.{All}
use Rattle.std.proofs.lemmas.Bool.{cond_both}
use Rattle.std.proofs.lemmas.List.Elements.{All-nil, All-cons, All-head, All-tail}
use Rattle.osl_value.specs.declared.op_name.OpName.TheVariants.{ARef, AAssign, CompRef, CompAssign, MxCompRef, MxCompAssign}
use Rattle.osl_value.specs.declared.types.Base.TheVariants.{Float, Matrix}
use Rattle.osl_value.specs.declared.types.Ty.{Ty}
use Rattle.osl_value.specs.AnyValue.{AnyValue, is_array, element_type}
use Rattle.osl_value.specs.Apply.{apply}
use Rattle.osl_value.specs.Types.{only, is_only}
use Rattle.osl_value.specs.WellFormed.{IsValue, IsOfType}
use Rattle.osl_typed.specs.Parts.{selected, with_selected, matrix_element, with_matrix_element}
use Rattle.osl_typed.specs.Selections.{selected_type, types_on_the_way}
use Rattle.osl_welltyped.specs.Kinded.{is_type}
use Rattle.osl_typed_runs.proofs.Values.{applied, as_type, only_fits}

-- ---- the type that one index more leads to

of_element : (ty : Ty) (n : ℕ) → is_array ty ≡ true → selected_type ty (suc n) ≡ selected_type (element_type ty) n
unfolding types_on_the_way
of_element ty n is = rw is refl

of_row : (ty : Ty) → is_array ty ≡ false → is_only Matrix ty ≡ true → selected_type ty 1 ≡ ty
unfolding types_on_the_way
of_row ty flat is = rw flat (rw is refl)

of_entry : (ty : Ty) (n : ℕ) → is_array ty ≡ false → is_only Matrix ty ≡ true → selected_type ty (suc (suc n)) ≡ only Float
unfolding types_on_the_way
of_entry ty n flat is = rw flat (rw is refl)

of_component : (ty : Ty) (n : ℕ) → is_array ty ≡ false → is_only Matrix ty ≡ false → selected_type ty (suc n) ≡ only Float
unfolding types_on_the_way
of_component ty n flat is = rw flat (rw is refl)

-- ---- lists of values

pub two_values : (a b : AnyValue) → IsValue a → IsValue b → All IsValue (a ∷ b ∷ [])
two_values a b ha hb = All-cons IsValue a (b ∷ []) ha (All-cons IsValue b [] hb (All-nil IsValue))

three_values : (a b c : AnyValue) → IsValue a → IsValue b → IsValue c → All IsValue (a ∷ b ∷ c ∷ [])
three_values a b c ha hb hc = All-cons IsValue a (b ∷ c ∷ []) ha (two_values b c hb hc)

-- ---- what is selected

entry_typed : (ty : Ty) (v i : AnyValue) (is : List AnyValue) → is_array ty ≡ false → is_only Matrix ty ≡ true → IsOfType ty v → All IsValue (i ∷ is) → IsOfType (selected_type ty (suc (length is))) (matrix_element v i is)
entry_typed ty v i [] flat m h all = as_type ty (selected_type ty 1) v (sym (of_row ty flat m)) h
entry_typed ty v i (j ∷ is) flat m h all =
    let rest = All-tail IsValue i (j ∷ is) all in
    as_type (only Float) (selected_type ty (suc (suc (length is)))) (apply MxCompRef (only Float) (v ∷ i ∷ j ∷ [])) (sym (of_entry ty (length is) flat m))
    (applied MxCompRef (only Float) (v ∷ i ∷ j ∷ []) (only_fits Float) (three_values v i j h.value (All-head IsValue i (j ∷ is) all) (All-head IsValue j is rest)))

pub selected_typed : (ty : Ty) (v : AnyValue) (indices : List AnyValue) → IsOfType ty v → All IsValue indices → IsOfType (selected_type ty (length indices)) (selected ty v indices)
unfolding selected types_on_the_way
selected_typed ty v [] h all = h
selected_typed ty v (i ∷ is) h all =
    let at = two_values v i h.value (All-head IsValue i is all) in
    let rest = All-tail IsValue i is all in
    cond_both (is_array ty) (selected (element_type ty) (apply ARef (element_type ty) (v ∷ i ∷ [])) is) (cond (is_only Matrix ty) (matrix_element v i is) (apply CompRef (only Float) (v ∷ i ∷ [])))
    (IsOfType (selected_type ty (suc (length is))))
    (λ array.
    as_type (selected_type (element_type ty) (length is)) (selected_type ty (suc (length is))) _ (sym (of_element ty (length is) array))
    (selected_typed (element_type ty) (apply ARef (element_type ty) (v ∷ i ∷ [])) is (applied ARef (element_type ty) (v ∷ i ∷ []) (only_fits ty.base) at) rest))
    (λ flat. cond_both (is_only Matrix ty) (matrix_element v i is) (apply CompRef (only Float) (v ∷ i ∷ []))
    (IsOfType (selected_type ty (suc (length is))))
    (λ m. entry_typed ty v i is flat m h all)
    (λ m. as_type (only Float) (selected_type ty (suc (length is))) _ (sym (of_component ty (length is) flat m)) (applied CompRef (only Float) (v ∷ i ∷ []) (only_fits Float) at)))

-- ---- what is written

with_entry_typed : (ty : Ty) (v i : AnyValue) (is : List AnyValue) (x : AnyValue) → IsTrue (is_type ty) → IsOfType ty v → All IsValue (i ∷ is) → IsValue x → IsOfType ty (with_matrix_element ty v i is x)
with_entry_typed ty v i [] x fits h all is = h
with_entry_typed ty v i (j ∷ js) x fits h all is =
    let rest = All-tail IsValue i (j ∷ js) all in
    applied MxCompAssign ty (v ∷ i ∷ j ∷ x ∷ []) fits (All-cons IsValue v (i ∷ j ∷ x ∷ []) h.value (three_values i j x (All-head IsValue i (j ∷ js) all) (All-head IsValue j js rest) is))

pub with_selected_typed : (ty : Ty) (v : AnyValue) (indices : List AnyValue) (x : AnyValue) → IsTrue (is_type ty) → IsOfType ty v → All IsValue indices → IsOfType (selected_type ty (length indices)) x → IsOfType ty (with_selected ty v indices x)
unfolding with_selected types_on_the_way
with_selected_typed ty v [] x fits h all t = t
with_selected_typed ty v (i ∷ is) x fits h all t =
    let here = All-head IsValue i is all in
    let rest = All-tail IsValue i is all in
    let old = apply ARef (element_type ty) (v ∷ i ∷ []) in
    let element = with_selected (element_type ty) old is x in
    let new = v ∷ i ∷ element ∷ [] in
    cond_both (is_array ty) (apply AAssign ty new) (cond (is_only Matrix ty) (with_matrix_element ty v i is x) (apply CompAssign ty (v ∷ i ∷ x ∷ [])))
    (IsOfType ty)
    (λ array.
    let e = with_selected_typed (element_type ty) old is x (only_fits ty.base) (applied ARef (element_type ty) (v ∷ i ∷ []) (only_fits ty.base) (two_values v i h.value here)) rest
    (as_type (selected_type ty (suc (length is))) (selected_type (element_type ty) (length is)) x (of_element ty (length is) array) t) in
    applied AAssign ty new fits (three_values v i element h.value here e.value))
    (λ flat. cond_both (is_only Matrix ty) (with_matrix_element ty v i is x) (apply CompAssign ty (v ∷ i ∷ x ∷ []))
    (IsOfType ty)
    (λ m. with_entry_typed ty v i is x fits h all t.value)
    (λ m. applied CompAssign ty (v ∷ i ∷ x ∷ []) fits (three_values v i x h.value here t.value)))
