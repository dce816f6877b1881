-- The table of calls grows by one function.
use Rattle.std.proofs.Common.{◌≡◌, ℕ, suc, ◌+◌, min, Bool, true, false, List, [], ◌∷◌, ◌++◌, length, slice_get, Some, if◌then◌else◌, refl, ap, sym, ◌∙◌, arith, add-one}
use Rattle.std.proofs.lemmas.List.{length_push}
use Rattle.std.specs.Prelude.{◌==◌}
use Rattle.osl_typed.specs.declared.shader.TypedFunction.{TypedFunction}
use Rattle.osl_typed.specs.declared.shader.TypedStructure.{TypedStructure}
use Rattle.osl_typed.specs.declared.sizes.Weight.{Weight}
use Rattle.osl_typed.specs.Measured.{cut, IsCallTable}
use Rattle.osl_typed.specs.Sizes.{one_open, or_nothing, call_weight, weight_of_call, calls_below}
use Rattle.osl_typed.proofs.LeafTables.{entry_at}

one_more : (n : ℕ) → min 17 (1 + min 17 n) ≡ min 17 (1 + n)
one_more n = omega arith

twice : (n : ℕ) → min 65537 (min 65537 n) ≡ min 65537 n
twice n = omega arith

-- one more open, of what was cut
pub opened : (w a r : Weight) → a ≡ cut w → r ≡ cut (one_open a) → r ≡ cut (one_open w)
opened w a r p q = q ∙ (λ i. cut (one_open (p i))) ∙ (λ i. record { size = twice w.size i; slots = twice w.slots i; calls = one_more w.calls i })

pub no_function : (structures : List TypedStructure) (functions : List TypedFunction) (table : List Weight) → length table ≡ 0 → IsCallTable structures functions table
unfolding calls_below
no_function structures functions [] none f = refl
no_function structures functions (x ∷ xs) none f = absurd (omega arith)

either_way : (b : Bool) (e old x y : Weight) → e ≡ cut x → old ≡ cut y → (if b then e else old) ≡ cut (if b then x else y)
either_way true e old x y p q = p
either_way false e old x y p q = q

pub one_function : (structures : List TypedStructure) (functions : List TypedFunction) (table : List Weight) (n : ℕ) (f : TypedFunction) (e : Weight)
    → IsCallTable structures functions table → length table ≡ n → slice_get functions n ≡ Some f
    → e ≡ cut (call_weight structures (calls_below structures functions (length table)) f) → IsCallTable structures functions (table ++ e ∷ [])
unfolding calls_below
one_function structures functions table n f e known long is new m =
    let more : length (table ++ e ∷ []) ≡ suc (length table) = length_push table e ∙ add-one (length table) in
    let here : Some f ≡ slice_get functions (length table) = sym (ap (slice_get functions) long ∙ is) in
    entry_at or_nothing table e m
    ∙ either_way (m == length table) e (or_nothing (slice_get table m)) _ _ (new ∙ ap (λ o. cut (weight_of_call structures (calls_below structures functions (length table)) o)) here) (known m)
    ∙ ap (λ k. cut (calls_below structures functions k m)) (sym more)
