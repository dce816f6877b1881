-- Leaves added up, and tables that grow by one entry.
use Rattle.std.proofs.Common.{◌≡◌, ℕ, zero, suc, ◌+◌, ◌<◌, ◌≤◌, min, Bool, true, false, List, [], ◌∷◌, ◌++◌, length, get_or, drop, slice_get, Option, Some, None, if◌then◌else◌, refl, ap, sym, ◌∙◌, arith, length-append, add-one}
use Rattle.std.proofs.lemmas.Bool.Decides.{nat_tests}
use Rattle.std.proofs.lemmas.List.{drop_more, drop_all, length_push}
use Rattle.std.proofs.lemmas.List.Sums.{sum_by-append}
use Rattle.std.specs.List.{flat_map}
use Rattle.std.specs.Prelude.{◌==◌, sum_by}
use Rattle.osl_value.specs.declared.types.Ty.{Ty}
use Rattle.osl_typed.specs.declared.sizes.Leaves.{Leaves}
use Rattle.osl_typed.specs.declared.shader.TypedStructure.{TypedStructure}
use Rattle.osl_typed.specs.Frames.{fields_of, leaves_with, leaves_below}
use Rattle.osl_typed.specs.Measured.{leaves_sum, shortened, leaves_or_none, IsLeafTable}
use Rattle.osl_value.specs.Types.{slot_count}

same_leaves : (a b : Leaves) → a.count ≡ b.count → a.slots ≡ b.slots → a ≡ b
same_leaves a b p q = λ i. record { count = p i; slots = q i }

both_stopped : (a b : ℕ) → min 65537 (min 65537 a + min 65537 b) ≡ min 65537 (a + b)
both_stopped a b = omega arith

regrouped : (a b c : ℕ) → min 65537 (min 65537 (a + b) + c) ≡ min 65537 (a + min 65537 (b + c))
regrouped a b c = omega arith

with_zero : (a b : ℕ) → min 65537 (min 65537 (a + b) + 0) ≡ min 65537 (a + b)
with_zero a b = omega arith

pub shortened_sum : (xs ys : List Ty) → leaves_sum (shortened xs) (shortened ys) ≡ shortened (xs ++ ys)
shortened_sum xs ys = same_leaves _ _
    (both_stopped (length xs) (length ys) ∙ ap (min 65537) (sym (length-append xs ys)))
    (both_stopped (sum_by slot_count xs) (sum_by slot_count ys) ∙ ap (min 65537) (sym (sum_by-append slot_count xs ys)))

pub sums_regrouped : (a b c : Leaves) → leaves_sum (leaves_sum a b) c ≡ leaves_sum a (leaves_sum b c)
sums_regrouped a b c = same_leaves _ _ (regrouped a.count b.count c.count) (regrouped a.slots b.slots c.slots)

pub stays_small : (a b : Leaves) → leaves_sum (leaves_sum a b) (record { count = 0; slots = 0 }) ≡ leaves_sum a b
stays_small a b = same_leaves _ _ (with_zero a.count b.count) (with_zero a.slots b.slots)

pub one_leaf : {A : Type 0} (f : A → List Ty) (xs : List A) (i : ℕ) (x : A) (sum part new whole : Leaves)
    → i < length xs → get_or xs i x ≡ x → part ≡ shortened (f x) → new ≡ leaves_sum sum part
    → leaves_sum sum (shortened (flat_map f (drop i xs))) ≡ whole → leaves_sum new (shortened (flat_map f (drop (i + 1) xs))) ≡ whole
one_leaf f xs i x sum part new whole within is p q h =
    (λ k. leaves_sum (q k) (shortened (flat_map f (drop (i + 1) xs))))
    ∙ sums_regrouped sum part (shortened (flat_map f (drop (i + 1) xs)))
    ∙ (λ k. leaves_sum sum (leaves_sum (p k) (shortened (flat_map f (drop (i + 1) xs)))))
    ∙ ap (leaves_sum sum) (shortened_sum (f x) (flat_map f (drop (i + 1) xs)))
    ∙ ap (λ y. leaves_sum sum (shortened (f y ++ flat_map f (drop (i + 1) xs)))) (sym is)
    ∙ ap (λ ys. leaves_sum sum (shortened (flat_map f ys))) (sym (drop_more xs i x within)) ∙ h

pub no_leaf : {A : Type 0} (f : A → List Ty) (xs : List A) (i : ℕ) (sum whole : Leaves)
    → length xs ≤ i → leaves_sum sum (record { count = 0; slots = 0 }) ≡ sum
    → leaves_sum sum (shortened (flat_map f (drop i xs))) ≡ whole → sum ≡ whole
no_leaf f xs i sum whole past small h = sym small ∙ ap (λ ys. leaves_sum sum (shortened (flat_map f ys))) (sym (drop_all i xs past)) ∙ h

-- ---- tables

same_test : (m n : ℕ) → (suc m == suc n) ≡ (m == n)
same_test m n = grind (arith, nat_tests)

no_test : (m : ℕ) → (suc m == 0) ≡ false
no_test m = grind (arith, nat_tests)

other_test : (n : ℕ) → (0 == suc n) ≡ false
other_test n = grind (arith, nat_tests)

-- the entry at a place of a table with one more
pub entry_at : {X : Type 0} (entry : Option X → X) (table : List X) (e : X) (m : ℕ)
    → entry (slice_get (table ++ e ∷ []) m) ≡ (if m == length table then entry (Some e) else entry (slice_get table m))
entry_at entry [] e zero = refl
entry_at entry [] e (suc m) = rw (no_test m) refl
entry_at entry (x ∷ xs) e zero = rw (other_test (length xs)) refl
entry_at entry (x ∷ xs) e (suc m) = entry_at entry xs e m ∙ ap (λ b. if b then entry (Some e) else entry (slice_get xs m)) (sym (same_test m (length xs)))

-- the table of no structure
pub no_structure : (structures : List TypedStructure) (table : List Leaves) → length table ≡ 0 → IsLeafTable structures table
unfolding leaves_below
no_structure structures [] none m = refl
no_structure structures (x ∷ xs) none m = absurd (omega arith)

either_way : (b : Bool) (e old : Leaves) (xs ys : List Ty) → e ≡ shortened xs → old ≡ shortened ys → (if b then e else old) ≡ shortened (if b then xs else ys)
either_way true e old xs ys p q = p
either_way false e old xs ys p q = q

fields_at : (structures : List TypedStructure) (n : ℕ) (s : TypedStructure) → slice_get structures n ≡ Some s → s.fields ≡ fields_of structures n
fields_at structures n s e = ap (λ o. elim o [ None ↦ [] | Some structure ↦ structure.fields ]) (sym e)

-- and one more
pub one_structure : (structures : List TypedStructure) (table : List Leaves) (n : ℕ) (s : TypedStructure) (e : Leaves)
    → IsLeafTable structures table → length table ≡ n → slice_get structures n ≡ Some s
    → e ≡ shortened (flat_map (leaves_with (leaves_below structures (length table))) s.fields) → IsLeafTable structures (table ++ e ∷ [])
unfolding leaves_below
one_structure structures table n s e known long is new m =
    let more : length (table ++ e ∷ []) ≡ suc (length table) = length_push table e ∙ add-one (length table) in
    let here : s.fields ≡ fields_of structures (length table) = fields_at structures (length table) s (ap (slice_get structures) long ∙ is) in
    entry_at leaves_or_none table e m
    ∙ either_way (m == length table) e (leaves_or_none (slice_get table m)) _ _ (new ∙ ap (λ fs. shortened (flat_map (leaves_with (leaves_below structures (length table))) fs)) here) (known m)
    ∙ ap (λ k. shortened (leaves_below structures k m)) (sym more)
