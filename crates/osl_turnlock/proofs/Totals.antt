-- Sums over lists that are read by `get_elem?`.
use Rattle.std.proofs.Common.{◌≡◌, ℕ, zero, suc, ◌+◌, ◌<◌, ◌≤◌, ◌≢◌, List, [], ◌∷◌, set, sum_by, sym, refl, ap, arith}
use Rattle.std.proofs.lemmas.List.Sums.{sum_by-cons}
use mathlib.Core.Option.{some, some-injective, some-ne-none}
use mathlib.Core.Logic.{dite}
use native.Mathlib.Decide.{ℕ_discrete}
use lib.ListN.{get_elem?}

module _ {A : Type 0} where
  pub sum_set : (f : A → ℕ) (l : List A) (i : ℕ) (v w : A) → get_elem? l i ≡ some v → sum_by f (set l i w) + f v ≡ sum_by f l + f w
  sum_set f [] i v w e = absurd (some-ne-none v (sym e))
  sum_set f (x ∷ xs) zero v w e = let is : f x ≡ f v = ap f (some-injective x v e) in omega (arith, sum_by-cons f x xs, sum_by-cons f w xs)
  sum_set f (x ∷ xs) (suc i) v w e = let rest = sum_set f xs i v w e in omega (arith, sum_by-cons f x xs, sum_by-cons f x (set xs i w))

  pub sum_at : (f : A → ℕ) (l : List A) (i : ℕ) (v : A) → get_elem? l i ≡ some v → f v ≤ sum_by f l
  sum_at f [] i v e = absurd (some-ne-none v (sym e))
  sum_at f (x ∷ xs) zero v e = let is : f x ≡ f v = ap f (some-injective x v e) in omega (arith, sum_by-cons f x xs)
  sum_at f (x ∷ xs) (suc i) v e = let rest = sum_at f xs i v e in omega (arith, sum_by-cons f x xs)

  pub sum_two : (f : A → ℕ) (l : List A) (i j : ℕ) (v u : A) → i ≢ j → get_elem? l i ≡ some v → get_elem? l j ≡ some u → f v + f u ≤ sum_by f l
  sum_two f [] i j v u n e d = absurd (some-ne-none v (sym e))
  sum_two f (x ∷ xs) zero zero v u n e d = absurd (n refl)
  sum_two f (x ∷ xs) zero (suc j) v u n e d = let is : f x ≡ f v = ap f (some-injective x v e) in let rest = sum_at f xs j u d in omega (arith, sum_by-cons f x xs)
  sum_two f (x ∷ xs) (suc i) zero v u n e d = let is : f x ≡ f u = ap f (some-injective x u d) in let rest = sum_at f xs i v e in omega (arith, sum_by-cons f x xs)
  sum_two f (x ∷ xs) (suc i) (suc j) v u n e d = let rest = sum_two f xs i j v u (λ p. n (ap suc p)) e d in omega (arith, sum_by-cons f x xs)

  pub sum_le : (f g : A → ℕ) (l : List A) → ((i : ℕ) (v : A) → get_elem? l i ≡ some v → f v ≤ g v) → sum_by f l ≤ sum_by g l
  sum_le f g [] h = omega arith
  sum_le f g (x ∷ xs) h = let here = h zero x refl in let rest = sum_le f g xs (λ i v e. h (suc i) v e) in omega (arith, sum_by-cons f x xs, sum_by-cons g x xs)

  pub sum_none : (f : A → ℕ) (l : List A) → ((i : ℕ) (v : A) → get_elem? l i ≡ some v → f v ≡ 0) → sum_by f l ≡ 0
  sum_none f [] h = refl
  sum_none f (x ∷ xs) h = let here = h zero x refl in let rest = sum_none f xs (λ i v e. h (suc i) v e) in omega (arith, sum_by-cons f x xs)

  -- all is in one place
  pub sum_only : (f : A → ℕ) (l : List A) (i : ℕ) (v : A) → get_elem? l i ≡ some v → ((j : ℕ) (u : A) → j ≢ i → get_elem? l j ≡ some u → f u ≡ 0) → sum_by f l ≡ f v
  sum_only f [] i v e h = absurd (some-ne-none v (sym e))
  sum_only f (x ∷ xs) zero v e h =
      let is : f x ≡ f v = ap f (some-injective x v e) in
      let rest = sum_none f xs (λ j u d. h (suc j) u (λ p. omega arith) d) in
      omega (arith, sum_by-cons f x xs)
  sum_only f (x ∷ xs) (suc i) v e h =
      let rest = sum_only f xs i v e (λ j u n d. h (suc j) u (λ p. n (omega arith)) d) in
      let here = h zero x (λ p. omega arith) refl in
      omega (arith, sum_by-cons f x xs)

  -- what is in the sum is somewhere
  pub sum_some : (f : A → ℕ) (l : List A) → 0 < sum_by f l → (i : ℕ) × (v : A) × (get_elem? l i ≡ some v) × (0 < f v)
  sum_some f [] h = absurd (omega arith)
  sum_some f (x ∷ xs) h = dite (ℕ_discrete (f x) 0)
      (λ none. let rest = sum_some f xs (omega (arith, sum_by-cons f x xs)) in (suc rest.0, rest.1, rest.2, rest.3))
      (λ here. (zero, x, refl, omega arith))
