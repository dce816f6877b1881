-- A value that waits, put among others.
use Rattle.std.proofs.Common.{◌≡◌, ℕ, zero, suc, ◌<◌, Bool, true, false, List, [], ◌∷◌, ◌++◌, length, get_or, Some, None, refl, ap, ◌∙◌, arith}
use Rattle.std.specs.Prelude.{slice_set, ◌||◌, if◌then◌else◌}
use Rattle.std.specs.List.{list_any, position}
use Rattle.std.specs.Str.{bytes_eq}
use Rattle.std.proofs.lemmas.List.Quantifiers.{position-Some}
use Rattle.osl_network.specs.Building.{Waiting, waiting_with}
use Rattle.osl_group.proofs.Named.{absent}

module _ (new : Waiting) where
  at_first : (xs : List Waiting) (i : ℕ) → i < length xs → bytes_eq new.name (get_or xs i new).name ≡ true → ((k : ℕ) → k < i → bytes_eq new.name (get_or xs k new).name ≡ false)
      → waiting_with new xs ≡ slice_set xs i new
  at_first [] i lt here before = absurd (omega (arith, lt))
  at_first (x ∷ xs) zero lt here before = ap (λ b. if b then new ∷ xs else x ∷ waiting_with new xs) here
  at_first (x ∷ xs) (suc i) lt here before =
      ap (λ b. if b then new ∷ xs else x ∷ waiting_with new xs) (before 0 (omega arith))
      ∙ ap (λ ys. x ∷ ys) (at_first xs i (omega (arith, lt)) here (λ k below. before (suc k) (omega (arith, below))))

  -- in the place of the one of its name
  pub put_at : (xs : List Waiting) (i : ℕ) → position (λ w. bytes_eq new.name w.name) xs ≡ Some i → waiting_with new xs ≡ slice_set xs i new
  put_at xs i found = let p = position-Some (λ w. bytes_eq new.name w.name) xs i new found in at_first xs i p.0 p.1 p.2

  at_end : (xs : List Waiting) → list_any (λ w. bytes_eq new.name w.name) xs ≡ false → waiting_with new xs ≡ xs ++ new ∷ []
  at_end [] free = refl
  at_end (x ∷ xs) free = go (bytes_eq new.name x.name) (at_end xs) free
    where
      go : (b : Bool) → (list_any (λ w. bytes_eq new.name w.name) xs ≡ false → waiting_with new xs ≡ xs ++ new ∷ []) → (b || list_any (λ w. bytes_eq new.name w.name) xs) ≡ false
          → (if b then new ∷ xs else x ∷ waiting_with new xs) ≡ x ∷ (xs ++ new ∷ [])
      go true ih h = absurd (cc h)
      go false ih h = ap (λ ys. x ∷ ys) (ih h)

  -- after the others where there is none
  pub put_last : (xs : List Waiting) → position (λ w. bytes_eq new.name w.name) xs ≡ None → waiting_with new xs ≡ xs ++ new ∷ []
  put_last xs none = at_end xs (absent (λ w. bytes_eq new.name w.name) xs none)
