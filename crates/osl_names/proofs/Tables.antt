-- What a change of a table of names leaves at each name.
use Rattle.std.proofs.Common.{◌≡◌, ℕ, true, false, cond, List, Option, ⊎_elim, sym, ap, ◌∙◌}
use Rattle.std.specs.Prelude.{bytes_eq}
use Rattle.std.specs.Map.{lookup, KeepsOthers}
use Rattle.std.specs.Cmp.Lexicographic.{bytes_decides, nat_list_eq_equiv}
use Rattle.std.proofs.lemmas.Bool.{cases_Bool, cond-true, cond-false}

apart : (a b k : List ℕ) → bytes_eq a b ≡ false → bytes_eq a k ≡ true → bytes_eq b k ≡ false
apart a b k n y = nat_list_eq_equiv.symm b k ∙ sym (nat_list_eq_equiv.congr a k b y) ∙ n

module _ {K X : Type 0} (bytes : K → List ℕ) where
  -- a change at a name leaves what other names mean
  pub changed : (name : List ℕ) (w : Option X) (old new : List (K × X)) → lookup (λ k. bytes_eq name (bytes k)) new ≡ w
      → KeepsOthers (λ x y. bytes_eq (bytes x) (bytes y)) (λ k. bytes_eq name (bytes k)) old new
      → (other : List ℕ) → lookup (λ k. bytes_eq other (bytes k)) new ≡ cond (bytes_eq name other) w (lookup (λ k. bytes_eq other (bytes k)) old)
  unfolding KeepsOthers
  changed name w old new here keeps other =
      ⊎_elim
      (λ y. ap (λ l. lookup (λ k. bytes_eq l (bytes k)) new) (sym ((bytes_decides name other).0 y)) ∙ here ∙ sym (cond-true (bytes_eq name other) w _ y))
      (λ n. keeps (λ k. bytes_eq other (bytes k)) (λ x y. nat_list_eq_equiv.congr other (bytes x) (bytes y)) (λ k. apart name other (bytes k) n) ∙ sym (cond-false (bytes_eq name other) w _ n))
      (cases_Bool (bytes_eq name other))
