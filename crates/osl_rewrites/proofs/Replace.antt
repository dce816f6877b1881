-- An op that is replaced in place by one that does the same.
use Rattle.std.proofs.Common.{◌≡◌, ℕ, zero, suc, ⊎_elim, List, refl, ap, ◌∙◌, subst, arith}
use Rattle.std.specs.Prelude.{slice_get, nat_lt}
use Rattle.std.proofs.lemmas.Bool.{cases_lt}
use Rattle.oso_code.specs.Run.{State, Sources, Next, either, Run, act}
use Rattle.oso_code.specs.Steps.{Step}
use Rattle.osl_rewrites.specs.Quiet.{quiet}

module _ (from : Sources) (old new : List Step) (x : ℕ) (others : (k : ℕ) → (k ≡ x → ⊥) → slice_get old k ≡ slice_get new k) (here : (go : Run) (e : ℕ) (s : State) → act from go (slice_get old x) x e s ≡ act from go (slice_get new x) x e s) where
  at_place : (go : Run) (i e : ℕ) (s : State) → act from go (slice_get old i) i e s ≡ act from go (slice_get new i) i e s
  at_place go i e s =
      ⊎_elim (λ lt. ap (λ o. act from go o i e s) (others i (λ q. absurd (omega arith))))
      (λ le. ⊎_elim (λ gt. ap (λ o. act from go o i e s) (others i (λ q. absurd (omega arith))))
      (λ ge. let q : x ≡ i = omega arith in subst (λ k. act from go (slice_get old k) k e s ≡ act from go (slice_get new k) k e s) q (here go e s)) (cases_lt x i))
      (cases_lt i x)

  pub replaced : (f i e : ℕ) (s : State) → quiet from old f i e s ≡ quiet from new f i e s
  unfolding quiet
  replaced zero i e s = refl
  replaced (suc f) i e s =
      (λ j. either (nat_lt i e) (λ s1. act from (λ x y t. replaced f x y t j) (slice_get old i) i e s1) Next s)
      ∙ ap (λ g. either (nat_lt i e) g Next s) (λ j s1. at_place (quiet from new f) i e s1 j)
