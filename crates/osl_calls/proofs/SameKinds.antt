-- Parameters of the same kinds, one after another.
use Rattle.std.proofs.Common.{◌≡◌, ℕ, suc, ◌+◌, ◌<◌, ◌≤◌, Bool, true, false, ◌&&◌, List, [], ◌∷◌, length, drop, get_or, refl, ap, sym, ◌∙◌}
use Rattle.std.specs.Cmp.Lexicographic.{pointwise}
use Rattle.std.proofs.lemmas.List.{drop_more, drop_all}
use Rattle.osl_overload.specs.Kinds.{same_kind}
use Rattle.osl_overload.specs.declared.signature.Formal.{Formal}
use Rattle.osl_typed.specs.Typing.{formal_kinds}

abbrev pub have_same : List Formal → List Formal → Bool
have_same fs gs = pointwise same_kind (formal_kinds fs) (formal_kinds gs)

pub not_as_many : (fs gs : List Formal) → (length fs ≡ length gs → ⊥) → have_same fs gs ≡ false
not_as_many [] [] h = absurd (h refl)
not_as_many [] (g ∷ gs) h = refl
not_as_many (f ∷ fs) [] h = refl
not_as_many (f ∷ fs) (g ∷ gs) h = go (same_kind f.kind g.kind) (not_as_many fs gs (λ e. h (ap suc e)))
  where
    go : (b : Bool) → have_same fs gs ≡ false → (b && have_same fs gs) ≡ false
    go true k = k
    go false k = refl

at_place : (fs gs : List Formal) (i : ℕ) (d e : Formal) → i < length fs → i < length gs
    → have_same (drop i fs) (drop i gs) ≡ (same_kind (get_or fs i d).kind (get_or gs i e).kind && have_same (drop (i + 1) fs) (drop (i + 1) gs))
at_place fs gs i d e p q = λ j. have_same (drop_more fs i d p j) (drop_more gs i e q j)

pub same_more : (fs gs : List Formal) (i : ℕ) (d e : Formal) (whole : Bool) → i < length fs → i < length gs
    → same_kind (get_or fs i d).kind (get_or gs i e).kind ≡ true → have_same (drop i fs) (drop i gs) ≡ whole → have_same (drop (i + 1) fs) (drop (i + 1) gs) ≡ whole
same_more fs gs i d e whole p q s h = ap (λ b. b && have_same (drop (i + 1) fs) (drop (i + 1) gs)) (sym s) ∙ sym (at_place fs gs i d e p q) ∙ h

pub same_stops : (fs gs : List Formal) (i : ℕ) (d e : Formal) (whole : Bool) → i < length fs → i < length gs
    → same_kind (get_or fs i d).kind (get_or gs i e).kind ≡ false → have_same (drop i fs) (drop i gs) ≡ whole → whole ≡ false
same_stops fs gs i d e whole p q s h = sym h ∙ at_place fs gs i d e p q ∙ ap (λ b. b && have_same (drop (i + 1) fs) (drop (i + 1) gs)) s

pub same_ends : (fs gs : List Formal) (i : ℕ) (whole : Bool) → length fs ≤ i → length gs ≤ i → have_same (drop i fs) (drop i gs) ≡ whole → whole ≡ true
same_ends fs gs i whole p q h = sym h ∙ (λ j. have_same (drop_all i fs p j) (drop_all i gs q j))
