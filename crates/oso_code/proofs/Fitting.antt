-- Lists of faults that are empty: each element fits.
use Rattle.std.proofs.Common.{◌≡◌, ℕ, zero, suc, ◌+◌, List, [], ◌∷◌, ◌++◌, Option, Some, None, Bool, true, false, refl, sym, ap, ◌∙◌, subst, arith}
use Rattle.std.specs.Prelude.{slice_get, if◌then◌else◌, IsTrue}
use Rattle.oso_code.specs.declared.error.FlawKind.{FlawKind}
use Rattle.oso_code.specs.Faults.{misfits, unless, lesser, least}
use Rattle.oso_code.specs.Valid.{Flaw, first_of}

pub unless_none : (fits : Bool) (at : ℕ) → unless fits at ≡ [] → IsTrue fits
unless_none true at h = refl
unless_none false at h = absurd (cc h)

pub none_unless : (fits : Bool) (at : ℕ) → IsTrue fits → unless fits at ≡ []
none_unless true at h = refl
none_unless false at h = absurd (cc h)

pub both_none : {X : Type 0} (xs ys : List X) → xs ++ ys ≡ [] → (xs ≡ []) × (ys ≡ [])
both_none [] ys h = (refl, h)
both_none (x ∷ xs) ys h = absurd (cc h)

lesser_some : (n : ℕ) (o : Option ℕ) → lesser n o ≡ None → ⊥
lesser_some n None h = cc h
lesser_some n (Some m) h = cc h

pub least_none : (places : List ℕ) → least places ≡ None → places ≡ []
least_none [] h = refl
least_none (n ∷ ns) h = absurd (lesser_some n (least ns) h)

-- the first flaw is none: there is no fault of the kind, and none later
first_by : (kind : FlawKind) (o : Option ℕ) (later : Option Flaw) → elim o as (λ _. Option Flaw) [ None ↦ later | Some at ↦ Some (kind, at) ] ≡ None → (o ≡ None) × (later ≡ None)
first_by kind None later h = (refl, h)
first_by kind (Some at) later h = absurd (cc h)

pub first_none : (kind : FlawKind) (faults : List ℕ) (later : Option Flaw) → first_of kind faults later ≡ None → (faults ≡ []) × (later ≡ None)
first_none kind faults later h =
    let p = first_by kind (least faults) later h in
    (least_none faults p.0, p.1)

pub none_first : (kind : FlawKind) (faults : List ℕ) (later : Option Flaw) → faults ≡ [] → first_of kind faults later ≡ later
none_first kind faults later h = ap (λ fs. first_of kind fs later) h

-- ---- places

if_none : (fits : Bool) (at : ℕ) (rest : List ℕ) → (if fits then rest else at ∷ rest) ≡ [] → IsTrue fits × (rest ≡ [])
if_none true at rest h = (refl, h)
if_none false at rest h = absurd (cc h)

none_if : (fits : Bool) (at : ℕ) (rest : List ℕ) → IsTrue fits → (if fits then rest else at ∷ rest) ≡ rest
none_if true at rest h = refl
none_if false at rest h = absurd (cc h)

pub some_same : {X : Type 0} (x y : X) → Some x ≡ Some y → x ≡ y
some_same x y h = cc h

module _ {X : Type 0} (fits : ℕ → X → Bool) where
  -- the elements fit, where the first one's place is `at`
  abbrev pub EachFits : ℕ → List X → Type 0
  EachFits at xs = (k : ℕ) (x : X) → slice_get xs k ≡ Some x → IsTrue (fits (at + k) x)

  pub none_fits : (at : ℕ) (xs : List X) → misfits fits at xs ≡ [] → EachFits at xs
  none_fits at [] h k x is = absurd (cc is)
  none_fits at (y ∷ ys) h zero x is =
      let p = if_none (fits at y) at (misfits fits (at + 1) ys) h in
      let n : at + 0 ≡ at = omega arith in
      subst (λ j. IsTrue (fits j x)) (sym n) (subst (λ z. IsTrue (fits at z)) (some_same y x is) p.0)
  none_fits at (y ∷ ys) h (suc k) x is =
      let p = if_none (fits at y) at (misfits fits (at + 1) ys) h in
      let n : (at + 1) + k ≡ at + suc k = omega arith in
      subst (λ j. IsTrue (fits j x)) n (none_fits (at + 1) ys p.1 k x is)

  pub fits_none : (at : ℕ) (xs : List X) → EachFits at xs → misfits fits at xs ≡ []
  fits_none at [] h = refl
  fits_none at (y ∷ ys) h =
      let n : at + 0 ≡ at = omega arith in
      none_if (fits at y) at (misfits fits (at + 1) ys) (subst (λ j. IsTrue (fits j y)) n (h 0 y refl))
      ∙ fits_none (at + 1) ys (λ k x is. let m : at + suc k ≡ (at + 1) + k = omega arith in subst (λ j. IsTrue (fits j x)) m (h (suc k) x is))

  pub each_fits : (xs : List X) → misfits fits 0 xs ≡ [] → (k : ℕ) (x : X) → slice_get xs k ≡ Some x → IsTrue (fits k x)
  each_fits xs h k x is = let n : 0 + k ≡ k = omega arith in subst (λ j. IsTrue (fits j x)) n (none_fits 0 xs h k x is)

  pub all_fit : (xs : List X) → ((k : ℕ) (x : X) → slice_get xs k ≡ Some x → IsTrue (fits k x)) → misfits fits 0 xs ≡ []
  all_fit xs h = fits_none 0 xs (λ k x is. let n : k ≡ 0 + k = omega arith in subst (λ j. IsTrue (fits j x)) n (h k x is))
