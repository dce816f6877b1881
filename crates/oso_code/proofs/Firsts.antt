-- The first place at fault: each element before it fits.
use Rattle.std.proofs.Common.{◌≡◌, ℕ, zero, suc, ◌+◌, ◌<◌, ◌≤◌, ⊎_elim, min, List, [], ◌∷◌, length, Option, Some, None, Bool, true, false, refl, sym, ap, ◌∙◌, subst, arith}
use Rattle.std.specs.Prelude.{slice_get, slice_index_or, if◌then◌else◌, IsTrue}
use Rattle.std.proofs.lemmas.Bool.{cases_lt}
use Rattle.std.proofs.lemmas.Option.{slice_get-get_or, slice_get_within}
use Rattle.oso_code.specs.Faults.{misfits, lesser, least}
use Rattle.oso_code.proofs.Fitting.{some_same, all_fit}

-- the least of the places is no less than n
abbrev pub FromOn : ℕ → Option ℕ → Type 0
FromOn n None = Unit {0}
FromOn n (Some m) = n ≤ m

lesser_from : (n m : ℕ) (o : Option ℕ) → n ≤ m → FromOn n o → FromOn n (lesser m o)
lesser_from n m None le h = le
lesser_from n m (Some k) le h = omega (arith, le, h)

from_less : (n m : ℕ) (o : Option ℕ) → n ≤ m → FromOn m o → FromOn n o
from_less n m None le h = tt
from_less n m (Some k) le h = omega (arith, le, h)

lesser_first : (n : ℕ) (o : Option ℕ) → FromOn n o → lesser n o ≡ Some n
lesser_first n None h = refl
lesser_first n (Some m) h = let e : min n m ≡ n = omega (arith, h) in ap Some e

-- the least of the places is below n
abbrev pub Below : ℕ → Option ℕ → Type 0
Below n None = Unit {0}
Below n (Some m) = m < n

lesser_below : (n m : ℕ) (o : Option ℕ) → m < n → Below n (lesser m o)
lesser_below n m None lt = lt
lesser_below n m (Some k) lt = omega (arith, lt)

below_less : (n m : ℕ) (o : Option ℕ) → m ≤ n → Below m o → Below n o
below_less n m None le h = tt
below_less n m (Some k) le h = omega (arith, le, h)

module _ {X : Type 0} (fits : ℕ → X → Bool) where
  misfits_from : (at : ℕ) (xs : List X) → FromOn at (least (misfits fits at xs))
  misfits_from at [] = tt
  misfits_from at (x ∷ xs) = by (fits at x) (misfits_from (at + 1) xs)
    where
      by : (b : Bool) → FromOn (at + 1) (least (misfits fits (at + 1) xs)) → FromOn at (least (if b then misfits fits (at + 1) xs else at ∷ misfits fits (at + 1) xs))
      by true h = from_less at (at + 1) (least (misfits fits (at + 1) xs)) (omega arith) h
      by false h = lesser_from at at (least (misfits fits (at + 1) xs)) (omega arith) (from_less at (at + 1) (least (misfits fits (at + 1) xs)) (omega arith) h)

  -- the elements before the k-th fit
  abbrev pub FitsBelow : ℕ → List X → ℕ → Type 0
  FitsBelow at xs k = (j : ℕ) (x : X) → j < k → slice_get xs j ≡ Some x → IsTrue (fits (at + j) x)

  if_fits : (b : Bool) (at : ℕ) (rest : List ℕ) → IsTrue b → least (if b then rest else at ∷ rest) ≡ least rest
  if_fits true at rest h = refl
  if_fits false at rest h = absurd (cc h)

  if_not : (b : Bool) (at : ℕ) (rest : List ℕ) → b ≡ false → FromOn (at + 1) (least rest) → least (if b then rest else at ∷ rest) ≡ Some at
  if_not true at rest h from = absurd (cc h)
  if_not false at rest h from = lesser_first at (least rest) (from_less at (at + 1) (least rest) (omega arith) from)

  pub misfit_at : (at : ℕ) (xs : List X) (k : ℕ) (x : X) → FitsBelow at xs k → slice_get xs k ≡ Some x → fits (at + k) x ≡ false → least (misfits fits at xs) ≡ Some (at + k)
  misfit_at at [] k x below is h = absurd (cc is)
  misfit_at at (y ∷ ys) zero x below is h =
      let n : at + 0 ≡ at = omega arith in
      let b : fits at y ≡ false = subst (λ z. fits at z ≡ false) (sym (some_same y x is)) (subst (λ j. fits j x ≡ false) n h) in
      if_not (fits at y) at (misfits fits (at + 1) ys) b (misfits_from (at + 1) ys) ∙ ap Some (sym n)
  misfit_at at (y ∷ ys) (suc k) x below is h =
      let n : at + 0 ≡ at = omega arith in
      let m : at + suc k ≡ (at + 1) + k = omega arith in
      if_fits (fits at y) at (misfits fits (at + 1) ys) (subst (λ j. IsTrue (fits j y)) n (below 0 y (omega arith) refl))
      ∙ misfit_at (at + 1) ys k x (λ j z lt js. let e : at + suc j ≡ (at + 1) + j = omega arith in subst (λ i. IsTrue (fits i z)) e (below (suc j) z (omega arith) js)) is (subst (λ j. fits j x ≡ false) m h)
      ∙ ap Some (sym m)

  -- of places from 0 on
  pub first_misfit : (xs : List X) (k : ℕ) (x : X) → ((j : ℕ) (y : X) → j < k → slice_get xs j ≡ Some y → IsTrue (fits j y)) → slice_get xs k ≡ Some x → fits k x ≡ false → least (misfits fits 0 xs) ≡ Some k
  first_misfit xs k x below is h =
      let n : k ≡ 0 + k = omega arith in
      misfit_at 0 xs k x (λ j y lt js. let e : j ≡ 0 + j = omega arith in subst (λ i. IsTrue (fits i y)) e (below j y lt js)) is (subst (λ j. fits j x ≡ false) n h)
      ∙ ap Some (sym n)

  -- ---- a walk: the elements that it passed fit

  abbrev pub FitTo : List X → ℕ → Type 0
  FitTo xs k = (j : ℕ) (x : X) → j < k → slice_get xs j ≡ Some x → IsTrue (fits j x)

  there : (xs : List X) (k : ℕ) (x : X) → k < length xs → x ≡ slice_index_or xs k x → slice_get xs k ≡ Some x
  there xs k x lt is = slice_get-get_or xs k x lt ∙ ap Some (sym is)

  pub stops_here : (xs : List X) (k : ℕ) (x : X) → FitTo xs k → k < length xs → x ≡ slice_index_or xs k x → fits k x ≡ false → Some k ≡ least (misfits fits 0 xs)
  stops_here xs k x passed lt is h = sym (first_misfit xs k x passed (there xs k x lt is) h)

  pub goes_on : (xs : List X) (k : ℕ) (x : X) → FitTo xs k → k < length xs → x ≡ slice_index_or xs k x → IsTrue (fits k x) → FitTo xs (k + 1)
  goes_on xs k x passed lt is h j y below at =
      ⊎_elim (λ (lower : j < k). passed j y lower at) (λ (above : k ≤ j).
      let e : j ≡ k = omega (arith, below, above) in
      let same = some_same x y (sym (there xs k x lt is) ∙ ap (slice_get xs) (sym e) ∙ at) in
      subst (λ i. IsTrue (fits i y)) (sym e) (subst (λ z. IsTrue (fits k z)) same h)) (cases_lt j k)

  pub all_fit_to : (xs : List X) (k : ℕ) → FitTo xs k → length xs ≤ k → None ≡ least (misfits fits 0 xs)
  all_fit_to xs k passed le = sym (ap least (all_fit fits xs (λ j x at. let lt = slice_get_within xs j x at in passed j x (omega (arith, lt, le)) at)))

  -- where the first k fit, the first fault is from k on
  from_there : (at : ℕ) (xs : List X) (k : ℕ) → FitsBelow at xs k → FromOn (at + k) (least (misfits fits at xs))
  from_there at [] k below = tt
  from_there at (y ∷ ys) zero below = from_less (at + 0) at (least (misfits fits at (y ∷ ys))) (omega arith) (misfits_from at (y ∷ ys))
  from_there at (y ∷ ys) (suc k) below =
      let n : at + 0 ≡ at = omega arith in
      let first = if_fits (fits at y) at (misfits fits (at + 1) ys) (subst (λ j. IsTrue (fits j y)) n (below 0 y (omega arith) refl)) in
      subst (FromOn (at + suc k)) (sym first)
      (from_less (at + suc k) ((at + 1) + k) (least (misfits fits (at + 1) ys)) (omega arith)
      (from_there (at + 1) ys k (λ j z lt js. let e : at + suc j ≡ (at + 1) + j = omega arith in subst (λ i. IsTrue (fits i z)) e (below (suc j) z (omega arith) js))))

  pub fit_from : (xs : List X) (k : ℕ) → FitTo xs k → FromOn k (least (misfits fits 0 xs))
  fit_from xs k passed =
      from_less k (0 + k) (least (misfits fits 0 xs)) (omega arith)
      (from_there 0 xs k (λ j x lt js. let e : j ≡ 0 + j = omega arith in subst (λ i. IsTrue (fits i x)) e (passed j x lt js)))

  -- each place at fault is that of an element
  within_there : (at : ℕ) (xs : List X) → Below (at + length xs) (least (misfits fits at xs))
  within_there at [] = tt
  within_there at (x ∷ xs) = by (fits at x) (within_there (at + 1) xs)
    where
      by : (b : Bool) → Below ((at + 1) + length xs) (least (misfits fits (at + 1) xs)) → Below (at + length (x ∷ xs)) (least (if b then misfits fits (at + 1) xs else at ∷ misfits fits (at + 1) xs))
      by true h = below_less (at + length (x ∷ xs)) ((at + 1) + length xs) (least (misfits fits (at + 1) xs)) (omega arith) h
      by false h = lesser_below (at + length (x ∷ xs)) at (least (misfits fits (at + 1) xs)) (omega arith)

  pub misfits_within : (xs : List X) → Below (length xs) (least (misfits fits 0 xs))
  misfits_within xs = below_less (length xs) (0 + length xs) (least (misfits fits 0 xs)) (omega arith) (within_there 0 xs)
