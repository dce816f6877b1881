-- Names that are kept as a function of keys.
use Rattle.std.proofs.Common.{◌≡◌, ℕ, ◌+◌, Bool, true, false, ◌||◌, cond, List, [], ◌∷◌, ◌++◌, map, Option, Some, None, refl, sym, ap, ◌∙◌}
use Rattle.std.specs.List.{list_any, position, position_from}
use Rattle.std.specs.Str.{bytes_eq}
use Rattle.std.proofs.lemmas.Iterator.Adapters.{position_from-zero}
use Rattle.std.proofs.lemmas.List.{map-append}

-- ---- the place of a name

from_map : {K X : Type 0} (f : K → X) (test : X → Bool) (keys : List K) (at : ℕ) → position_from (λ k. test (f k)) at keys ≡ position_from test at (map f keys)
from_map f test [] at = refl
from_map f test (k ∷ keys) at = ap (λ (o : Option ℕ). cond (test (f k)) (Some at) o) (from_map f test keys (at + 1))

pub position_map : {K X : Type 0} (f : K → X) (test : X → Bool) (keys : List K) → position (λ k. test (f k)) keys ≡ position test (map f keys)
position_map f test keys = position_from-zero (λ k. test (f k)) keys ∙ from_map f test keys 0 ∙ sym (position_from-zero test (map f keys))

-- ---- a name that is new

none_from : {X : Type 0} (test : X → Bool) (xs : List X) (at : ℕ) → position_from test at xs ≡ None → list_any test xs ≡ false
none_from test [] at h = refl
none_from test (x ∷ xs) at h = go (test x) (none_from test xs (at + 1)) h
  where
    go : (t : Bool) → (position_from test (at + 1) xs ≡ None → list_any test xs ≡ false) → cond t (Some at) (position_from test (at + 1) xs) ≡ None → (t || list_any test xs) ≡ false
    go true ih k = absurd cc
    go false ih k = ih k

-- what has no place is nowhere
pub absent : {X : Type 0} (test : X → Bool) (xs : List X) → position test xs ≡ None → list_any test xs ≡ false
absent test xs h = none_from test xs 0 (sym (position_from-zero test xs) ∙ h)

pub any_map : {K X : Type 0} (f : K → X) (test : X → Bool) (keys : List K) → list_any (λ k. test (f k)) keys ≡ list_any test (map f keys)
any_map f test [] = refl
any_map f test (k ∷ keys) = ap (λ (b : Bool). test (f k) || b) (any_map f test keys)

-- it goes after the others
pub pushed_map : {K : Type 0} (f : K → List ℕ) (old new : List K) (key : K) (name : List ℕ) → list_any (bytes_eq name) (map f old) ≡ false → f key ≡ name
    → new ≡ cond (list_any (λ k. bytes_eq (f key) (f k)) old) old (old ++ key ∷ []) → map f new ≡ map f old ++ name ∷ []
pushed_map f old new key name free named grown =
    let no : list_any (λ k. bytes_eq (f key) (f k)) old ≡ false = ap (λ n. list_any (λ k. bytes_eq n (f k)) old) named ∙ any_map f (bytes_eq name) old ∙ free in
    ap (map f) (grown ∙ ap (λ (b : Bool). cond b old (old ++ key ∷ [])) no) ∙ map-append f old (key ∷ []) ∙ ap (λ (n : List ℕ). map f old ++ n ∷ []) named
