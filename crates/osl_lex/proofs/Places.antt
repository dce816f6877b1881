-- From the rest of a source to its places, and what stands at a place.
use Rattle.std.proofs.Common.{◌≡◌, ℕ, zero, suc, ◌+◌, ◌-◌, ◌<◌, ◌≤◌, Bool, false, List, [], ◌∷◌, length, take, drop, Some, slice_get, slice_index, refl, sym, ap, ◌∙◌, inl, inr, arith, length-drop, length-take}
use Rattle.std.proofs.lemmas.List.{get_or-drop, get_or-take, drop_more}
use Rattle.std.proofs.lemmas.Option.{slice_get-get_or, slice_get_past}
use Rattle.std.proofs.lemmas.Bool.{cases_lt}
use Rattle.osl_tree.specs.Lexical.{Stands, passes}

-- ---- the byte at a place

pub index_rest : (bytes : List ℕ) (at k : ℕ) → slice_index (drop at bytes) k ≡ slice_index bytes (at + k)
index_rest bytes at k = get_or-drop at bytes k 0

pub get_rest : (bytes : List ℕ) (at k : ℕ) → slice_get (drop at bytes) k ≡ slice_get bytes (at + k)
get_rest bytes zero k = let e : k ≡ 0 + k = omega arith in ap (slice_get bytes) e
get_rest [] (suc at) k = refl
get_rest (x ∷ xs) (suc at) k = let e : suc (at + k) ≡ suc at + k = omega arith in get_rest xs at k ∙ ap (slice_get (x ∷ xs)) e

pub get_index : (bytes : List ℕ) (k : ℕ) → k < length bytes → slice_get bytes k ≡ Some (slice_index bytes k)
get_index bytes k within = slice_get-get_or bytes k 0 within

-- A test of the byte there is a test of the byte that is read there, and fails past the end.
pub passes_within : (test : ℕ → Bool) (bytes : List ℕ) (k : ℕ) → k < length bytes → passes test (slice_get bytes k) ≡ test (slice_index bytes k)
passes_within test bytes k within = ap (passes test) (get_index bytes k within)

pub passes_past : (test : ℕ → Bool) (bytes : List ℕ) (k : ℕ) → length bytes ≤ k → passes test (slice_get bytes k) ≡ false
passes_past test bytes k past = ap (passes test) (slice_get_past bytes k past)

pub fails_there : (test : ℕ → Bool) (bytes : List ℕ) (k : ℕ) → (k < length bytes → test (slice_index bytes k) ≡ false) → passes test (slice_get bytes k) ≡ false
fails_there test bytes k fails =
    elim (cases_lt k (length bytes)) [ inl within ↦ passes_within test bytes k within ∙ fails within | inr past ↦ passes_past test bytes k past ]

-- ---- bytes that stand at a place

-- They stand there where the rest begins with them.
pub stands_rest : (bytes : List ℕ) (at : ℕ) (text : List ℕ) → Stands bytes at text → take (length text) (drop at bytes) ≡ text
stands_rest bytes at text there = let e : at + length text - at ≡ length text = omega arith in ap (λ n. take n (drop at bytes)) (sym e) ∙ there

pub rest_stands : (bytes : List ℕ) (at : ℕ) (text : List ℕ) → take (length text) (drop at bytes) ≡ text → Stands bytes at text
rest_stands bytes at text there = let e : at + length text - at ≡ length text = omega arith in ap (λ n. take n (drop at bytes)) e ∙ there

-- Each of its bytes stands where it should, and within the source.
pub index_there : (bytes : List ℕ) (at : ℕ) (text : List ℕ) (k : ℕ) → Stands bytes at text → k < length text → slice_index bytes (at + k) ≡ slice_index text k
index_there bytes at text k there within =
    sym (index_rest bytes at k) ∙ sym (get_or-take (length text) (drop at bytes) k 0 within) ∙ ap (λ (xs : List ℕ). slice_index xs k) (stands_rest bytes at text there)

pub within_there : (bytes : List ℕ) (at : ℕ) (text : List ℕ) → Stands bytes at text → 0 < length text → at + length text ≤ length bytes
within_there bytes at text there some =
    let e = ap length (stands_rest bytes at text there) in
    let f = length-take (length text) (drop at bytes) in
    let g = length-drop at bytes in
    omega arith

-- two bytes
pub record ArePair (bytes : List ℕ) (at c d : ℕ) : Type 0 where
  pub first : slice_index bytes at ≡ c
  pub second : slice_index bytes (at + 1) ≡ d
  pub within : at + 1 < length bytes

pub pair_there : (bytes : List ℕ) (at c d : ℕ) → Stands bytes at (c ∷ d ∷ []) → ArePair bytes at c d
pair_there bytes at c d there = record {
  first = let e : at + 0 ≡ at = omega arith in ap (slice_index bytes) (sym e) ∙ index_there bytes at (c ∷ d ∷ []) 0 there (omega arith);
  second = index_there bytes at (c ∷ d ∷ []) 1 there (omega arith);
  within = let w = within_there bytes at (c ∷ d ∷ []) there (omega arith) in omega arith;
}

pub pair_rest : (bytes : List ℕ) (at c d : ℕ) → ArePair bytes at c d → drop at bytes ≡ c ∷ d ∷ drop (at + 2) bytes
pair_rest bytes at c d pair =
    let e = drop_more bytes at 0 (omega arith) in
    let f = drop_more bytes (at + 1) 0 (omega arith) in
    let two : at + 1 + 1 ≡ at + 2 = omega arith in
    e ∙ ap (λ (xs : List ℕ). slice_index bytes at ∷ xs) f ∙ ap (λ (x : ℕ). x ∷ slice_index bytes (at + 1) ∷ drop (at + 1 + 1) bytes) pair.first
    ∙ ap (λ (x : ℕ). c ∷ x ∷ drop (at + 1 + 1) bytes) pair.second ∙ ap (λ n. c ∷ d ∷ drop n bytes) two

pub pair_stands : (bytes : List ℕ) (at c d : ℕ) → ArePair bytes at c d → Stands bytes at (c ∷ d ∷ [])
pair_stands bytes at c d pair = rest_stands bytes at (c ∷ d ∷ []) (ap (take 2) (pair_rest bytes at c d pair))

-- the rest, with its first byte in front
pub rest_is : (bytes : List ℕ) (at : ℕ) → at < length bytes → drop at bytes ≡ slice_index bytes at ∷ drop (at + 1) bytes
rest_is bytes at within = drop_more bytes at 0 within
