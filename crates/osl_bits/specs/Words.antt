-- What the calls on the words of two rows give, from one word up to another.
use Rattle.std.specs.Prelude.{◌≡◌, ℕ, ◌<◌, ◌≤◌, List, slice_index, bit_and}
use Rattle.std.specs.Int.{bit_not, w64}

-- the first word without the bits of the second
abbrev pub word_minus : ℕ → ℕ → ℕ
word_minus a b = bit_and a (bit_not w64 b)

-- the words from one place up to another became f of themselves and those across; the others stayed
pub record Combined (f : ℕ → ℕ → ℕ) (old others new : List ℕ) (from to : ℕ) : Type 0 where
  pub done : (k : ℕ) → from ≤ k → k < to → slice_index new k ≡ f (slice_index old k) (slice_index others k)
  pub below : (k : ℕ) → k < from → slice_index new k ≡ slice_index old k
  pub above : (k : ℕ) → to ≤ k → slice_index new k ≡ slice_index old k

-- the words from one place up to another are those across
abbrev pub SameWords : List ℕ → List ℕ → ℕ → ℕ → Type 0
SameWords words others from to = (k : ℕ) → from ≤ k → k < to → slice_index words k ≡ slice_index others k
