-- How words of 64 bits hold a row.
use Rattle.std.specs.Prelude.{◌≡◌, ℕ, ◌+◌, ◌/◌, ◌%◌, ◌≤◌, ◌==◌, Bool, false, List, length, map, slice_index}
use Rattle.std.specs.Int.{bit_at}
use Rattle.std.specs.List.{range_with_len}

-- bit i of the words, the lowest of each word first
abbrev pub bit_of : List ℕ → ℕ → Bool
bit_of words i = bit_at (slice_index words (i / 64)) (i % 64) == 1

-- the first n bits of the words
abbrev pub bits_of : List ℕ → ℕ → List Bool
bits_of words n = map (bit_of words) (range_with_len 0 n)

-- the words are as many as n bits need, and have no bit past the n
pub record IsRow (words : List ℕ) (n : ℕ) : Type 0 where
  pub enough : length words ≡ (n + 63) / 64
  pub past : (i : ℕ) → n ≤ i → bit_of words i ≡ false
