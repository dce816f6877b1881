-- Rows of bits as sets of symbols.
use Rattle.std.specs.Prelude.{ℕ, ◌==◌, Bool, false, List, [], ◌∷◌, map, Some, None, slice_index_or}
use Rattle.std.specs.List.{list_any, range_with_len}
use Rattle.oso_code.specs.declared.op.Op.{Op}
use Rattle.oso_code.specs.Ops.{written}

-- the symbol is in the list
abbrev pub has : List ℕ → ℕ → Bool
has symbols k = list_any (λ x. x == k) symbols

-- the row of so many symbols that stands for a set
abbrev pub row_of : ℕ → (ℕ → Bool) → List Bool
row_of n set = map set (range_with_len 0 n)

-- the bit of a symbol, or false where the row has none
abbrev pub bit : List Bool → ℕ → Bool
bit row k = slice_index_or row k false

-- what an op writes, as a list
abbrev pub writes_of : Op → List ℕ
writes_of op = elim (written op) [ None ↦ [] | Some k ↦ k ∷ [] ]
