-- What the calls of this crate ask for, in the words of the table of operations.
use Rattle.std.specs.Prelude.{◌≡◌, ◌≤◌, ◌⊎◌, ℕ, Bool, true, false, ℤ, List, [], ◌∷◌, length}
use Rattle.osl_value.specs.declared.op_name.OpName.{OpName}
use Rattle.osl_value.specs.declared.op_name.OpName.TheVariants.{Dot, Cross, Length, Distance, Normalize}
use Rattle.osl_value.specs.Geometry.{dot, cross, length_of, distance, normalize}
use Rattle.osl_value.specs.Numbers.{arity}
use Rattle.osl_value.specs.Table.{table}

-- the operation takes one or two ints alone
pub record TakesInts (op : OpName) : Type 0 where
  pub some : 1 ≤ arity (table op).ints
  pub at_most_two : arity (table op).ints ≤ 2

-- it takes so many floats, component by component
abbrev pub TakesFloats : OpName → ℕ → Type 0
TakesFloats op count = arity (table op).floats ≡ count

-- a single float, which is repeated, or as many as are written
abbrev pub Suits : ℕ → ℕ → Type 0
Suits written n = (n ≡ 1) ⊎ (n ≡ written)

-- ---- geometry

abbrev pub is_geometric : OpName → Bool
is_geometric Dot = true
is_geometric Cross = true
is_geometric Length = true
is_geometric Distance = true
is_geometric Normalize = true
is_geometric _ = false

-- a triple, where the operation takes a second one
abbrev pub IsSecond : OpName → List ℤ → Type 0
IsSecond Length b = Unit
IsSecond Normalize b = Unit
IsSecond _ b = length b ≡ 3

-- the floats that the operation writes, of one triple or two
abbrev pub geometric : OpName → List ℤ → List ℤ → List ℤ
geometric Dot a b = dot a b ∷ []
geometric Cross a b = cross a b
geometric Length a b = length_of a ∷ []
geometric Distance a b = distance a b ∷ []
geometric Normalize a b = normalize a
geometric _ a b = []
