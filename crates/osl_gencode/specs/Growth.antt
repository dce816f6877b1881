-- Ops and symbols that are added to those that there are.
use Rattle.std.specs.Prelude.{ℕ, ◌<◌, ◌≤◌, ◌≡◌, List, length, Some, slice_get}
use Rattle.oso_code.specs.declared.op.Op.{Op}
use Rattle.oso_code.specs.declared.symbol.Symbol.{Symbol}
use Rattle.oso_code.specs.Steps.{Step, step_of}

-- the list ys begins with the elements of xs
pub record Extends {A : Type 0} (xs ys : List A) : Type 0 where
  pub longer : length xs ≤ length ys
  pub same : (k : ℕ) → k < length xs → slice_get ys k ≡ slice_get xs k

-- from the place `start` on, these steps are those of the ops
pub record Covers (symbols : List Symbol) (steps : List Step) (ops : List Op) (start : ℕ) : Type 0 where
  pub at : (k : ℕ) (op : Op) → start ≤ k → slice_get ops k ≡ Some op → slice_get steps k ≡ Some (step_of symbols k op)

-- ops and symbols were added
pub record Grows (ops0 ops1 : List Op) (syms0 syms1 : List Symbol) : Type 0 where
  pub ops : Extends ops0 ops1
  pub syms : Extends syms0 syms1
