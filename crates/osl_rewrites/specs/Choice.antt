-- A control op with a known condition gives way to one of its ranges.
use Rattle.std.specs.Prelude.{◌≡◌, ℕ, ◌<◌, ◌≤◌, List, Bool, true, false, Some, slice_get}
use Rattle.oso_code.specs.Nesting.{after, IsClosed}
use Rattle.oso_code.specs.Run.{State, Sources, then_do, act}
use Rattle.oso_code.specs.Steps.{Step}
use Rattle.osl_rewrites.specs.Quiet.{quiet}

-- the op at p, whose ranges end at b, runs the one from l to m and nothing else
pub record Chosen (from : Sources) (old : List Step) (p l m b : ℕ) (head : Step) : Type 0 where
  pub here : slice_get old p ≡ Some head
  pub ends : after p head ≡ b
  pub later : p < l
  pub taken : l ≤ m
  pub ahead : m ≤ b
  pub inner : IsClosed old l m
  pub does : (f e : ℕ) (s : State) → act from (quiet from old f) (Some head) p e s ≡ then_do (quiet from old f l m s) (quiet from old f b e)

-- the op and its other ranges are taken out
pub record KeptChoice (kept : ℕ → Bool) (p l m b : ℕ) : Type 0 where
  pub before : (k : ℕ) → p ≤ k → k < l → kept k ≡ false
  pub past : (k : ℕ) → m ≤ k → k < b → kept k ≡ false
  pub inner : (k : ℕ) → l ≤ k → k < m → kept k ≡ true
  pub lower : (k : ℕ) → k < p → kept k ≡ true
  pub upper : (k : ℕ) → b ≤ k → kept k ≡ true
