-- A piece of code that was added, as far as validity asks: its ops fit, its ranges lie in each other and not too deep, and its breaks have their loops.
use Rattle.std.specs.Prelude.{ℕ, ◌+◌, ◌<◌, ◌≤◌, ◌≡◌, ◌⊎◌, Bool, true, List, length, filter, flat_map, reverse, take, Option, Some, slice_get}
use Rattle.osl_value.specs.declared.shader_kind.ShaderKind.{ShaderKind}
use Rattle.oso_code.specs.declared.op.Op.{Op}
use Rattle.oso_code.specs.declared.symbol.Symbol.{Symbol}
use Rattle.oso_code.specs.Nesting.{IsClosed, Nests}
use Rattle.oso_code.specs.Ranges.{Ranged, ranges_of, contains}
use Rattle.oso_code.specs.Steps.{Span, Step, Compute, Branch, Loop, Call, Leave, Break, Continue, Return, Exit}
use Rattle.osl_gencode.specs.Growth.{Covers, Grows}
use Rattle.osl_gencode.specs.Validity.{Fitting}

-- ---- ranges lie in each other

-- the ops from i to m reach no further than m, and their ranges lie in each other
pub record Shaped (steps : List Step) (i m : ℕ) : Type 0 where
  pub closed : IsClosed steps i m
  pub nests : (k : ℕ) (step : Step) → i ≤ k → k < m → slice_get steps k ≡ Some step → Nests steps k step

-- ---- breaks have their loops

-- the op at j is no call whose range holds k
abbrev pub IsNoCall : ℕ → Step → Type 0
IsNoCall k (Call body) = body.end ≤ k
IsNoCall k (Compute name ty target sources) = Unit {0}
IsNoCall k (Branch c holds fails) = Unit {0}
IsNoCall k (Loop tested c test body step) = Unit {0}
IsNoCall k (Leave way) = Unit {0}

-- no op from i up to k is a call whose range holds k
pub record NoCalls (steps : List Step) (i k : ℕ) : Type 0 where
  pub each : (j : ℕ) (step : Step) → i ≤ j → j < k → slice_get steps j ≡ Some step → IsNoCall k step

-- k is in the body of the loop at `at`, which is not before i, with no call between
pub record HasLoop (steps : List Step) (i k : ℕ) : Type 0 where
  pub at : ℕ
  pub later : i ≤ at
  pub before : at < k
  pub tested : Bool
  pub condition : ℕ
  pub test : Span
  pub body : Span
  pub step : Span
  pub here : slice_get steps at ≡ Some (Loop tested condition test body step)
  pub starts : body.start ≤ k
  pub ends : k < body.end
  pub no_calls : NoCalls steps (at + 1) k

-- an op that needs a loop around it
abbrev pub NeedsLoop : Step → Type 0 → Type 0
NeedsLoop (Leave Break) T = T
NeedsLoop (Leave Continue) T = T
NeedsLoop (Leave Return) T = Unit {0}
NeedsLoop (Leave Exit) T = Unit {0}
NeedsLoop (Compute name ty target sources) T = Unit {0}
NeedsLoop (Branch c holds fails) T = Unit {0}
NeedsLoop (Loop tested c test body step) T = Unit {0}
NeedsLoop (Call body) T = Unit {0}

-- Each `break` and `continue` from i to m has a loop of the part, or may be meant for one around the part, with no call between.
abbrev pub MayLeave : List Step → (inside : Bool) → (i k : ℕ) → Type 0
MayLeave steps inside i k = HasLoop steps i k ⊎ ((inside ≡ true) × NoCalls steps i k)

pub record Leaves (steps : List Step) (inside : Bool) (i m : ℕ) : Type 0 where
  pub each : (k : ℕ) (step : Step) → i ≤ k → k < m → slice_get steps k ≡ Some step → NeedsLoop step (MayLeave steps inside i k)

-- ---- depth

-- of these ranges, how many have the place in them
abbrev pub holding : ℕ → List Ranged → ℕ
holding k rs = length (filter (contains k) rs)

-- of the ranges of the first n ops
abbrev pub depth_at : List Step → (k n : ℕ) → ℕ
depth_at steps k n = holding k (flat_map ranges_of (reverse (take n steps)))

-- an op with ranges is one deeper
abbrev pub own_depth : Step → ℕ
own_depth (Compute name ty target sources) = 0
own_depth (Branch c holds fails) = 1
own_depth (Loop tested c test body step) = 1
own_depth (Call body) = 1
own_depth (Leave way) = 0

-- within the part from i to m ranges lie at most d deep
pub record Deep (steps : List Step) (i m d : ℕ) : Type 0 where
  pub each : (k : ℕ) (step : Step) → i ≤ k → k < m → slice_get steps k ≡ Some step → depth_at steps k k + own_depth step ≤ depth_at steps k i + d

-- ---- a piece

-- the ranges of the ops from i to m: in a loop's body or not, at most d deep
pub record AreRanges (inside : Bool) (d : ℕ) (steps : List Step) (i m : ℕ) : Type 0 where
  pub shaped : Shaped steps i m
  pub leaves : Leaves steps inside i m
  pub deep : Deep steps i m d

-- The code that was added is valid where it is: in a shader of a kind, in the section of a parameter or of the body, in a loop's body or not. Its ranges are at most d deep.
pub record Piece (kind : ShaderKind) (owner : Option ℕ) (inside : Bool) (d : ℕ) (ops0 ops1 : List Op) (syms0 syms1 : List Symbol) : Type 0 where
  pub grows : Grows ops0 ops1 syms0 syms1
  pub fits : Fitting kind owner syms1 ops0 ops1
  -- whatever symbols there are later
  pub ranges : (syms : List Symbol) (steps : List Step) → Covers syms steps ops1 (length ops0) → AreRanges inside d steps (length ops0) (length ops1)
