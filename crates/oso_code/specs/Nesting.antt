-- How ranges nest: what a run of valid code can rely on.
use Rattle.std.specs.Prelude.{◌≡◌, ℕ, ◌+◌, ◌<◌, ◌≤◌, List, Some, slice_get}
use Rattle.oso_code.specs.Steps.{Span, Step, Compute, Branch, Loop, Call, Leave}

-- where the range around an op goes on after it
abbrev pub after : ℕ → Step → ℕ
after k (Compute name ty target sources) = k + 1
after k (Branch c holds fails) = fails.end
after k (Loop tested c test body step) = step.end
after k (Call body) = body.end
after k (Leave way) = k + 1

-- no op from i up to e reaches past e
pub record IsClosed (steps : List Step) (i e : ℕ) : Type 0 where
  pub ends : (k : ℕ) (step : Step) → i ≤ k → k < e → slice_get steps k ≡ Some step → after k step ≤ e

-- a range of the op at k, which the range around it passes over up to `next`
pub record IsInside (steps : List Step) (k next : ℕ) (span : Span) : Type 0 where
  pub later : k < span.start
  pub ordered : span.start ≤ span.end
  pub within : span.end ≤ next
  pub closed : IsClosed steps span.start span.end

abbrev pub Nests : List Step → ℕ → Step → Type 0
Nests steps k (Compute name ty target sources) = Unit {0}
Nests steps k (Branch c holds fails) = IsInside steps k fails.end holds × IsInside steps k fails.end fails
Nests steps k (Loop tested c test body step) =
    IsInside steps k step.end test × IsInside steps k step.end body × IsInside steps k step.end step
Nests steps k (Call body) = IsInside steps k body.end body
Nests steps k (Leave way) = Unit {0}

pub record AreNested (steps : List Step) : Type 0 where
  pub each : (k : ℕ) (step : Step) → slice_get steps k ≡ Some step → Nests steps k step

-- the ranges of the op at k lie side by side from it on: no op between it and a range's start or its end reaches past there
abbrev pub Tiles : List Step → ℕ → Step → Type 0
Tiles steps k (Compute name ty target sources) = Unit {0}
Tiles steps k (Branch c holds fails) = IsClosed steps (k + 1) holds.start × IsClosed steps (k + 1) fails.start × IsClosed steps (k + 1) fails.end
Tiles steps k (Loop tested c test body step) =
    IsClosed steps (k + 1) test.start × IsClosed steps (k + 1) body.start × IsClosed steps (k + 1) step.start × IsClosed steps (k + 1) step.end
Tiles steps k (Call body) = IsClosed steps (k + 1) body.start × IsClosed steps (k + 1) body.end
Tiles steps k (Leave way) = Unit {0}

pub record AreTiled (steps : List Step) : Type 0 where
  pub each : (k : ℕ) (step : Step) → slice_get steps k ≡ Some step → Tiles steps k step
