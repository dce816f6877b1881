-- A run that does not count ops: what rewritten code has in common with the code that it came from.
use Rattle.std.specs.Prelude.{ℕ, zero, suc, nat_lt, List, [], ◌∷◌, length, filter, slice_get}
use Rattle.osl_value.specs.declared.point.Point.{Point}
use Rattle.osl_layer.specs.Layer.{Inputs}
use Rattle.oso_code.specs.CodeRun.{sources_of, is_run, start_of}
use Rattle.oso_code.specs.Ranges.{steps_of}
use Rattle.oso_code.specs.Run.{State, Sources, Outcome, Next, Jumps, Spent, then_do, either, Run, act}
use Rattle.oso_code.specs.Steps.{Step}
use Rattle.oso_code.specs.declared.op.Section.{Section}
use Rattle.oso_code.specs.declared.raw.Raw.{Raw}

-- the same state, with another count
abbrev pub with_ops : ℕ → State → State
with_ops n s = record { values = s.values; turns = s.turns; reads = s.reads; ops = n }

-- the same end, with another count
abbrev pub recounted : ℕ → Outcome → Outcome
recounted n (Next s) = Next (with_ops n s)
recounted n (Jumps way s) = Jumps way (with_ops n s)
recounted n (Spent s) = Spent (with_ops n s)

-- the ops from i up to e, where n is no less than their number, with none counted
unfoldable pub quiet : Sources → List Step → ℕ → Run
quiet from steps zero i e s = Next s
quiet from steps (suc n) i e s = either (nat_lt i e) (λ s1. act from (quiet from steps n) (slice_get steps i) i e s1) Next s

-- the ops from i up to e, none counted
abbrev pub quiet_range : Sources → List Step → Run
quiet_range from steps i e s = quiet from steps (length steps) i e s

-- sections, one after another, with no op counted
abbrev pub quiet_sections : Sources → List Step → List Section → State → Outcome
quiet_sections from steps [] s = Next s
quiet_sections from steps (section ∷ sections) s = then_do (quiet_range from steps section.start section.end s) (quiet_sections from steps sections)

-- the run of a layer, with no op counted
abbrev pub quiet_layer : Raw → Inputs → Point → ℕ → Outcome
quiet_layer raw inputs point budget =
    quiet_sections (sources_of raw inputs) (steps_of raw) (filter (is_run inputs) raw.sections) (start_of raw inputs point budget)
