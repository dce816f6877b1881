-- Ops are taken out of code, any set of them, and jumps follow the ops that they name.
use Rattle.std.specs.Prelude.{true, ◌≡◌, ℕ, zero, suc, ◌+◌, ◌<◌, ◌≤◌, List, [], ◌∷◌, map, length, Bool, if◌then◌else◌, Some, slice_get}
use Rattle.oso_code.specs.Nesting.{IsClosed}
use Rattle.oso_code.specs.Run.{State, Sources, then_do, act}
use Rattle.oso_code.specs.Steps.{Span, span, Step, Compute, Branch, Loop, Call, Leave}
use Rattle.oso_code.specs.declared.op.Op.{Op}
use Rattle.oso_code.specs.declared.op.Section.{Section}
use Rattle.oso_code.specs.declared.raw.Raw.{Raw}
use Rattle.osl_rewrites.specs.Quiet.{quiet}

-- where the op at k goes: the number of ops below it that stay
unfoldable pub new_place : (ℕ → Bool) → ℕ → ℕ
new_place kept zero = 0
new_place kept (suc k) = new_place kept k + (if kept k then 1 else 0)

-- ---- code

-- an op, with its jumps led to where the ops that they name go
abbrev pub moved_op : (ℕ → ℕ) → Op → Op
moved_op to op = record { name = op.name; args = op.args; jumps = map to op.jumps }

-- a section, with its ends led there
abbrev pub moved_section : (ℕ → ℕ) → Section → Section
moved_section to section = record { param = section.param; start = to section.start; end = to section.end }

-- the ops that stay, moved, of a list whose first op is the one at this number
abbrev pub cut_from : (ℕ → Bool) → ℕ → List Op → List Op
cut_from kept at [] = []
cut_from kept at (op ∷ ops) = if kept at then moved_op (new_place kept) op ∷ cut_from kept (at + 1) ops else cut_from kept (at + 1) ops

-- the code without the ops that are not kept
unfoldable pub cut : (ℕ → Bool) → Raw → Raw
cut kept raw = record {
  kind = raw.kind;
  name = raw.name;
  metas = raw.metas;
  symbols = raw.symbols;
  sections = map (moved_section (new_place kept)) raw.sections;
  ops = cut_from kept 0 raw.ops;
}

-- ---- its steps

-- a span, moved
abbrev pub moved_span : (ℕ → ℕ) → Span → Span
moved_span to s = span (to s.start) (to s.end)

-- a step, with its ranges moved
abbrev pub moved : (ℕ → ℕ) → Step → Step
moved to (Compute name ty target sources) = Compute name ty target sources
moved to (Branch c holds fails) = Branch c (moved_span to holds) (moved_span to fails)
moved to (Loop tested c test body step) = Loop tested c (moved_span to test) (moved_span to body) (moved_span to step)
moved to (Call body) = Call (moved_span to body)
moved to (Leave way) = Leave way

-- a step that came from one that stayed
pub record Came (kept : ℕ → Bool) (old : List Step) (j : ℕ) (new : Step) : Type 0 where
  pub from_place : ℕ
  pub from_step : Step
  pub stayed : kept from_place ≡ true
  pub here : slice_get old from_place ≡ Some from_step
  pub there : new_place kept from_place ≡ j
  pub is : new ≡ moved (new_place kept) from_step

-- the steps that stay, moved
pub record CutSteps (kept : ℕ → Bool) (old new : List Step) : Type 0 where
  pub size : length new ≡ new_place kept (length old)
  pub there : (k : ℕ) (step : Step) → slice_get old k ≡ Some step → kept k ≡ true → slice_get new (new_place kept k) ≡ Some (moved (new_place kept) step)
  pub back : (j : ℕ) (step : Step) → slice_get new j ≡ Some step → Came kept old j step

-- a range that may be run as well
pub record RunsIn (Runs : ℕ → ℕ → Type 0) (i next : ℕ) (s : Span) : Type 0 where
  pub later : i < s.start
  pub ordered : s.start ≤ s.end
  pub within : s.end ≤ next
  pub runs : Runs s.start s.end

-- the ranges of the step at i, and what follows it up to e, may be run
abbrev pub Parts : (ℕ → ℕ → Type 0) → Step → ℕ → ℕ → Type 0
Parts Runs (Compute name ty target sources) i e = Runs (i + 1) e
Parts Runs (Branch c holds fails) i e = (fails.end ≤ e) × RunsIn Runs i fails.end holds × RunsIn Runs i fails.end fails × Runs fails.end e
Parts Runs (Loop tested c test body step) i e = (step.end ≤ e) × RunsIn Runs i step.end test × RunsIn Runs i step.end body × RunsIn Runs i step.end step × Runs step.end e
Parts Runs (Call body) i e = (body.end ≤ e) × RunsIn Runs i body.end body × Runs body.end e
Parts Runs (Leave way) i e = Unit {0}

-- an op stays, with its jumps moved
pub record Stays (old new : List Step) (to : ℕ → ℕ) (Runs : ℕ → ℕ → Type 0) (i e : ℕ) (step : Step) : Type 0 where
  pub here : slice_get old i ≡ Some step
  pub there : slice_get new (to i) ≡ Some (moved to step)
  pub one : to (i + 1) ≡ to i + 1
  pub parts : Parts Runs step i e

-- an op goes: all that it did was to run the range from l to m, and then to go on at n
pub record Goes (from : Sources) (old : List Step) (to : ℕ → ℕ) (Runs : ℕ → ℕ → Type 0) (i e : ℕ) (step : Step) (l m n : ℕ) : Type 0 where
  pub here : slice_get old i ≡ Some step
  pub later : i < l
  pub order : l ≤ m
  pub ahead : m ≤ n
  pub within : n ≤ e
  pub first : to l ≡ to i
  pub rest : to n ≡ to m
  pub inner : Runs l m
  pub outer : Runs n e
  pub does : (f : ℕ) (s : State) → act from (quiet from old f) (Some step) i e s ≡ then_do (quiet from old f l m s) (quiet from old f n e)

-- the op at i stays, or goes
pub data Fate (from : Sources) (old new : List Step) (to : ℕ → ℕ) (Runs : ℕ → ℕ → Type 0) (i e : ℕ) : Type 0 where
  Kept : (step : Step) → Stays old new to Runs i e step → Fate from old new to Runs i e
  Gone : (step : Step) (l m n : ℕ) → Goes from old to Runs i e step l m n → Fate from old new to Runs i e

-- each op of the ranges that may be run stays or goes
pub record Moves (from : Sources) (old new : List Step) (to : ℕ → ℕ) (Runs : ℕ → ℕ → Type 0) : Type 0 where
  pub rises : (i j : ℕ) → i ≤ j → to i ≤ to j
  pub closed : (i e : ℕ) → Runs i e → IsClosed new (to i) (to e)
  pub bounded : (i e : ℕ) → Runs i e → to e ≤ length new
  pub each : (i e : ℕ) → Runs i e → i < e → Fate from old new to Runs i e
