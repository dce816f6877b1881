-- What a step of the machine did.
use Rattle.std.specs.Prelude.{◌≡◌, ◌⊎◌, ℕ, ◌+◌, ◌*◌, ◌-◌, ◌<◌, ◌≤◌, List, [], ◌∷◌, Option, Some, None, drop, length, slice_get}
use Rattle.osl_layer.specs.Layer.{Inputs, From}
use Rattle.oso_code.specs.declared.op.Section.{Section}
use Rattle.oso_code.specs.declared.raw.Raw.{Raw}
use Rattle.oso_code.specs.Ranges.{steps_of}
use Rattle.oso_code.specs.Run.{State, note, Outcome, Next, Jumps, Spent}
use Rattle.oso_code.specs.Steps as S
use Rattle.osl_interp.specs.Known.{met, Fits}
use Rattle.osl_interp.specs.Meaning.{Configuration, state_of, comes_from, meaning, pending}
use Rattle.osl_interp.specs.Ready.{Ready}
use Rattle.osl_interp.specs.declared.frame.Frame.{Frame}
use Rattle.osl_interp.specs.declared.frame.Frame.TheVariants.{Rest, Called, Test, Body, Step}
use Rattle.oso_step.specs.declared.step.LoopOp.{LoopOp}
use Rattle.osl_interp.specs.declared.frame.Mode.{Mode}
use Rattle.osl_interp.specs.declared.frame.Mode.TheVariants as M
use Rattle.oso_step.specs.declared.step.Span.{Span}
use Rattle.osl_interp.specs.declared.known.Known.TheVariants.{Waiting}
use Rattle.osl_interp.specs.declared.known.Met.TheVariants as Meets
use Rattle.osl_interp.specs.declared.stop.LayerStop.{LayerStop}
use Rattle.osl_interp.specs.declared.stop.LayerStop.TheVariants as T

-- ---- the steps that are left at most

abbrev pub size : Span → ℕ
size r = r.end - r.start

-- in a range: two for each op, one to enter it and one to leave its last range
abbrev pub here : Mode → ℕ → ℕ → ℕ
here M.Run at e = 2 * (e - at)
here M.Break at e = 0
here M.Continue at e = 0
here M.Return at e = 0

-- behind a range, turns aside
abbrev pub weight_test : LoopOp → ℕ → ℕ
weight_test l e = 1 + 2 * (e - l.step.end)

abbrev pub weight_step : LoopOp → ℕ → ℕ
weight_step l e = 1 + (2 * size l.test + weight_test l e)

abbrev pub weight : Frame → ℕ
weight (Rest r) = 1 + 2 * size r
weight (Called r) = 1 + 2 * size r
weight (Test l e) = weight_test l e
weight (Body l e) = 1 + (2 * size l.step + weight_step l e)
weight (Step l e) = weight_step l e

abbrev pub weights : List Frame → ℕ
weights [] = 0
weights (f ∷ fs) = weight f + weights fs

abbrev pub sections_weight : List Section → ℕ
sections_weight [] = 0
sections_weight (section ∷ sections) = (1 + 2 * (section.end - section.start)) + sections_weight sections

-- a turn pays for the longest way through a loop's condition, body and step
abbrev pub turn_weight : Raw → ℕ
turn_weight code = 6 * length (steps_of code) + 3

abbrev pub work : Configuration → ℕ
work c =
    (turn_weight c.code * c.turns + (here c.mode c.at c.end + weights c.frames)) + sections_weight (drop c.section c.code.sections)

-- ---- one step

-- a step that goes on keeps what the machine comes to; t says what it counts
pub record Advances (t : ℕ → ℕ) (old new : Configuration) : Type 0 where
  pub ready : Ready new
  pub code : new.code ≡ old.code
  pub inputs_stay : new.inputs ≡ old.inputs
  pub fits : (inputs : Inputs) → Fits inputs old.inputs old.values → Fits inputs new.inputs new.values
  pub same : (inputs : Inputs) → Fits inputs old.inputs old.values → (n : ℕ) → meaning inputs (t n) new ≡ meaning inputs n old
  pub less : work new < work old

-- the run has ended, but not for want of a turn or of a value, in this state
abbrev pub EndsAs : Outcome → State → Type 0
EndsAs (Next t) s = t ≡ s
EndsAs (Jumps way t) s = t ≡ s
EndsAs (Spent t) s = ⊥

-- f is the innermost frame
abbrev pub IsLast : Frame → List Frame → Type 0
IsLast f fs = slice_get fs (length fs - 1) ≡ Some f

-- the symbols that an op reads, before it does anything else
abbrev pub reads_first : S.Step → List ℕ
reads_first (S.Compute name ty target sources) = sources
reads_first (S.Branch c holds fails) = c ∷ []
reads_first (S.Loop tested c test body step) = []
reads_first (S.Call body) = []
reads_first (S.Leave way) = []

-- the machine stands at an op, which reads these
pub record IsAtOp (c : Configuration) (ks : List ℕ) : Type 0 where
  pub runs : c.mode ≡ M.Run
  pub inside : c.at < c.end
  pub step : S.Step
  pub op : slice_get (steps_of c.code) c.at ≡ Some step
  pub reads : reads_first step ≡ ks

-- the range of a loop's condition is over, and the condition is read
pub record IsAtCondition (c : Configuration) (ks : List ℕ) : Type 0 where
  pub runs : c.mode ≡ M.Run
  pub past : c.end ≤ c.at
  pub repeat : LoopOp
  pub rest : ℕ
  pub top : IsLast (Test repeat rest) c.frames
  pub reads : repeat.condition ∷ [] ≡ ks

abbrev pub ReadsNext : Configuration → List ℕ → Type 0
ReadsNext c ks = IsAtOp c ks ⊎ IsAtCondition c ks

-- the machine stands at the read of p, which was not given yet
pub record Asks (c : Configuration) (p : ℕ) : Type 0 where
  pub waits : slice_get c.inputs p ≡ Some Waiting
  -- of what it reads where it stands, p is the first that was not given, and none before it is nothing
  pub next : (ks : List ℕ) × (ReadsNext c ks × (met c.inputs ks ≡ Meets.Waiting p))
  -- whatever p is, the run notes that it was read, before anything else is noted
  pub notes : (inputs : Inputs) → Fits inputs c.inputs c.values → (s : State) → comes_from inputs c s ≡ comes_from inputs c (note p s)
  -- where p is nothing the run ends there, and has counted the op that waits
  pub stops : (inputs : Inputs) → Fits inputs c.inputs c.values → inputs p ≡ From None → (s : State) → (t : State) × (comes_from inputs c s ≡ Spent (note p t)) × (t.ops ≡ s.ops + pending c)

abbrev pub no_op : ℕ → ℕ
no_op n = n

abbrev pub one_op : ℕ → ℕ
one_op n = n + 1

-- what a step did that counts t: it goes on, or the run stops
abbrev pub StopDone : (ℕ → ℕ) → Configuration → Configuration → Option LayerStop → Type 0
StopDone t old new None = Advances t old new
StopDone t old new (Some T.Done) =
    (new ≡ old) × ((inputs : Inputs) → Fits inputs old.inputs old.values → (n : ℕ) → EndsAs (meaning inputs n old) (state_of (t n) old))
StopDone t old new (Some T.Spent) =
    (new ≡ old) × ((inputs : Inputs) → Fits inputs old.inputs old.values → (n : ℕ) → meaning inputs n old ≡ Spent (state_of (t n) old))
StopDone t old new (Some (T.Needs p)) = (new ≡ old) × Asks old p
