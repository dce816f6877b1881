-- What holds of all valid code.
use Rattle.std.specs.Prelude.{◌≡◌, ℕ, ◌≤◌, List, Some, length, slice_get}
use Rattle.osl_value.specs.declared.point.Point.{Point}
use Rattle.osl_value.specs.WellFormed.{IsPoint}
use Rattle.osl_layer.specs.Layer.{Inputs, AreInputs, LayerResults}
use Rattle.oso_code.specs.declared.op.Op.{Op}
use Rattle.oso_code.specs.declared.op.Section.{Section}
use Rattle.oso_code.specs.declared.raw.Raw.{Raw}
use Rattle.oso_code.specs.CodeRun.{parameters_of, sources_of, start_of, run_sections, layer_run, code_run}
use Rattle.oso_code.specs.Lasting.{Keeps}
use Rattle.oso_code.specs.Nesting.{IsClosed, AreNested, AreTiled}
use Rattle.oso_code.specs.Ranges.{steps_of}
use Rattle.oso_code.specs.Run.{Sources, last, Run, act, run}
use Rattle.oso_code.specs.Steps.{step_of}
use Rattle.oso_code.specs.Typed.{IsTyped, TypedSources, AreTyped, AreResults}
use Rattle.oso_code.specs.Uses.{UsesAs}
use Rattle.oso_code.specs.Valid.{IsValid}

-- ---- ranges

-- ranges lie in each other
abbrev pub RangesNest : Type 0
RangesNest = (raw : Raw) → IsValid raw → AreNested (steps_of raw)

-- and side by side
abbrev pub RangesAreTiled : Type 0
RangesAreTiled = (raw : Raw) → IsValid raw → AreTiled (steps_of raw)

-- no op of a section reaches past it
abbrev pub SectionsAreClosed : Type 0
SectionsAreClosed =
    (raw : Raw) → IsValid raw → (j : ℕ) (section : Section) → slice_get raw.sections j ≡ Some section
    → IsClosed (steps_of raw) section.start section.end × (section.end ≤ length (steps_of raw))

-- ---- what ops use

abbrev pub StepsUseAsOps : Type 0
StepsUseAsOps = (raw : Raw) → IsValid raw → (k : ℕ) (op : Op) → slice_get raw.ops k ≡ Some op → UsesAs (step_of raw.symbols k op) op

-- ---- types along a run

-- operands are of types that the operations take
abbrev pub OpsAreTyped : Type 0
OpsAreTyped = (raw : Raw) → IsValid raw → AreTyped raw.symbols (steps_of raw)

-- from inputs that fit, at a point in range, each symbol has a value of its type at the start
abbrev pub StartIsTyped : Type 0
StartIsTyped =
    (raw : Raw) (inputs : Inputs) (point : Point) (budget : ℕ) → IsValid raw → AreInputs (parameters_of raw) inputs → IsPoint point
    → IsTyped raw.symbols (start_of raw inputs point budget)

abbrev pub SourcesAreTyped : Type 0
SourcesAreTyped = (raw : Raw) (inputs : Inputs) → IsValid raw → AreInputs (parameters_of raw) inputs → TypedSources raw.symbols (sources_of raw inputs)

-- each op keeps this, from whatever sources of these types, if what runs its ranges and what follows it does
abbrev pub OpsKeepTypes : Type 0
OpsKeepTypes =
    (raw : Raw) (from : Sources) (go : Run) → IsValid raw → TypedSources raw.symbols from → ((i e : ℕ) → Keeps (IsTyped raw.symbols) (go i e))
    → (k i e : ℕ) → Keeps (IsTyped raw.symbols) (act from go (slice_get (steps_of raw) k) i e)

-- and so each run of ops does
abbrev pub RunsKeepTypes : Type 0
RunsKeepTypes = (raw : Raw) (from : Sources) → IsValid raw → TypedSources raw.symbols from → (n i e : ℕ) → Keeps (IsTyped raw.symbols) (run from (steps_of raw) n i e)

-- along sections
abbrev pub SectionsKeepTypes : Type 0
SectionsKeepTypes = (raw : Raw) (from : Sources) (sections : List Section) → IsValid raw → TypedSources raw.symbols from → Keeps (IsTyped raw.symbols) (run_sections from (steps_of raw) sections)

-- and along the whole run of a layer
abbrev pub LayersKeepTypes : Type 0
LayersKeepTypes =
    (raw : Raw) (inputs : Inputs) (point : Point) (budget : ℕ) → IsValid raw → AreInputs (parameters_of raw) inputs → IsPoint point
    → IsTyped raw.symbols (last (layer_run raw inputs point budget))

-- so what it gives has the types of its parameters
abbrev pub ResultsAreTyped : Type 0
ResultsAreTyped =
    (raw : Raw) (inputs : Inputs) (point : Point) (budget : ℕ) (results : LayerResults) → IsValid raw → AreInputs (parameters_of raw) inputs → IsPoint point
    → (code_run raw inputs point budget).results ≡ Some results → AreResults (parameters_of raw) results
