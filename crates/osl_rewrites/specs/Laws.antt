-- What holds of rewritten code.
use Rattle.std.specs.Prelude.{◌≡◌, ℕ, ◌+◌, ◌<◌, ◌≤◌, ◌⊎◌, List, [], ◌∷◌, length, Bool, false, Some, slice_get}
use Rattle.osl_value.specs.declared.point.Point.{Point}
use Rattle.osl_value.specs.declared.op_name.OpName.TheVariants.{Assign}
use Rattle.osl_value.specs.AnyValue.{AnyValue, type_of}
use Rattle.osl_layer.specs.Layer.{Inputs}
use Rattle.oso_code.specs.CodeRun.{sources_of, layer_end, code_run}
use Rattle.oso_code.specs.Nesting.{IsClosed, AreNested, AreTiled}
use Rattle.oso_code.specs.Ranges.{steps_of}
use Rattle.oso_code.specs.Run.{State, Sources, last}
use Rattle.oso_code.specs.Steps.{Step, Compute}
use Rattle.oso_code.specs.Valid.{IsValid}
use Rattle.oso_code.specs.declared.op.Section.{Section}
use Rattle.oso_code.specs.declared.raw.Raw.{Raw}
use Rattle.osl_rewrites.specs.Choice.{Chosen, KeptChoice}
use Rattle.osl_rewrites.specs.Cut.{new_place, cut, CutSteps}
use Rattle.osl_rewrites.specs.Drop.{layer_ends, Dead}
use Rattle.osl_rewrites.specs.Flow.{Surrounds, Settled}
use Rattle.osl_rewrites.specs.declared.point.Around.{Around}
use Rattle.osl_rewrites.specs.declared.point.Spot.{Spot}
use Rattle.osl_rewrites.specs.Known.{Known, hold, Sound, Knowing}
use Rattle.osl_rewrites.specs.Once.{Once, CopyFate}
use Rattle.osl_rewrites.specs.Quiet.{quiet, quiet_range, quiet_sections, quiet_layer}
use Rattle.osl_rewrites.specs.Side.{Match, always, SameEnd}

-- a layer gives and reads the same by the run that does not count
abbrev pub LayersRunQuietly : Type 0
LayersRunQuietly =
    (raw : Raw) (inputs : Inputs) (point : Point) (budget : ℕ)
    → ((code_run raw inputs point budget).results ≡ (layer_end raw (quiet_layer raw inputs point budget)).results)
    × ((code_run raw inputs point budget).reads ≡ (last (quiet_layer raw inputs point budget)).reads)

-- ---- ops are taken out

-- ranges still nest, whatever is taken out of valid code
abbrev pub CutsNest : Type 0
CutsNest = (raw : Raw) (kept : ℕ → Bool) → IsValid raw → AreNested (steps_of (cut kept raw))

-- dead ops, any number, by rows that hold all that is live
abbrev pub DeadOpsDrop : Type 0
DeadOpsDrop =
    (raw : Raw) (kept : ℕ → Bool) (around : ℕ → Around) (asked : ℕ → Bool) (row : Spot → ℕ → Bool) (inputs : Inputs) (point : Point) (budget : ℕ)
    → IsValid raw → Surrounds (steps_of raw) raw.sections around → Settled (steps_of raw) raw.sections around asked row
    → ((i : ℕ) → i < length (steps_of raw) → kept i ≡ false → Dead (sources_of raw inputs) (steps_of raw) around row i)
    → Match (layer_ends row) (quiet_layer raw inputs point budget) (quiet_layer (cut kept raw) inputs point budget)

-- a control op that does just what one range of its does gives way to that range
abbrev pub ChoicesRun : Type 0
ChoicesRun =
    (from : Sources) (kept : ℕ → Bool) (old new : List Step) (p l m b : ℕ) (head : Step) (i e : ℕ) (s : State)
    → AreNested old → AreTiled old → CutSteps kept old new → Chosen from old p l m b head → KeptChoice kept p l m b
    → IsClosed old i e → e ≤ length old → (i ≤ p) ⊎ (b ≤ i)
    → quiet_range from old i e s ≡ quiet_range from new (new_place kept i) (new_place kept e) s

-- ---- known symbols

-- a range from a state that knows runs as with the known symbols held, from any state that is alike elsewhere
abbrev pub KnownSymbolsHold : Type 0
KnownSymbolsHold =
    (known : Known) (from : Sources) (steps : List Step) (i e : ℕ) (s t : State)
    → AreNested steps → IsClosed steps i e → e ≤ length steps → Sound known from steps (λ k. (i ≤ k) × (k < e)) → Knowing known s t
    → Match (always (Knowing known)) (quiet_range from steps i e s) (quiet_range (hold known from) steps i e t)

-- the place is in one of the sections
abbrev pub InSections : List Section → ℕ → Type 0
InSections sections k = (j : ℕ) × (section : Section) × (slice_get sections j ≡ Some section) × (section.start ≤ k) × (k < section.end)

-- sections that no op reaches past
abbrev pub AllClosed : List Step → List Section → Type 0
AllClosed steps sections = (j : ℕ) (section : Section) → slice_get sections j ≡ Some section → IsClosed steps section.start section.end × (section.end ≤ length steps)

-- two codes that are equal with known symbols held end the same over sections, each from a start of its own
abbrev pub FoldedRunsSame : Type 0
FoldedRunsSame =
    (known : Known) (from : Sources) (old new : List Step) (sections : List Section) (s t between : State)
    → AreNested old → AreNested new → length old ≡ length new → AllClosed old sections → AllClosed new sections
    → Sound known from old (InSections sections) → Sound known from new (InSections sections)
    → ((f i e : ℕ) (u : State) → quiet (hold known from) old f i e u ≡ quiet (hold known from) new f i e u)
    → Knowing known s between → Knowing known t between
    → SameEnd (quiet_sections from old sections s) (quiet_sections from new sections t)

-- after the one assign of a held symbol its target may be read as that symbol
abbrev pub CopiesRunSame : Type 0
CopiesRunSame =
    (from : Sources) (old new : List Step) (p k c : ℕ) (v : AnyValue) (f i e : ℕ) (s : State)
    → AreNested old → Once from old p k c v → ((j : ℕ) → j < length old → CopyFate k c p old new j)
    → slice_get new p ≡ Some (Compute Assign (type_of v) k (c ∷ []))
    → IsClosed old i e → e ≤ length old → i ≤ p → e ≤ f + i → quiet from old f i e s ≡ quiet from new f i e s
