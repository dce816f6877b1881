-- States that agree on a row, and ops that need not be run as they stand.
use Rattle.std.specs.Prelude.{◌≡◌, ℕ, ◌+◌, ◌⊎◌, List, [], ◌∷◌, Some, None, Bool, true, false, slice_get}
use Rattle.osl_value.specs.declared.op_name.OpName.{OpName}
use Rattle.osl_value.specs.declared.op_name.OpName.TheVariants.{Assign}
use Rattle.osl_value.specs.declared.types.Ty.{Ty}
use Rattle.osl_value.specs.AnyValue.{AnyValue}
use Rattle.osl_value.specs.Apply.{apply}
use Rattle.oso_code.specs.Run.{State, Source, Own, Wired, Held, Sources}
use Rattle.oso_code.specs.Steps.{Span, span, Step, Compute, Branch, Loop, Call}
use Rattle.osl_rewrites.specs.Side.{AtEnds}
use Rattle.osl_rewrites.specs.Flow.{first, left_to}
use Rattle.osl_rewrites.specs.declared.point.Around.{Around}
use Rattle.osl_rewrites.specs.declared.point.Spot.{Spot}
use Rattle.osl_rewrites.specs.declared.point.Spot.TheVariants.{Done}

-- the same values where the row asks, the same turns, and no read that is new
pub record Agree (row : ℕ → Bool) (s t : State) : Type 0 where
  pub values : (k : ℕ) → row k ≡ true → s.values k ≡ t.values k
  pub turns : s.turns ≡ t.turns
  pub reads : (k : ℕ) → t.reads k ≡ true → s.reads k ≡ true

-- the second state notes no read that the first does not
pub record NoNewRead (s t : State) : Type 0 where
  pub reads : (k : ℕ) → t.reads k ≡ true → s.reads k ≡ true

-- what holds at the ends of a range with this around it, by the rows of where they lead
abbrev pub ends_around : (Spot → ℕ → Bool) → Around → AtEnds
ends_around row a = record { next = Agree (row a.next); jumps = λ way. Agree (row (left_to a way)); spent = NoNewRead }

-- what holds at a layer's end
abbrev pub layer_ends : (Spot → ℕ → Bool) → AtEnds
layer_ends row = record { next = Agree (row Done); jumps = λ way. Agree (row Done); spent = NoNewRead }

-- none of the symbols comes from a layer that gave nothing
abbrev pub AllSure : Sources → List ℕ → Type 0
AllSure from [] = Unit {0}
AllSure from (k ∷ ks) = (from k ≡ Wired None → ⊥) × AllSure from ks

-- a value that a read may give
abbrev pub MayGive : Source → AnyValue → Type 0
MayGive Own u = Unit {0}
MayGive (Wired None) u = Unit {0}
MayGive (Wired (Some v)) u = u ≡ v
MayGive (Held v) u = u ≡ v

-- values that reads of these symbols may give
abbrev pub MayGiveAll : Sources → List ℕ → List AnyValue → Type 0
MayGiveAll from [] [] = Unit {0}
MayGiveAll from [] (u ∷ us) = ⊥
MayGiveAll from (k ∷ ks) [] = ⊥
MayGiveAll from (k ∷ ks) (u ∷ us) = MayGive (from k) u × MayGiveAll from ks us

-- a symbol, or a held one that has the value that the first is connected to
abbrev pub WiredOne : Sources → ℕ → ℕ → Type 0
WiredOne from k q = (k ≡ q) ⊎ ((v : AnyValue) × (from k ≡ Wired (Some v)) × (from q ≡ Held v))

-- the same of lists of symbols
abbrev pub WiredAll : Sources → List ℕ → List ℕ → Type 0
WiredAll from [] [] = Unit {0}
WiredAll from [] (q ∷ qs) = ⊥
WiredAll from (k ∷ ks) [] = ⊥
WiredAll from (k ∷ ks) (q ∷ qs) = WiredOne from k q × WiredAll from ks qs

-- the op at i writes a symbol that is not live after it, and no read of it may end the run
pub record Dead (from : Sources) (old : List Step) (around : ℕ → Around) (row : Spot → ℕ → Bool) (i : ℕ) : Type 0 where
  pub name : OpName
  pub ty : Ty
  pub target : ℕ
  pub sources : List ℕ
  pub here : slice_get old i ≡ Some (Compute name ty target sources)
  pub sure : AllSure from sources
  pub dead : row (first (i + 1) (around i)) target ≡ false

-- an op stays; or is dead after it and gives way to a call of nothing; or has one value whatever its arguments, of which it becomes an assign; or reads held symbols in place of connected ones
pub data Spared (from : Sources) (around : ℕ → Around) (row : Spot → ℕ → Bool) (old new : List Step) (i : ℕ) : Type 0 where
  Stood : (step : Step) → slice_get old i ≡ Some step → slice_get new i ≡ Some step → Spared from around row old new i
  Died : (name : OpName) (ty : Ty) (target : ℕ) (sources : List ℕ) → slice_get old i ≡ Some (Compute name ty target sources) → slice_get new i ≡ Some (Call (span (i + 1) (i + 1))) → AllSure from sources → row (first (i + 1) (around i)) target ≡ false → Spared from around row old new i
  Eased : (name : OpName) (ty : Ty) (target : ℕ) (sources : List ℕ) (c : ℕ) (v : AnyValue) → slice_get old i ≡ Some (Compute name ty target sources) → slice_get new i ≡ Some (Compute Assign ty target (c ∷ [])) → AllSure from sources → from c ≡ Held v → ((vs : List AnyValue) → MayGiveAll from sources vs → apply name ty vs ≡ apply Assign ty (v ∷ [])) → Spared from around row old new i
  Rewired : (name : OpName) (ty : Ty) (target : ℕ) (sources sources' : List ℕ) → slice_get old i ≡ Some (Compute name ty target sources) → slice_get new i ≡ Some (Compute name ty target sources') → WiredAll from sources sources' → Spared from around row old new i
  RewiredBranch : (c c' : ℕ) (holds fails : Span) → slice_get old i ≡ Some (Branch c holds fails) → slice_get new i ≡ Some (Branch c' holds fails) → WiredOne from c c' → Spared from around row old new i
  RewiredLoop : (tested : Bool) (c c' : ℕ) (test body step : Span) → slice_get old i ≡ Some (Loop tested c test body step) → slice_get new i ≡ Some (Loop tested c' test body step) → WiredOne from c c' → Spared from around row old new i
