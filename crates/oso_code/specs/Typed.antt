-- States and sources in which each symbol has a value of its type, in range.
use Rattle.std.specs.Prelude.{◌≡◌, ℕ, List, [], ◌∷◌, map, Option, Some, None, slice_get, Bool, true, false, IsTrue}
use Rattle.osl_value.specs.declared.op_name.OpName.{OpName}
use Rattle.osl_value.specs.declared.types.Ty.{Ty}
use Rattle.osl_value.specs.AnyValue.{AnyValue}
use Rattle.osl_value.specs.Apply.{is_allowed}
use Rattle.osl_value.specs.WellFormed.{AreParts, IsOfType}
use Rattle.osl_layer.specs.Layer.{Parameter, LayerResults}
use Rattle.oso_code.specs.declared.symbol.Symbol.{Symbol}
use Rattle.oso_code.specs.Ops.{type_at}
use Rattle.oso_code.specs.Run.{State, Wired, Held, Sources}
use Rattle.oso_code.specs.Steps.{Step, Compute, Branch, Loop, Call, Leave}

-- each symbol holds a value of its type
pub record IsTyped (symbols : List Symbol) (s : State) : Type 0 where
  pub each : (k : ℕ) (symbol : Symbol) → slice_get symbols k ≡ Some symbol → IsOfType symbol.ty (s.values k)

-- what is connected or held is a value of its symbol's type
pub record TypedSources (symbols : List Symbol) (from : Sources) : Type 0 where
  pub wired : (k : ℕ) (symbol : Symbol) (v : AnyValue) → slice_get symbols k ≡ Some symbol → from k ≡ Wired (Some v) → IsOfType symbol.ty v
  pub held : (k : ℕ) (symbol : Symbol) (v : AnyValue) → slice_get symbols k ≡ Some symbol → from k ≡ Held v → IsOfType symbol.ty v

-- symbols that there are
abbrev pub AreThere : List Symbol → List ℕ → Type 0
AreThere symbols [] = Unit {0}
AreThere symbols (k ∷ ks) = ((symbol : Symbol) × (slice_get symbols k ≡ Some symbol)) × AreThere symbols ks

-- values that reads of these symbols may give
abbrev pub AllTyped : List Symbol → List ℕ → List AnyValue → Type 0
AllTyped symbols [] [] = Unit {0}
AllTyped symbols [] (v ∷ vs) = ⊥
AllTyped symbols (k ∷ ks) [] = ⊥
AllTyped symbols (k ∷ ks) (v ∷ vs) = IsOfType (type_at symbols k) v × AllTyped symbols ks vs

-- the operands are there and of types that the operation takes, and the target has the type that is written
pub record OpTyped (symbols : List Symbol) (name : OpName) (ty : Ty) (target : ℕ) (sources : List ℕ) : Type 0 where
  pub there : AreThere symbols sources
  pub allowed : IsTrue (is_allowed name ty (map (type_at symbols) sources))
  pub written : type_at symbols target ≡ ty

abbrev pub StepTyped : List Symbol → Step → Type 0
StepTyped symbols (Compute name ty target sources) = OpTyped symbols name ty target sources
StepTyped symbols (Branch c holds fails) = Unit {0}
StepTyped symbols (Loop tested c test body step) = Unit {0}
StepTyped symbols (Call body) = Unit {0}
StepTyped symbols (Leave way) = Unit {0}

-- each step is typed
pub record AreTyped (symbols : List Symbol) (steps : List Step) : Type 0 where
  pub each : (k : ℕ) (step : Step) → slice_get steps k ≡ Some step → StepTyped symbols step

-- ---- what a layer gives

-- a value of the type where it is an output, and none where it is an input
abbrev pub OutputFits : Ty → (output : Bool) → Option AnyValue → Type 0
OutputFits ty true None = ⊥
OutputFits ty true (Some v) = IsOfType ty v
OutputFits ty false None = Unit {0}
OutputFits ty false (Some v) = ⊥

-- one entry for each parameter
abbrev pub OutputsFit : List Parameter → List (Option AnyValue) → Type 0
OutputsFit [] [] = Unit {0}
OutputsFit [] (o ∷ os) = ⊥
OutputsFit (param ∷ params) [] = ⊥
OutputsFit (param ∷ params) (o ∷ os) = OutputFits param.ty param.output o × OutputsFit params os

pub record AreResults (params : List Parameter) (results : LayerResults) : Type 0 where
  pub outputs : OutputsFit params results.outputs
  pub closure : AreParts results.closure
