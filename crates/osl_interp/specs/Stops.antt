-- What steps of the machine give, one after another.
use Rattle.std.specs.Prelude.{◌≡◌, ℕ, ◌+◌, ◌-◌, ◌≤◌, ◌<◌, List, Option, Some, None, slice_get, IsTrue}
use Rattle.osl_apply.specs.declared.slot.Slot.{Slot}
use Rattle.osl_apply.specs.Slots.{is_kept}
use Rattle.osl_layer.specs.Layer.{Inputs}
use Rattle.oso_code.specs.declared.symbol.Class.TheVariants.{Oparam}
use Rattle.oso_code.specs.declared.symbol.Symbol.{Symbol}
use Rattle.oso_code.specs.Run.{Spent, last}
use Rattle.osl_interp.specs.Advances.{Asks, EndsAs, work}
use Rattle.osl_interp.specs.Known.{Fits}
use Rattle.osl_interp.specs.Meaning.{Configuration, state_of, meaning}
use Rattle.osl_interp.specs.Ready.{Ready, IsLaid}
use Rattle.osl_interp.specs.declared.stop.LayerStop.{LayerStop}
use Rattle.osl_interp.specs.declared.stop.LayerStop.TheVariants as T

-- ---- steps of the machine, while the count of ops went from a to b

-- the machine comes to the same as before
pub record Goes (old new : Configuration) (a b : ℕ) : Type 0 where
  pub ready : Ready new
  pub code : new.code ≡ old.code
  pub inputs_stay : new.inputs ≡ old.inputs
  pub fits : (inputs : Inputs) → Fits inputs old.inputs old.values → Fits inputs new.inputs new.values
  pub grows : a ≤ b
  pub same : (inputs : Inputs) → Fits inputs old.inputs old.values → (n : ℕ) → meaning inputs (n + (b - a)) new ≡ meaning inputs n old

-- the run is over, and its last state is the machine's
pub record Finishes (old new : Configuration) (a b : ℕ) : Type 0 where
  pub laid : IsLaid new.code new.inputs new.values
  pub code : new.code ≡ old.code
  pub inputs_stay : new.inputs ≡ old.inputs
  pub fits : (inputs : Inputs) → Fits inputs old.inputs old.values → Fits inputs new.inputs new.values
  pub grows : a ≤ b
  pub ends : (inputs : Inputs) → Fits inputs old.inputs old.values → (n : ℕ) → EndsAs (meaning inputs n old) (state_of (n + (b - a)) new)

-- the run is spent, for want of a turn or of a value
pub record Fails (old new : Configuration) (a b : ℕ) : Type 0 where
  pub inputs_stay : new.inputs ≡ old.inputs
  pub fits : (inputs : Inputs) → Fits inputs old.inputs old.values → Fits inputs new.inputs new.values
  pub grows : a ≤ b
  pub ends : (inputs : Inputs) → Fits inputs old.inputs old.values → (n : ℕ) → meaning inputs n old ≡ Spent (state_of (n + (b - a)) new)

-- what holds of the count however it ends: it has not fallen, and has risen by no more than all that the run counts
pub record Counted (old : Configuration) (a b : ℕ) : Type 0 where
  pub grows : a ≤ b
  pub within : (inputs : Inputs) → Fits inputs old.inputs old.values → (n : ℕ) → n + b ≤ (last (meaning inputs n old)).ops + a

-- how a run stops
abbrev pub EndDone : Configuration → Configuration → ℕ → ℕ → LayerStop → Type 0
EndDone old new a b T.Done = Finishes old new a b
EndDone old new a b T.Spent = Fails old new a b
EndDone old new a b (T.Needs p) = Goes old new a b × Asks new p

abbrev pub StepDone : Configuration → Configuration → ℕ → ℕ → Option LayerStop → Type 0
StepDone old new a b None = Goes old new a b × (work new < work old)
StepDone old new a b (Some stop) = EndDone old new a b stop

-- what an op counts at which the run stops
abbrev pub ticks_at : LayerStop → ℕ
ticks_at T.Done = 1
ticks_at T.Spent = 1
ticks_at (T.Needs p) = 0

-- ---- the outputs of a run that is done

-- the outputs are values that can be lent
abbrev pub AreKept : List Symbol → List Slot → Type 0
AreKept symbols slots = (k : ℕ) (symbol : Symbol) (slot : Slot) → slice_get symbols k ≡ Some symbol → symbol.class ≡ Oparam → slice_get slots k ≡ Some slot → IsTrue (is_kept slot)

abbrev pub KeptAt : LayerStop → List Symbol → List Slot → Type 0
KeptAt T.Done symbols slots = AreKept symbols slots
KeptAt T.Spent symbols slots = Unit
KeptAt (T.Needs p) symbols slots = Unit
