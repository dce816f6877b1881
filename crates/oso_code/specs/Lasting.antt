-- What no run undoes: a fact on states that writes, notes, counts and turns keep.
use Rattle.std.specs.Prelude.{◌≡◌, ℕ, suc}
use Rattle.osl_value.specs.AnyValue.{AnyValue}
use Rattle.oso_code.specs.Run.{State, write, note, ticked, with_turns, Outcome, last, Tested, Holds, Fails, Ends}

pub record Lasts (P : State → Type 0) : Type 0 where
  pub writes : (k : ℕ) (v : AnyValue) (s : State) → P s → P (write k v s)
  pub notes : (k : ℕ) (s : State) → P s → P (note k s)
  pub ticks : (s : State) → P s → P (ticked s)
  pub turns : (n : ℕ) (s : State) → P s → s.turns ≡ suc n → P (with_turns n s)

-- a fact that all but writes keep
pub record Stays (P : State → Type 0) : Type 0 where
  pub notes : (k : ℕ) (s : State) → P s → P (note k s)
  pub ticks : (s : State) → P s → P (ticked s)
  pub turns : (n : ℕ) (s : State) → P s → s.turns ≡ suc n → P (with_turns n s)

-- the last state of a test
abbrev pub last_tested : Tested → State
last_tested (Holds s) = s
last_tested (Fails s) = s
last_tested (Ends o) = last o

-- a way to go on that keeps a fact
abbrev pub Keeps : (State → Type 0) → (State → Outcome) → Type 0
Keeps P go = (s : State) → P s → P (last (go s))

abbrev pub KeepsTest : (State → Type 0) → (State → Tested) → Type 0
KeepsTest P test = (s : State) → P s → P (last_tested (test s))
