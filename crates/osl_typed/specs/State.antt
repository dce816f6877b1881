-- The state of a layer's run, and how an expression ends.
use Rattle.std.specs.Prelude.{ℕ, zero, suc, ◌+◌, ◌==◌, if◌then◌else◌, List, [], ◌∷◌, Bool, true, false}
use Rattle.osl_value.specs.AnyValue.{AnyValue}
use Rattle.osl_layer.specs.declared.global.GlobalName.{GlobalName}
use Rattle.osl_layer.specs.declared.global.GlobalName.TheVariants.{P, N, Ng, I, U, V, Ci}

-- what the leaves of the frame's variables hold, by their places
abbrev pub Environment : Type 0
Environment = ℕ → AnyValue

abbrev pub Globals : Type 0
Globals = GlobalName → AnyValue

abbrev pub Reads : Type 0
Reads = ℕ → Bool

pub record State : Type 0 where
  pub vars : Environment
  pub globals : Globals
  -- the turns that are left of the loop budget
  pub turns : ℕ
  -- whether the connected parameter of a number was read
  pub reads : Reads

-- ---- leaves

-- n leaves from a place on
unfoldable pub leaves_at : Environment → ℕ → ℕ → List AnyValue
leaves_at vars from zero = []
leaves_at vars from (suc n) = vars from ∷ leaves_at vars (from + 1) n

-- with these values from a place on
unfoldable pub with_leaves : ℕ → List AnyValue → Environment → Environment
with_leaves from [] vars = vars
with_leaves from (v ∷ vs) vars = λ k. if k == from then v else with_leaves (from + 1) vs vars k

abbrev pub same_global : GlobalName → GlobalName → Bool
same_global P P = true
same_global N N = true
same_global Ng Ng = true
same_global I I = true
same_global U U = true
same_global V V = true
same_global Ci Ci = true
same_global _ _ = false

abbrev pub with_global : GlobalName → AnyValue → Globals → Globals
with_global g v globals = λ h. if same_global h g then v else globals h

-- ---- steps of a state

abbrev pub write_leaves : ℕ → List AnyValue → State → State
write_leaves from vs s = record { vars = with_leaves from vs s.vars; globals = s.globals; turns = s.turns; reads = s.reads }

abbrev pub write_global : GlobalName → AnyValue → State → State
write_global g v s = record { vars = s.vars; globals = with_global g v s.globals; turns = s.turns; reads = s.reads }

-- connected parameter k was read
abbrev pub noted : ℕ → State → State
noted k s = record { vars = s.vars; globals = s.globals; turns = s.turns; reads = λ j. if j == k then true else s.reads j }

abbrev pub with_turns : ℕ → State → State
with_turns n s = record { vars = s.vars; globals = s.globals; turns = n; reads = s.reads }

-- ---- ends

-- An expression gives what it is asked for, or it leaves the layer, or its run is spent: the budget is, or an input that it reads is missing.
pub data ExpressionEnd (A : Type 0) : Type 0 where
  Gives : A → State → ExpressionEnd A
  Exits : State → ExpressionEnd A
  Spent : State → ExpressionEnd A

abbrev pub then_value : {A B : Type 0} → ExpressionEnd A → (A → State → ExpressionEnd B) → ExpressionEnd B
then_value (Gives a s) go = go a s
then_value (Exits s) go = Exits s
then_value (Spent s) go = Spent s

-- one after the other, from left to right
unfoldable pub in_order : {A B : Type 0} → List (State → ExpressionEnd A) → State → (List A → State → ExpressionEnd B) → ExpressionEnd B
in_order [] s go = go [] s
in_order (x ∷ xs) s go = then_value (x s) (λ a s1. in_order xs s1 (λ rest s2. go (a ∷ rest) s2))
