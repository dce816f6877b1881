-- The ops that a shader becomes, and what they do to a stack and to the variables. Its top stands first.
use Rattle.std.specs.Prelude.{◌≡◌, ◌<◌, ◌≤◌, ℕ, Bool, true, nat_lt, List, [], ◌∷◌, ◌++◌, length, slice_index_or, reverse, ℤ, pos}
use Rattle.std.specs.List.{list_all}
use Rattle.osl_job.specs.declared.small.SumOp.{SumOp}
use Rattle.osl_job.specs.declared.small.Expr.{Expr}
use Rattle.osl_job.specs.declared.small.SmallShader.{SmallShader}
use Rattle.osl_job.specs.declared.small.Param.{Param}
use Rattle.osl_job.specs.declared.small.Assignment.{Assignment}
use Rattle.osl_job.specs.SmallNames.{fits, assignment_fits, is_tied}
use Rattle.osl_job.specs.SmallRun.{Environment, write, apply, eval, exec, hold_defaults, zeros, small_run}
use Rattle.osl_job.specs.declared.code.State.{State}
use Rattle.osl_job.specs.declared.code.Op.{Op}
use Rattle.osl_job.specs.declared.code.Op.TheVariants.{Push, Load, Apply, Store}

pub record Machine : Type 0 where
  pub stack : List ℤ
  pub env : Environment

-- an operation on the two topmost values, of which the second operand is the top
abbrev pub applied : SumOp → List ℤ → List ℤ
applied op [] = []
applied op (b ∷ []) = b ∷ []
applied op (b ∷ a ∷ rest) = apply op a b ∷ rest

-- the topmost value goes into a variable
abbrev pub stored : ℕ → List ℤ → Environment → Machine
stored k [] env = record { stack = []; env = env }
stored k (v ∷ rest) env = record { stack = rest; env = write k v env }

abbrev pub act : Op → Machine → Machine
act (Push v) m = record { stack = v ∷ m.stack; env = m.env }
act (Load k) m = record { stack = m.env k ∷ m.stack; env = m.env }
act (Apply op) m = record { stack = applied op m.stack; env = m.env }
act (Store k) m = stored k m.stack m.env

abbrev pub run : List Op → Machine → Machine
run [] m = m
run (op ∷ ops) m = run ops (act op m)

-- an op speaks of the first n variables
abbrev pub op_fits : ℕ → Op → Bool
op_fits n (Push v) = true
op_fits n (Load k) = nat_lt k n
op_fits n (Apply op) = true
op_fits n (Store k) = nat_lt k n

-- nothing on the stack, and every variable zero
abbrev pub start : Machine
start = record { stack = []; env = zeros }

-- ---- what the ops of a shader are

-- The ops that were appended put the value of this expression on the stack, and nothing else.
pub record PushesValue (e : Expr) (old new : List Op) : Type 0 where
  pub added : List Op
  pub grows : new ≡ old ++ added
  pub runs : (m : Machine) → run added m ≡ record { stack = eval m.env e ∷ m.stack; env = m.env }
  pub within : (n : ℕ) → fits n e ≡ true → list_all (op_fits n) added ≡ true

-- The ops that were appended give this variable the value of this expression, and nothing else.
pub record StoresValue (k : ℕ) (e : Expr) (old new : List Op) : Type 0 where
  pub added : List Op
  pub grows : new ≡ old ++ added
  pub runs : (m : Machine) → run added m ≡ record { stack = m.stack; env = write k (eval m.env e) m.env }
  pub within : (n : ℕ) → k < n → fits n e ≡ true → list_all (op_fits n) added ≡ true

-- The ops that were appended give each parameter its default, in order.
pub record HoldsDefaults (params : List Param) (old new : List Op) : Type 0 where
  pub added : List Op
  pub grows : new ≡ old ++ added
  pub runs : (m : Machine) → run added m ≡ record { stack = m.stack; env = hold_defaults 0 params m.env }
  pub within : (n : ℕ) → length params ≤ n → list_all (λ p. fits n p.default) params ≡ true → list_all (op_fits n) added ≡ true

-- The ops that were appended make these assignments, in order.
pub record Executes (body : List Assignment) (old new : List Op) : Type 0 where
  pub added : List Op
  pub grows : new ≡ old ++ added
  pub runs : (m : Machine) → run added m ≡ record { stack = m.stack; env = exec body m.env }
  pub within : (n : ℕ) → list_all (assignment_fits n) body ≡ true → list_all (op_fits n) added ≡ true

-- The ops leave the variables as a run of the shader from its source does.
pub record StandsFor (t : SmallShader) (ops : List Op) : Type 0 where
  pub runs : (run ops start).env ≡ small_run t
  pub within : is_tied t ≡ true → list_all (op_fits (length t.params)) ops ≡ true

-- ---- the machine in memory

-- these are the values of the first n variables
pub record Holds (env : Environment) (n : ℕ) (values : List ℤ) : Type 0 where
  pub count : length values ≡ n
  pub each : (k : ℕ) → k < n → slice_index_or values k (pos 0) ≡ env k

-- the state in memory, whose stack grows at its end, is this machine, as far as its variables go
pub record IsMachine (m : Machine) (s : State) : Type 0 where
  pub stack : reverse s.stack.items ≡ m.stack
  pub vars : Holds m.env (length s.vars.items) s.vars.items

-- one op
pub record Acts (op : Op) (old new : State) : Type 0 where
  pub count : length new.vars.items ≡ length old.vars.items
  pub acts : (m : Machine) → IsMachine m old → IsMachine (act op m) new
