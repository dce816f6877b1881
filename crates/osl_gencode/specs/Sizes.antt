-- What code costs, beside the weight that is counted for its source: its ops, its symbols, and the slots of its symbols.
use Rattle.std.specs.Prelude.{ℕ, ◌+◌, ◌*◌, ◌≤◌, List, [], ◌∷◌, length}
use Rattle.osl_typed.specs.declared.shader.TypedStructure.{TypedStructure}
use Rattle.osl_typed.specs.declared.sizes.Weight.{Weight}
use Rattle.osl_typed.specs.declared.stmt.Declared.{Declared}
use Rattle.osl_typed.specs.Frames.{leaf_count}
use Rattle.osl_typed.specs.Sizes.{kind_slots}
use Rattle.oso_code.specs.declared.op.Op.{Op}
use Rattle.oso_code.specs.declared.symbol.Symbol.{Symbol}
use Rattle.oso_code.specs.Valid.{slots_of}

-- at most n ops and m symbols of q slots were added
pub record Adds (ops0 ops1 : List Op) (syms0 syms1 : List Symbol) (n m q : ℕ) : Type 0 where
  pub ops : length ops1 ≤ length ops0 + n
  pub syms : length syms1 ≤ length syms0 + m
  pub slots : slots_of syms1 ≤ slots_of syms0 + q

-- what was added is within a weight, and leaves room in it for n ops and m symbols of q slots
pub record Within (ops0 ops1 : List Op) (syms0 syms1 : List Symbol) (n m q : ℕ) (w : Weight) : Type 0 where
  pub ops : length ops1 + n ≤ length ops0 + w.size
  pub syms : length syms1 + m ≤ length syms0 + w.size
  pub slots : slots_of syms1 + q ≤ slots_of syms0 + w.slots

-- The code of an expression leaves room for two ops and a symbol for each of its leaves: it may be moved, and what it gives be tested.
abbrev pub ExprWithin : (ops0 ops1 : List Op) (syms0 syms1 : List Symbol) (leaves q : ℕ) (w : Weight) → Type 0
ExprWithin ops0 ops1 syms0 syms1 leaves q w = Within ops0 ops1 syms0 syms1 (2 * leaves) leaves q w

-- ---- statements

-- the leaves of declared variables, and their slots
abbrev pub declared_leaves : List TypedStructure → List Declared → ℕ
declared_leaves structures [] = 0
declared_leaves structures (d ∷ ds) = leaf_count structures d.kind + declared_leaves structures ds

abbrev pub declared_slots : List TypedStructure → List Declared → ℕ
declared_slots structures [] = 0
declared_slots structures (d ∷ ds) = kind_slots structures d.kind + declared_slots structures ds

-- The code of n statements leaves room for the variables that they declare, which lie in the frame: each leaf has a symbol there and a zero, and an op that sets it when the frame is entered. It leaves an op, a symbol and a slot for each statement too.
abbrev pub StmtWithin : List TypedStructure → (ops0 ops1 : List Op) (syms0 syms1 : List Symbol) (n : ℕ) (ds : List Declared) (w : Weight) → Type 0
StmtWithin structures ops0 ops1 syms0 syms1 n ds w =
    Within ops0 ops1 syms0 syms1 (n + declared_leaves structures ds) (n + 2 * declared_leaves structures ds) (n + 2 * declared_slots structures ds) w
