-- What a piece of code keeps so that the whole is valid: its ops fit, wherever they are in the section, and its value may be read there.
use Rattle.std.specs.Prelude.{ℕ, ◌+◌, ◌<◌, ◌≤◌, ◌≡◌, List, [], ◌∷◌, length, map, Option, Some, slice_get, IsTrue}
use Rattle.std.specs.List.{list_all}
use Rattle.osl_value.specs.declared.shader_kind.ShaderKind.{ShaderKind}
use Rattle.osl_value.specs.declared.types.Ty.{Ty}
use Rattle.oso_code.specs.declared.op.Op.{Op}
use Rattle.oso_code.specs.declared.symbol.Symbol.{Symbol}
use Rattle.oso_code.specs.Ops.{type_at, may_read, may_write, op_fits}
use Rattle.osl_gencode.specs.Codes.{Place}

-- ---- ops

-- the ops that were added fit, in a section of a shader of a kind, with these symbols
pub record Fitting (kind : ShaderKind) (owner : Option ℕ) (syms : List Symbol) (ops0 ops1 : List Op) : Type 0 where
  pub each : (k : ℕ) (op : Op) → length ops0 ≤ k → slice_get ops1 k ≡ Some op → IsTrue (op_fits kind syms owner op)

-- ---- operands

-- these symbols may be read in the section, and have these types
pub record Takes (owner : Option ℕ) (syms : List Symbol) (rs : List ℕ) (types : List Ty) : Type 0 where
  pub may : IsTrue (list_all (may_read syms owner) rs)
  pub typed : map (type_at syms) rs ≡ types

-- a symbol may be written in the section, and has the type
pub record Writes (kind : ShaderKind) (owner : Option ℕ) (syms : List Symbol) (w : ℕ) (ty : Ty) : Type 0 where
  pub may : IsTrue (may_write kind syms owner (Some w))
  pub typed : type_at syms w ≡ ty

-- the n symbols from r on may be read in the section
pub record MayRead (owner : Option ℕ) (syms : List Symbol) (r n : ℕ) : Type 0 where
  pub each : (k : ℕ) → k < n → IsTrue (may_read syms owner (r + k))

-- and those of each place
abbrev pub AllReadable : Option ℕ → List Symbol → List Place → Type 0
AllReadable owner syms [] = Unit {0}
AllReadable owner syms (p ∷ ps) = MayRead owner syms p.first (length p.types) × AllReadable owner syms ps
