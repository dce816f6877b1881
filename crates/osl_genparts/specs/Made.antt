-- What was made so far, and what is added to it.
use Rattle.std.specs.Prelude.{ℕ, ◌≡◌, ◌≤◌, ◌+◌, List, [], length, Option, Some, slice_get}
use Rattle.osl_value.specs.declared.op_name.OpName.TheVariants as O
use Rattle.osl_value.specs.declared.types.Ty.{Ty}
use Rattle.osl_value.specs.Plain.{Plain}
use Rattle.osl_value.specs.Types.{slot_count}
use Rattle.osl_gencode.specs.Growth.{Extends}
use Rattle.osl_gencode.specs.OwnNames.{own_name}
use Rattle.oso_code.specs.declared.op.Op.{Op}
use Rattle.oso_code.specs.declared.symbol.Class.{Class}
use Rattle.oso_code.specs.declared.symbol.Class.TheVariants as C
use Rattle.oso_code.specs.declared.symbol.Symbol.{Symbol}
use Rattle.oso_code.specs.Valid.{slots_of}

-- ops and symbols
pub record Making : Type 0 where
  pub ops : List Op
  pub symbols : List Symbol

-- the most symbols, and the most ops
abbrev pub most : ℕ
most = 65536

-- ---- symbols

-- the symbol of number n, where it is the compiler's or a variable of the source
abbrev pub own_symbol : ℕ → Class → Ty → Option Plain → Symbol
own_symbol n class ty value = record { class = class; ty = ty; name = own_name n; value = value; metas = [] }

-- symbol c is a constant of this value
pub record IsConstantOf (syms : List Symbol) (c : ℕ) (v : Plain) : Type 0 where
  pub symbol : Symbol
  pub here : slice_get syms c ≡ Some symbol
  pub class : symbol.class ≡ C.Const
  pub type : symbol.ty ≡ v.ty
  pub value : symbol.value ≡ Some v

-- A constant was found, or added: at most one symbol, of its type.
pub record AddsConstant (syms0 syms1 : List Symbol) (v : Plain) (c : ℕ) : Type 0 where
  pub constant : IsConstantOf syms1 c v
  pub grows : Extends syms0 syms1
  pub few : length syms1 ≤ length syms0 + 1
  pub slots : slots_of syms1 ≤ slots_of syms0 + slot_count v.ty

-- ---- ops

-- an op whose ranges are not known yet
abbrev pub open_op : Op
open_op = record { name = O.Exit; args = []; jumps = [] }
