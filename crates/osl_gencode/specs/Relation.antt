-- A state of the source's run and one of the code's that belong together.
use Rattle.std.specs.Prelude.{ℕ, ◌+◌, ◌<◌, ◌≤◌, ◌≡◌, ◌≢◌, ◌⊎◌, true, List, length, map, Option, Some, slice_get}
use Rattle.osl_value.specs.declared.types.Ty.{Ty}
use Rattle.osl_value.specs.AnyValue.{AnyValue, type_of}
use Rattle.osl_layer.specs.Globals.{type_of_global}
use Rattle.osl_layer.specs.Layer.{From, Inputs}
use Rattle.osl_layer.specs.declared.global.GlobalName.{GlobalName}
use Rattle.osl_typed.specs.Frames.{leaf_count, place_of, kind_in}
use Rattle.osl_typed.specs.State.{State}
use Rattle.oso_code.specs.declared.symbol.Symbol.{Symbol}
use Rattle.oso_code.specs.CodeRun.{source_of, stated}
use Rattle.oso_code.specs.Run as R
use Rattle.osl_gencode.specs.Bodies.{is_const, Body, symbol_of, frame_end, global_of}

-- ---- what is given

-- Variables of the source and symbols of the code are given the same: leaf j of variable k what the variable is given, and symbols that are no parameters nothing.
pub record Wired (b : Body) (inputs : Inputs) (from : R.Sources) : Type 0 where
  pub here : (k j : ℕ) → place_of b.structures b.kinds k + j < length b.types → j < leaf_count b.structures (kind_in b.kinds k) → from (symbol_of b (place_of b.structures b.kinds k + j)) ≡ source_of (inputs k)
  -- a connected variable is a parameter: it is one leaf, and its number is its symbol
  pub first : (k : ℕ) (o : Option AnyValue) → inputs k ≡ From o → (symbol_of b (place_of b.structures b.kinds k) ≡ k) × (leaf_count b.structures (kind_in b.kinds k) ≡ 1)
  -- what it is given has its type
  pub typed : (k : ℕ) (v : AnyValue) (ty : Ty) → inputs k ≡ From (Some v) → slice_get b.types (place_of b.structures b.kinds k) ≡ Some ty → type_of v ≡ ty
  -- what may be assigned is not connected
  pub unwired : (k : ℕ) (o : Option AnyValue) → b.stored k ≡ true → inputs k ≢ From o
  pub above : (k : ℕ) → b.params ≤ k → from k ≡ R.Own

-- whatever is connected, this symbol is not
abbrev pub IsOwn : Body → ℕ → Type 0
IsOwn b k = (inputs : Inputs) (from : R.Sources) → Wired b inputs from → from k ≡ R.Own

-- ---- states

-- constants hold what they stand for
abbrev pub HoldsConsts : List Symbol → R.State → Type 0
HoldsConsts syms cod = (k : ℕ) (symbol : Symbol) → slice_get syms k ≡ Some symbol → is_const symbol.class ≡ true → cod.values k ≡ stated symbol.ty symbol.value

-- Leaves, globals, turns and reads agree, and the leaves have their types. How many ops were run is not spoken of.
pub record Related (b : Body) (syms : List Symbol) (src : State) (cod : R.State) : Type 0 where
  pub vars : (k : ℕ) → k < length b.types → cod.values (symbol_of b k) ≡ src.vars k
  pub typed : (k : ℕ) (ty : Ty) → slice_get b.types k ≡ Some ty → type_of (src.vars k) ≡ ty
  pub globals : (g : GlobalName) → cod.values (global_of b g) ≡ src.globals g
  pub global_types : (g : GlobalName) → type_of (src.globals g) ≡ type_of_global g
  pub turns : cod.turns ≡ src.turns
  pub reads : cod.reads ≡ src.reads
  pub consts : HoldsConsts syms cod

-- Symbols below s0 outside the frame keep their values, and where the code is calm, those of the frame do too.
pub record Kept (b : Body) (s0 : ℕ) (old new : R.State) : Type 0 where
  pub keeps : (k : ℕ) → k < s0 → (k < b.start) ⊎ (frame_end b ≤ k) → new.values k ≡ old.values k
  pub all : b.calm ≡ true → (k : ℕ) → k < s0 → new.values k ≡ old.values k

-- ---- values in symbols

-- the symbols from r on hold these values
pub record Held (values : ℕ → AnyValue) (r : ℕ) (vs : List AnyValue) : Type 0 where
  pub each : (k : ℕ) (v : AnyValue) → slice_get vs k ≡ Some v → values (r + k) ≡ v

-- a value of these types is in the symbols from r on
pub record In (r : ℕ) (types : List Ty) (vs : List AnyValue) (cod : R.State) : Type 0 where
  pub held : Held cod.values r vs
  pub typed : map type_of vs ≡ types
