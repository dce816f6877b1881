-- The body that code is made of: which symbols its variables have.
use Rattle.std.specs.Prelude.{ℕ, ◌+◌, ◌≤◌, ◌≡◌, nat_lt, if◌then◌else◌, Bool, true, false, List, length, Some, slice_get}
use Rattle.osl_value.specs.declared.types.Ty.{Ty}
use Rattle.osl_layer.specs.Globals.{type_of_global}
use Rattle.osl_layer.specs.Layer.{Inputs}
use Rattle.osl_layer.specs.declared.global.GlobalName.{GlobalName}
use Rattle.osl_layer.specs.declared.global.GlobalName.TheVariants as G
use Rattle.osl_overload.specs.declared.signature.Kind.{Kind}
use Rattle.osl_typed.specs.declared.shader.TypedStructure.{TypedStructure}
use Rattle.osl_typed.specs.Parts.{Frame}
use Rattle.oso_code.specs.declared.symbol.Class.{Class}
use Rattle.oso_code.specs.declared.symbol.Class.TheVariants as C
use Rattle.oso_code.specs.declared.symbol.Symbol.{Symbol}

-- ---- symbols

abbrev pub is_const : Class → Bool
is_const C.Const = true
is_const _ = false

-- symbol k has the type, and ops may write it
pub record IsVariable (syms : List Symbol) (k : ℕ) (ty : Ty) : Type 0 where
  pub symbol : Symbol
  pub here : slice_get syms k ≡ Some symbol
  pub type : symbol.ty ≡ ty
  pub free : is_const symbol.class ≡ false

-- symbol k has the type
pub record HasType (syms : List Symbol) (k : ℕ) (ty : Ty) : Type 0 where
  pub symbol : Symbol
  pub here : slice_get syms k ≡ Some symbol
  pub type : symbol.ty ≡ ty

-- the symbols from r on have these types
pub record HaveTypes (syms : List Symbol) (r : ℕ) (types : List Ty) : Type 0 where
  pub each : (k : ℕ) (ty : Ty) → slice_get types k ≡ Some ty → HasType syms (r + k) ty

-- a symbol of a type that ops may write, whatever its name
pub record IsNew (symbol : Symbol) (ty : Ty) : Type 0 where
  pub typed : symbol.ty ≡ ty
  pub free : is_const symbol.class ≡ false

-- ---- bodies

-- The leaves of a body's variables, by their places in the frame: those below `split`, which are the shader's parameters, are the symbols of their own numbers, and the others lie `shift` further up. A function's frame is one block from `start` on.
pub record Body : Type 0 where
  pub structures : List TypedStructure
  pub kinds : List Kind
  -- the types of the leaves that have symbols
  pub types : List Ty
  -- the first symbol of the frame
  pub start : ℕ
  pub split : ℕ
  pub shift : ℕ
  -- the symbol of the first global variable
  pub globals : ℕ
  -- how many parameters the shader has: the symbols below this number alone are connected
  pub params : ℕ
  -- the variables that may be assigned, by their numbers
  pub stored : ℕ → Bool
  -- whether the code that is spoken of writes no symbol that was there before it
  pub calm : Bool

-- the symbol of leaf k
abbrev pub symbol_of : Body → ℕ → ℕ
symbol_of b k = if nat_lt k b.split then k else b.shift + k

-- the first symbol after the frame
abbrev pub frame_end : Body → ℕ
frame_end b = b.shift + length b.types

-- the globals have symbols in this order
abbrev pub number_of : GlobalName → ℕ
number_of G.P = 0
number_of G.N = 1
number_of G.Ng = 2
number_of G.I = 3
number_of G.U = 4
number_of G.V = 5
number_of G.Ci = 6

abbrev pub global_of : Body → GlobalName → ℕ
global_of b g = b.globals + number_of g

-- A shader's frame has the globals between its parameters and its variables. A function's frame lies above them.
pub data Laid (b : Body) : Type 0 where
  shader : b.start ≡ 0 → b.globals ≡ b.split → b.shift ≡ 7 → b.params ≡ b.split → Laid b
  function : b.start ≡ b.shift → b.split ≡ 0 → b.globals + 7 ≤ b.shift → b.params ≤ b.globals → Laid b

-- the symbols of the variables and of the globals are there
pub record Room (b : Body) (syms : List Symbol) : Type 0 where
  pub laid : Laid b
  pub splits : b.split ≤ length b.types
  pub within : frame_end b ≤ length syms
  pub leaves : (k : ℕ) (ty : Ty) → slice_get b.types k ≡ Some ty → IsVariable syms (symbol_of b k) ty
  pub globals : (g : GlobalName) → IsVariable syms (global_of b g) (type_of_global g)

-- the frame of the source
abbrev pub frame_at : Body → Inputs → Frame
frame_at b inputs = record { structures = b.structures; kinds = b.kinds; inputs = inputs }

-- the same body, of code that writes no older symbol, or of any
abbrev pub with_calm : Bool → Body → Body
with_calm calm b = record {
  structures = b.structures;
  kinds = b.kinds;
  types = b.types;
  start = b.start;
  split = b.split;
  shift = b.shift;
  globals = b.globals;
  params = b.params;
  stored = b.stored;
  calm = calm;
}
