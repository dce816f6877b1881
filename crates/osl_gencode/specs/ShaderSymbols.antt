-- The symbols that a shader's code begins with: those of the parameters, of the global variables and of the other variables.
use Rattle.std.specs.Prelude.{ℕ, ◌+◌, nat_le, ◌<◌, ◌≤◌, ◌≡◌, ◌⊎◌, true, false, if◌then◌else◌, List, [], length, map, Option, Some, None, slice_get, IsTrue}
use Rattle.std.specs.List.{flat_map, list_all}
use Rattle.std.specs.Str.{bytes_eq}
use Rattle.osl_value.specs.declared.types.Ty.{Ty}
use Rattle.osl_value.specs.AnyValue.{AnyValue, type_of, zero_value}
use Rattle.osl_value.specs.Laws.{HasValues}
use Rattle.osl_layer.specs.Globals.{global_named, global_text, type_of_global}
use Rattle.osl_layer.specs.Layer.{Input, From, Fixed, Default, Inputs}
use Rattle.osl_layer.specs.declared.global.GlobalName.{GlobalName}
use Rattle.osl_typed.specs.declared.shader.TypedParam.{TypedParam}
use Rattle.osl_typed.specs.declared.shader.TypedShader.{TypedShader}
use Rattle.osl_typed.specs.State.{State}
use Rattle.osl_typed.specs.Ends.{StatementEnd, Next, Breaks, Continues, Returns, Exits, Spent}
use Rattle.osl_typed.specs.Frames.{leaves_of, leaf_count, place_of, kind_in}
use Rattle.oso_code.specs.declared.symbol.Class.TheVariants as C
use Rattle.oso_code.specs.declared.symbol.Symbol.{Symbol}
use Rattle.oso_code.specs.CodeRun.{is_parameter_at, stated}
use Rattle.osl_gencode.specs.Bodies.{Body, number_of}
use Rattle.oso_code.specs.Holding.{is_type}
use Rattle.oso_code.specs.Names.{is_name, main_name}
use Rattle.oso_code.specs.Symbols.{datum_fits}
use Rattle.osl_gencode.specs.OwnNames.{AreNamed, is_own}
use Rattle.osl_gencode.specs.StandsFor.{meta_of}

-- the symbol of a number is so
pub record At (P : Symbol → Type 0) (symbols : List Symbol) (k : ℕ) : Type 0 where
  pub symbol : Symbol
  pub here : slice_get symbols k ≡ Some symbol
  pub is : P symbol

-- ---- parameters

-- the value of a default that is stated in its parameter's symbol, by the parameter's number; the other defaults have sections
abbrev pub Defaults : Type 0
Defaults = ℕ → Option AnyValue

-- what the symbol holds before any section is run
abbrev pub begins_at : Ty → Option AnyValue → AnyValue
begins_at ty None = zero_value ty
begins_at ty (Some v) = v

abbrev pub HasClass : TypedParam → Symbol → Type 0
HasClass p symbol = symbol.class ≡ (if p.output then C.Oparam else C.Param)

-- The symbol of a parameter: it states the default, or zeros where the default has a section. A closure states nothing.
pub record IsParam (p : TypedParam) (default : Option AnyValue) (symbol : Symbol) : Type 0 where
  pub class : HasClass p symbol
  pub type : symbol.ty ≡ p.ty
  pub name : symbol.name ≡ p.name
  pub metas : symbol.metas ≡ map meta_of p.metadata
  pub value : stated symbol.ty symbol.value ≡ begins_at symbol.ty default

-- ---- other variables

pub record IsGlobal (g : GlobalName) (symbol : Symbol) : Type 0 where
  pub class : symbol.class ≡ C.Global
  pub name : symbol.name ≡ global_text g
  pub type : symbol.ty ≡ type_of_global g
  pub value : symbol.value ≡ None
  pub metas : symbol.metas ≡ []

pub record IsLocal (ty : Ty) (symbol : Symbol) : Type 0 where
  pub class : (symbol.class ≡ C.Local) ⊎ (symbol.class ≡ C.Temp)
  pub type : symbol.ty ≡ ty

-- ---- the whole

-- the body of a shader, whose frame has the parameters first
pub record IsShaderBody (t : TypedShader) (b : Body) : Type 0 where
  pub structures : b.structures ≡ t.structures
  pub kinds : b.kinds ≡ t.frame
  pub types : b.types ≡ flat_map (leaves_of t.structures) t.frame
  pub start : b.start ≡ 0
  pub split : b.split ≡ length t.params
  pub shift : b.shift ≡ 7
  pub globals_at : b.globals ≡ length t.params
  pub connected : b.params ≡ length t.params
  -- parameters that may be assigned are outputs
  pub stored : (k : ℕ) (p : TypedParam) → slice_get t.params k ≡ Some p → b.stored k ≡ true → p.output ≡ true

-- a shader's frame: each parameter is one leaf, and has the first places
pub record IsShaderFrame (t : TypedShader) : Type 0 where
  pub first : (k : ℕ) (p : TypedParam) → slice_get t.params k ≡ Some p → slice_get (flat_map (leaves_of t.structures) t.frame) k ≡ Some p.ty
  pub has : (k : ℕ) (ty : Ty) → slice_get (flat_map (leaves_of t.structures) t.frame) k ≡ Some ty → HasValues ty
  pub places : (k : ℕ) → k < length t.params → (place_of t.structures t.frame k ≡ k) × (leaf_count t.structures (kind_in t.frame k) ≡ 1)
  pub later : (k : ℕ) → length t.params ≤ k → length t.params ≤ place_of t.structures t.frame k

-- the symbols of a shader's code: the parameters, the globals, the other variables, and then what the code needs
pub record AreSymbols (t : TypedShader) (defaults : Defaults) (b : Body) (symbols : List Symbol) : Type 0 where
  pub body : IsShaderBody t b
  pub frame : IsShaderFrame t
  pub params : (k : ℕ) (p : TypedParam) → slice_get t.params k ≡ Some p → At (IsParam p (defaults k)) symbols k
  pub globals : (g : GlobalName) → At (IsGlobal g) symbols (length t.params + number_of g)
  pub locals : (k : ℕ) (ty : Ty) → length t.params ≤ k → slice_get (flat_map (leaves_of t.structures) t.frame) k ≡ Some ty → At (IsLocal ty) symbols (7 + k)
  pub others : (k : ℕ) → length t.params ≤ k → is_parameter_at (slice_get symbols k) ≡ false
  -- defaults that are stated are parameters', of their types
  pub few : (k : ℕ) → length t.params ≤ k → defaults k ≡ None
  pub typed : (k : ℕ) (p : TypedParam) (v : AnyValue) → slice_get t.params k ≡ Some p → defaults k ≡ Some v → type_of v ≡ p.ty

-- ---- defaults that are stated

-- a stated default counts where the parameter has nothing else
abbrev pub stated_or : Input → Option AnyValue → AnyValue → AnyValue
stated_or (From source) default other = other
stated_or (Fixed v) default other = other
stated_or Default None other = other
stated_or Default (Some v) other = v

-- The state in which the stated defaults from the k-th parameter on are evaluated already, as they are in code. A parameter is one leaf, of its number.
abbrev pub with_stated : Defaults → Inputs → ℕ → State → State
with_stated defaults inputs k s = record {
  vars = λ j. if nat_le k j then stated_or (inputs j) (defaults j) (s.vars j) else s.vars j;
  globals = s.globals;
  turns = s.turns;
  reads = s.reads;
}

-- an end of a default, and its end where later stated defaults are there already: it goes on with them, or does not go on and needs none
abbrev pub EndsAs : (State → State) → StatementEnd → StatementEnd → Type 0
EndsAs later (Next s) o = o ≡ Next (later s)
EndsAs later (Breaks s) o = o ≡ Breaks s
EndsAs later (Continues s) o = o ≡ Continues s
EndsAs later (Returns vs s) o = o ≡ Returns vs s
EndsAs later (Exits s) o = o ≡ Exits s
EndsAs later (Spent s) o = (z : State) × (o ≡ Spent z) × (z.reads ≡ s.reads)

-- ---- valid symbols, one after another

-- what validity asks of a parameter besides its value
pub record ParamFits (p : TypedParam) : Type 0 where
  pub name : IsTrue (is_name p.name)
  pub body : bytes_eq p.name main_name ≡ false
  pub free : global_named p.name ≡ None
  pub word : is_own p.name ≡ false
  pub type : IsTrue (is_type p.ty)
  pub metas : IsTrue (list_all datum_fits (map meta_of p.metadata))

pub record ParamsFit (t : TypedShader) : Type 0 where
  pub each : (k : ℕ) (p : TypedParam) → slice_get t.params k ≡ Some p → ParamFits p
  pub differ : (j k : ℕ) (p q : TypedParam) → j < k → slice_get t.params j ≡ Some p → slice_get t.params k ≡ Some q → bytes_eq q.name p.name ≡ false

-- the symbols of the first n parameters
pub record ParamSymbols (t : TypedShader) (defaults : Defaults) (n : ℕ) (symbols : List Symbol) : Type 0 where
  pub count : length symbols ≡ n
  pub each : (k : ℕ) (p : TypedParam) → k < n → slice_get t.params k ≡ Some p → At (IsParam p (defaults k)) symbols k
  pub named : AreNamed symbols

-- those of all parameters and of the first n global variables
pub record GlobalSymbols (t : TypedShader) (defaults : Defaults) (n : ℕ) (symbols : List Symbol) : Type 0 where
  pub count : length symbols ≡ length t.params + n
  pub params : (k : ℕ) (p : TypedParam) → slice_get t.params k ≡ Some p → At (IsParam p (defaults k)) symbols k
  pub globals : (g : GlobalName) → number_of g < n → At (IsGlobal g) symbols (length t.params + number_of g)
  pub named : AreNamed symbols

-- those of all parameters, of the global variables, and of the first n leaves of other variables
pub record LocalSymbols (t : TypedShader) (defaults : Defaults) (n : ℕ) (symbols : List Symbol) : Type 0 where
  pub count : length symbols ≡ length t.params + 7 + n
  pub params : (k : ℕ) (p : TypedParam) → slice_get t.params k ≡ Some p → At (IsParam p (defaults k)) symbols k
  pub globals : (g : GlobalName) → At (IsGlobal g) symbols (length t.params + number_of g)
  pub locals : (k : ℕ) (ty : Ty) → length t.params ≤ k → k < length t.params + n → slice_get (flat_map (leaves_of t.structures) t.frame) k ≡ Some ty → At (IsLocal ty) symbols (7 + k)
  pub named : AreNamed symbols
