-- What a typed shader is, and what a code generator may rely on: each part of it is well formed.
use Rattle.std.specs.Prelude.{◌≡◌, ℕ, suc, ◌≤◌, nat_lt, Bool, true, false, not, ◌&&◌, List, [], ◌∷◌, ◌++◌, length, map, take, Option, None, Some, slice_get, bytes_eq, IsTrue}
use Rattle.std.specs.List.{list_all}
use Rattle.osl_value.specs.declared.op_name.OpName.{OpName}
use Rattle.osl_value.specs.declared.op_name.OpName.TheVariants.{Neg, Assign, ToInt, Triple, Matrix}
use Rattle.osl_value.specs.declared.types.Base.TheVariants.{Closure}
use Rattle.osl_value.specs.Types.{same_base}
use Rattle.osl_overload.specs.declared.signature.Formal.{Formal}
use Rattle.osl_overload.specs.declared.signature.Kind.{Kind}
use Rattle.osl_overload.specs.declared.signature.Kind.TheVariants.{Value, Structure, Void}
use Rattle.osl_tree.specs.Files.{max_height}
use Rattle.osl_tree.specs.Lexical.{IsWord}
use Rattle.osl_typed.specs.declared.expr.Root.{Root}
use Rattle.osl_typed.specs.declared.expr.Root.TheVariants as root
use Rattle.osl_typed.specs.declared.expr.TypedExpr.{TypedExpr}
use Rattle.osl_typed.specs.declared.expr.Argument.TheOpen as e
use Rattle.osl_typed.specs.declared.expr.Argument.TheOpen.{TypedExpr-F, Argument-F}
use Rattle.osl_typed.specs.declared.expr.Argument.TheFolds.{fold-TypedExpr}
use Rattle.osl_typed.specs.declared.stmt.Declared.{Declared}
use Rattle.osl_typed.specs.declared.stmt.TypedInit.{TypedInit}
use Rattle.osl_typed.specs.declared.stmt.TypedInit.TheVariants as init
use Rattle.osl_typed.specs.declared.stmt.TypedStmt.{TypedStmt}
use Rattle.osl_typed.specs.declared.shader.TypedDatum.{TypedDatum}
use Rattle.osl_typed.specs.declared.shader.TypedFunction.{TypedFunction}
use Rattle.osl_typed.specs.declared.shader.TypedParam.{TypedParam}
use Rattle.osl_typed.specs.declared.shader.TypedShader.{TypedShader}
use Rattle.osl_typed.specs.declared.shader.TypedStructure.{TypedStructure}
use Rattle.osl_typed.specs.FileTyping.{is_reserved}
use Rattle.osl_typed.specs.Scopes.{is_assignable_global}
use Rattle.osl_welltyped.specs.Kinded.{Rules, is_type}
use Rattle.osl_welltyped.specs.StatementsFit.{init_fits, body_fits, declared_in, are_numbered}
use Rattle.osl_welltyped.specs.Measures.{Measure, by_height, by_text, by_fault, init_measured, body_measured}

-- ---- structures

-- a field is no closure, and a structure in one is an earlier one
abbrev pub field_fits : ℕ → Kind → Bool
field_fits m (Value ty) = is_type ty && not (same_base ty.base Closure)
field_fits m (Structure n) = nat_lt n m
field_fits m Void = false

-- structures, the first of which has the number given
abbrev pub structures_fit : ℕ → List TypedStructure → Bool
structures_fit m [] = true
structures_fit m (structure ∷ rest) = list_all (field_fits m) structure.fields && structures_fit (suc m) rest

-- ---- frames

-- the kind of a variable: a type, or one of the structures
abbrev pub variable_fits : List TypedStructure → Kind → Bool
variable_fits structures (Value ty) = is_type ty
variable_fits structures (Structure m) = nat_lt m (length structures)
variable_fits structures Void = false

abbrev pub kinds_declared : List Declared → List Kind
kinds_declared ds = map (λ d. d.kind) ds

-- A frame has the parameters first, and then the variables that the body declares, in order.
pub record IsFrame (structures : List TypedStructure) (params : List Kind) (frame : List Kind) (body : List TypedStmt) : Type 0 where
  pub kinds : frame ≡ params ++ kinds_declared (declared_in body)
  pub numbers : IsTrue (are_numbered (length params) (declared_in body))
  pub fit : IsTrue (list_all (variable_fits structures) frame)

-- ---- functions

abbrev pub kinds_of_formals : List Formal → List Kind
kinds_of_formals formals = map (λ formal. formal.kind) formals

-- what a function gives: `void`, or what a variable may hold
abbrev pub result_fits : List TypedStructure → Kind → Bool
result_fits structures (Value ty) = variable_fits structures (Value ty)
result_fits structures (Structure m) = variable_fits structures (Structure m)
result_fits structures Void = true

-- variables behind the parameters may be assigned, and of the parameters those marked `output`
abbrev pub is_output : Option Formal → Bool
is_output None = true
is_output (Some formal) = formal.output

-- a function may not assign global variables
abbrev pub may_write_in : List Formal → Root → Bool
may_write_in formals (root.Variable k) = is_output (slice_get formals k)
may_write_in formals (root.Global g) = false

-- function n may call the functions before it
abbrev pub rules_of_function : TypedShader → ℕ → TypedFunction → Rules
rules_of_function t n f = record {
  structures = t.structures;
  kinds = f.frame;
  ready = length f.frame;
  functions = take n t.functions;
  may_write = may_write_in f.formals;
}

pub record IsFunction (t : TypedShader) (n : ℕ) (f : TypedFunction) : Type 0 where
  pub result : IsTrue (result_fits t.structures f.result)
  pub frame : IsFrame t.structures (kinds_of_formals f.formals) f.frame f.body
  pub body : IsTrue (body_fits (rules_of_function t n f) f.result f.body)

-- ---- the shader

abbrev pub as_formal : TypedParam → Formal
as_formal param = record { kind = Value param.ty; output = param.output }

abbrev pub as_formals : TypedShader → List Formal
as_formals t = map as_formal t.params

-- the global variables that the kind of shader may assign, outputs and the body's variables
abbrev pub may_write_of : TypedShader → Root → Bool
may_write_of t (root.Variable k) = is_output (slice_get (as_formals t) k)
may_write_of t (root.Global g) = is_assignable_global t.kind g

-- where the variables below a number may be named
abbrev pub rules_below : TypedShader → ℕ → Rules
rules_below t ready = record {
  structures = t.structures;
  kinds = t.frame;
  ready = ready;
  functions = t.functions;
  may_write = may_write_of t;
}

-- of the body
abbrev pub rules_of : TypedShader → Rules
rules_of t = rules_below t (length t.frame)

-- no two names are alike
abbrev pub differ : List (List ℕ) → Bool
differ [] = true
differ (name ∷ names) = list_all (λ other. not (bytes_eq name other)) names && differ names

abbrev pub names_of : List TypedParam → List (List ℕ)
names_of params = map (λ param. param.name) params

-- Parameter k, whose default names earlier parameters alone. Its name is no global variable's.
pub record IsParam (t : TypedShader) (k : ℕ) (param : TypedParam) : Type 0 where
  pub free : is_reserved param.name ≡ false
  pub default : IsTrue (init_fits (rules_below t k) (Value param.ty) param.init)

-- structures, functions, parameters and the body, by the rules of kinds and scopes
pub record FitsRules (t : TypedShader) : Type 0 where
  pub structures : IsTrue (structures_fit 0 t.structures)
  pub functions : (n : ℕ) (f : TypedFunction) → slice_get t.functions n ≡ Some f → IsFunction t n f
  pub params : (k : ℕ) (param : TypedParam) → slice_get t.params k ≡ Some param → IsParam t k param
  pub names : IsTrue (differ (names_of t.params))
  pub frame : IsFrame t.structures (kinds_of_formals (as_formals t)) t.frame t.body
  pub body : IsTrue (body_fits (rules_of t) Void t.body)

-- ---- names

-- a word of the source
pub record IsName (t : TypedShader) (name : List ℕ) : Type 0 where
  pub word : IsWord name
  pub short : length name ≤ t.longest_word

-- the shader and its parameters have words as names
pub record HasNames (t : TypedShader) : Type 0 where
  pub shader : IsName t t.name
  pub params : (k : ℕ) (param : TypedParam) → slice_get t.params k ≡ Some param → IsName t param.name

-- ---- metadata

-- the operations of signs, constructors and casts
abbrev pub makes_constants : OpName → Bool
makes_constants Neg = true
makes_constants Assign = true
makes_constants ToInt = true
makes_constants Triple = true
makes_constants Matrix = true
makes_constants _ = false

abbrev pub constant_step : TypedExpr-F Bool Bool → Bool
constant_step (e.Int n) = true
constant_step (e.Float units) = true
constant_step (e.Text bytes) = true
constant_step (e.Promote ty a) = a
constant_step (e.Apply op ty operands) = makes_constants op && list_all (λ operand. operand) operands
constant_step _ = false

abbrev pub constant_passed : Argument-F Bool Bool → Bool
constant_passed (e.In a) = a
constant_passed (e.Out root part indices) = false

-- literals, and what signs, constructors, casts and promotions make of them
unfoldable pub is_constant : TypedExpr → Bool
is_constant x = fold-TypedExpr Bool Bool constant_passed constant_step x

abbrev pub is_constant_init : TypedInit → Bool
is_constant_init (init.Expr a) = is_constant a
is_constant_init (init.List items) = list_all is_constant items

-- where no variable and no function is in scope
abbrev pub rules_of_constants : TypedShader → Rules
rules_of_constants t = record { structures = t.structures; kinds = []; ready = 0; functions = []; may_write = λ root. false }

pub record IsDatum (t : TypedShader) (datum : TypedDatum) : Type 0 where
  pub name : IsName t datum.name
  pub type : IsTrue (is_type datum.ty)
  pub constant : IsTrue (is_constant_init datum.init)
  pub value : IsTrue (init_fits (rules_of_constants t) (Value datum.ty) datum.init)
  pub numbers : init_measured by_fault datum.init ≡ 0

pub record AreMetadata (t : TypedShader) (metadata : List TypedDatum) : Type 0 where
  pub each : (k : ℕ) (datum : TypedDatum) → slice_get metadata k ≡ Some datum → IsDatum t datum

-- of the shader and of each parameter
pub record HasMetadata (t : TypedShader) : Type 0 where
  pub shader : AreMetadata t t.metadata
  pub params : (k : ℕ) (param : TypedParam) → slice_get t.params k ≡ Some param → AreMetadata t param.metadata

-- ---- heights and literals

-- a measure is at most a limit in the bodies of functions, the defaults and the body

pub record IsWithin (m : Measure) (limit : ℕ) (t : TypedShader) : Type 0 where
  pub functions : (n : ℕ) (f : TypedFunction) → slice_get t.functions n ≡ Some f → body_measured m f.body ≤ limit
  pub params : (k : ℕ) (param : TypedParam) → slice_get t.params k ≡ Some param → init_measured m param.init ≤ limit
  pub body : body_measured m t.body ≤ limit

-- bodies and defaults have bounds
pub record IsBounded (t : TypedShader) : Type 0 where
  -- each is no higher than a source
  pub heights : IsWithin by_height max_height t
  -- strings are no longer than the longest
  pub texts : IsWithin by_text t.longest_text t
  -- ints and floats are in range
  pub numbers : IsWithin by_fault 0 t

-- ---- all parts

pub record IsWellTyped (t : TypedShader) : Type 0 where
  pub rules : FitsRules t
  pub names : HasNames t
  pub metadata : HasMetadata t
  pub bounds : IsBounded t
