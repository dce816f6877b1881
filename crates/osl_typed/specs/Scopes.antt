-- What a name means at a place (OSL specification, "Scoping").
use Rattle.std.specs.Prelude.{ℕ, ◌+◌, ◌==◌, Bool, true, false, if◌then◌else◌, List, [], ◌∷◌, ◌++◌, length, map, Option, None, Some, bytes_eq}
use Rattle.osl_layer.specs.declared.global.GlobalName.{GlobalName}
use Rattle.osl_layer.specs.declared.global.GlobalName.TheVariants.{P, N, Ci}
use Rattle.osl_layer.specs.Globals.{all_globals, global_text, type_of_global}
use Rattle.osl_overload.specs.declared.signature.Kind.{Kind}
use Rattle.osl_overload.specs.declared.signature.Kind.TheVariants.{Value}
use Rattle.osl_overload.specs.declared.signature.Signature.{Signature}
use Rattle.osl_value.specs.declared.shader_kind.ShaderKind.{ShaderKind}
use Rattle.osl_value.specs.declared.shader_kind.ShaderKind.TheVariants.{Surface, Displacement, Volume}
use Rattle.osl_typed.specs.declared.expr.Root.TheVariants as root
use Rattle.osl_typed.specs.declared.found.Binding.{Binding}
use Rattle.osl_typed.specs.declared.found.Callee.{Callee}

-- ---- variables

-- the variables that are declared, innermost first; how many blocks are round; and the kinds of all variables of the frame so far
pub record Scope : Type 0 where
  pub bindings : List Binding
  pub depth : ℕ
  pub kinds : List Kind

-- the innermost declaration of a name
unfoldable pub look : List ℕ → List Binding → Option Binding
look name [] = None
look name (b ∷ bs) = if bytes_eq b.name name then Some b else look name bs

abbrev pub stands_at : ℕ → Option Binding → Bool
stands_at depth None = false
stands_at depth (Some b) = b.depth == depth

-- the name is declared in this very block
abbrev pub is_here : List ℕ → Scope → Bool
is_here name scope = stands_at scope.depth (look name scope.bindings)

-- one more variable, by the next number of the frame
abbrev pub with_variable : List ℕ → Kind → Bool → Scope → Scope
with_variable name kind writable scope = record {
  bindings = record { name = name; depth = scope.depth; root = root.Variable (length scope.kinds); kind = kind; writable = writable } ∷ scope.bindings;
  depth = scope.depth;
  kinds = scope.kinds ++ kind ∷ [];
}

-- a block inside
abbrev pub enter : Scope → Scope
enter scope = record { bindings = scope.bindings; depth = scope.depth + 1; kinds = scope.kinds }

-- after a block all names mean what they meant before it; its variables keep their numbers
abbrev pub leave : Scope → Scope → Scope
leave scope inner = record { bindings = scope.bindings; depth = scope.depth; kinds = inner.kinds }

-- ---- global variables

-- a displacement shader may assign the position and the normal, and shaders of surfaces and volumes their closure
abbrev pub is_assignable_global : ShaderKind → GlobalName → Bool
is_assignable_global Displacement P = true
is_assignable_global Displacement N = true
is_assignable_global Surface Ci = true
is_assignable_global Volume Ci = true
is_assignable_global _ _ = false

abbrev pub global_binding : (GlobalName → Bool) → GlobalName → Binding
global_binding writable g = record { name = global_text g; depth = 0; root = root.Global g; kind = Value (type_of_global g); writable = writable g }

-- the scope round a shader or a function, where these globals may be assigned
abbrev pub outermost : (GlobalName → Bool) → Scope
outermost writable = record { bindings = map (global_binding writable) all_globals; depth = 0; kinds = [] }

-- ---- structures

pub record FieldName : Type 0 where
  pub name : List ℕ
  pub kind : Kind

pub record StructureName : Type 0 where
  pub name : List ℕ
  pub fields : List FieldName

-- the number of the structure of a name, the first of which has the number given
unfoldable pub structure_named : ℕ → List StructureName → List ℕ → Option ℕ
structure_named at [] name = None
structure_named at (x ∷ xs) name = if bytes_eq x.name name then Some at else structure_named (at + 1) xs name

-- the number and the kind of the field of a name
unfoldable pub field_named : ℕ → List FieldName → List ℕ → Option (ℕ × Kind)
field_named at [] name = None
field_named at (x ∷ xs) name = if bytes_eq x.name name then Some (at, x.kind) else field_named (at + 1) xs name

-- ---- functions

-- a function that may be called
pub record Candidate : Type 0 where
  pub signature : Signature
  pub callee : Callee

-- the functions declared so far, by name and in order
abbrev pub Functions : Type 0
Functions = List ℕ → List Candidate

abbrev pub with_function : List ℕ → Candidate → Functions → Functions
with_function name c functions = λ other. if bytes_eq other name then functions other ++ c ∷ [] else functions other

-- what the expressions of a body see beside its variables
pub record Sight : Type 0 where
  pub structures : List StructureName
  pub functions : Functions
