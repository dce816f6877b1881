-- The typed form of a source, if it has one (OSL specification, sections "Structures", "Functions" and "Shader declarations").
use Rattle.std.specs.Prelude.{codes, ℕ, ◌≡◌, Bool, true, false, not, ◌&&◌, ◌||◌, List, [], ◌∷◌, ◌++◌, length, map, Option, None, Some, is_some, bytes_eq}
use Rattle.std.specs.List.{list_all, list_any}
use Rattle.std.specs.Cmp.Lexicographic.{pointwise}
use Rattle.osl_layer.specs.Globals.{global_named}
use Rattle.osl_overload.specs.Kinds.{same_kind}
use Rattle.osl_overload.specs.declared.signature.Formal.{Formal}
use Rattle.osl_overload.specs.declared.signature.Kind.{Kind}
use Rattle.osl_overload.specs.declared.signature.Kind.TheVariants.{Void}
use Rattle.osl_tree.specs.declared.expr.Expr.{Expr, Expr-F, fold-Expr}
use Rattle.osl_tree.specs.declared.expr.Expr.TheOpen as x
use Rattle.osl_tree.specs.declared.expr.PrefixOp.TheVariants.{Minus}
use Rattle.osl_tree.specs.declared.stmt.TypeName.{TypeName}
use Rattle.osl_tree.specs.declared.stmt.Item.{Item}
use Rattle.osl_tree.specs.declared.stmt.Init.{Init}
use Rattle.osl_tree.specs.declared.stmt.Init.TheVariants as begin
use Rattle.osl_tree.specs.declared.tree.Fields.{Fields}
use Rattle.osl_tree.specs.declared.tree.Structure as structure_tree
use Rattle.osl_tree.specs.declared.tree.Formal as formal_tree
use Rattle.osl_tree.specs.declared.tree.Function.{Function}
use Rattle.osl_tree.specs.declared.tree.Definition.{Definition}
use Rattle.osl_tree.specs.declared.tree.Definition.TheVariants as definitions
use Rattle.osl_tree.specs.declared.tree.Datum.{Datum}
use Rattle.osl_tree.specs.declared.tree.Param.{Param}
use Rattle.osl_tree.specs.declared.tree.Tree.{Tree}
use Rattle.osl_typed.specs.declared.found.Callee.TheVariants.{Declared}
use Rattle.osl_typed.specs.declared.shader.TypedStructure.{TypedStructure}
use Rattle.osl_typed.specs.declared.shader.TypedFunction.{TypedFunction}
use Rattle.osl_typed.specs.declared.shader.TypedDatum.{TypedDatum}
use Rattle.osl_typed.specs.declared.shader.TypedParam.{TypedParam}
use Rattle.osl_typed.specs.declared.shader.TypedShader.{TypedShader}
use Rattle.osl_typed.specs.Longest.{longest_of}
use Rattle.osl_typed.specs.Operators.{closure}
use Rattle.osl_typed.specs.Scopes.{Scope, is_here, with_variable, enter, outermost, is_assignable_global, FieldName, StructureName, field_named, structure_named, with_function, Sight}
use Rattle.osl_typed.specs.Typing.{◌>>=◌, when, sequence, formal_kinds, plain_type, candidates}
use Rattle.osl_typed.specs.BodyTyping.{declared_kind, begun, body_typed}

-- ---- what is declared above a place

-- the structures and the functions that are declared, and the typed forms of the functions
pub record Above : Type 0 where
  pub sight : Sight
  pub functions : List TypedFunction

abbrev pub at_the_top : Above
at_the_top = record { sight = record { structures = []; functions = λ name. [] }; functions = [] }

-- ---- structures

-- a field is no closure, and its name is no earlier field's
unfoldable pub fields_added : List StructureName → TypeName → List Item → List FieldName → Option (List FieldName)
fields_added structures type [] fields = Some fields
fields_added structures type (item ∷ items) fields = do
  kind ← declared_kind structures type item.len
  ok ← when (not (same_kind kind closure) && not (is_some (field_named 0 fields item.name)))
  fields_added structures type items (fields ++ record { name = item.name; kind = kind } ∷ [])

unfoldable pub lines_added : List StructureName → List Fields → List FieldName → Option (List FieldName)
lines_added structures [] fields = Some fields
lines_added structures (line ∷ lines) fields = fields_added structures line.ty line.items fields >>= lines_added structures lines

abbrev pub with_structure : StructureName → Above → Above
with_structure structure above =
    record { sight = record { structures = above.sight.structures ++ structure ∷ []; functions = above.sight.functions }; functions = above.functions }

unfoldable pub structure_added : structure_tree.Structure → Above → Option Above
structure_added structure above = do
  ok ← when (not (is_some (structure_named 0 above.sight.structures structure.name)))
  fields ← lines_added above.sight.structures structure.fields []
  Some (with_structure (record { name = structure.name; fields = fields }) above)

-- ---- functions

-- no two formal parameters have one name; those marked `output` may be assigned
unfoldable pub formals_added : List StructureName → List formal_tree.Formal → Scope → Option (List Formal × Scope)
formals_added structures [] scope = Some ([], scope)
formals_added structures (formal ∷ formals) scope = do
  kind ← declared_kind structures formal.ty formal.item.len
  ok ← when (not (is_here formal.item.name scope))
  rest ← formals_added structures formals (with_variable formal.item.name kind formal.output scope)
  Some (record { kind = kind; output = formal.output } ∷ rest.0, rest.1)

abbrev pub result_kind : List StructureName → Option TypeName → Option Kind
result_kind structures None = Some Void
result_kind structures (Some type) = declared_kind structures type None

-- a function of this name takes just these kinds
abbrev pub is_taken : Sight → List ℕ → List Kind → Bool
is_taken sight name kinds = list_any (λ c. pointwise same_kind (formal_kinds c.signature.params) kinds) (candidates sight name kinds)

abbrev pub with_typed : List ℕ → TypedFunction → Above → Above
with_typed name f above = record {
  sight = record {
    structures = above.sight.structures;
    functions = with_function name (record { signature = record { params = f.formals; result = f.result }; callee = Declared (length above.functions) }) above.sight.functions;
  };
  functions = above.functions ++ f ∷ [];
}

-- A function sees the structures and functions above it, and the global variables, which it may not assign. Its body is a block inside its parameters.
unfoldable pub function_added : Function → Above → Option Above
function_added f above = do
  result ← result_kind above.sight.structures f.result
  formals ← formals_added above.sight.structures f.formals (enter (outermost (λ g. false)))
  ok ← when (not (is_taken above.sight f.name (formal_kinds (formals.0))))
  body ← body_typed (record { sight = above.sight; result = result }) f.body (enter (formals.1))
  Some (with_typed f.name (record { result = result; formals = formals.0; frame = (body.1).kinds; body = body.0 }) above)

abbrev pub definition_added : Definition → Above → Option Above
definition_added (definitions.Structure structure) above = structure_added structure above
definition_added (definitions.Function f) above = function_added f above

unfoldable pub definitions_added : List Definition → Above → Option Above
definitions_added [] above = Some above
definitions_added (definition ∷ rest) above = definition_added definition above >>= definitions_added rest

-- ---- metadata

pub data Constancy : Type 0 where
  -- a number
  Numeral : Constancy
  -- a string, a negated number, or a constructor of constants
  Constant : Constancy
  Neither : Constancy

abbrev pub is_constancy : Constancy → Bool
is_constancy Numeral = true
is_constancy Constant = true
is_constancy Neither = false

abbrev pub constant_if : Bool → Constancy
constant_if true = Constant
constant_if false = Neither

abbrev pub negated : Constancy → Constancy
negated Numeral = Constant
negated _ = Neither

abbrev pub constancy_step : Expr-F Constancy → Constancy
constancy_step (x.Int n) = Numeral
constancy_step (x.Float units) = Numeral
constancy_step (x.Text bytes) = Constant
constancy_step (x.Construct to args) = constant_if (list_all is_constancy args)
constancy_step (x.Prefix Minus a) = negated a
constancy_step _ = Neither

unfoldable pub constancy : Expr → Constancy
constancy a = fold-Expr Constancy constancy_step a

abbrev pub is_constant : Expr → Bool
is_constant a = is_constancy (constancy a)

abbrev pub is_constant_init : Init → Bool
is_constant_init (begin.Expr a) = is_constant a
is_constant_init (begin.List items) = list_all is_constant items

-- a datum is no structure, and its value is a constant
unfoldable pub datum_typed : Sight → Scope → Datum → Option TypedDatum
datum_typed sight scope datum = do
  kind ← declared_kind sight.structures datum.ty datum.item.len
  ty ← plain_type kind
  ok ← when (is_constant_init datum.init)
  init ← begun sight scope kind datum.init
  Some (record { ty = ty; name = datum.item.name; init = init })

abbrev pub metadata_typed : Sight → Scope → List Datum → Option (List TypedDatum)
metadata_typed sight scope metadata = sequence (map (datum_typed sight scope) metadata)

-- ---- the shader

-- a name that no parameter may have: a global variable's, or that of the main code
abbrev pub is_reserved : List ℕ → Bool
is_reserved name = is_some (global_named name) || bytes_eq name (codes "___main___")

-- A parameter is no structure. Its default sees the parameters before it; those marked `output` may be assigned.
unfoldable pub param_added : Sight → Param → Scope → Option (TypedParam × Scope)
param_added sight param scope = do
  kind ← declared_kind sight.structures param.ty param.item.len
  ty ← plain_type kind
  ok ← when (not (is_reserved param.item.name) && not (is_here param.item.name scope))
  init ← begun sight scope kind param.init
  metadata ← metadata_typed sight scope param.metadata
  Some (record { output = param.output; ty = ty; name = param.item.name; init = init; metadata = metadata }, with_variable param.item.name kind param.output scope)

unfoldable pub params_added : Sight → List Param → Scope → Option (List TypedParam × Scope)
params_added sight [] scope = Some ([], scope)
params_added sight (param ∷ params) scope = param_added sight param scope >>= λ r. params_added sight params (r.1) >>= λ rest. Some (r.0 ∷ rest.0, rest.1)

abbrev pub kinds_of_fields : StructureName → TypedStructure
kinds_of_fields structure = record { fields = map (λ field. field.kind) structure.fields }

-- A shader's parameters and the outermost declarations of its body are in one block.
unfoldable pub shader_typed : Tree → Above → Option TypedShader
shader_typed tree above = do
  metadata ← metadata_typed above.sight (outermost (λ g. false)) tree.shader.metadata
  params ← params_added above.sight tree.shader.params (enter (outermost (is_assignable_global tree.shader.kind)))
  body ← body_typed (record { sight = above.sight; result = Void }) tree.shader.body (params.1)
  Some (record {
    structures = map kinds_of_fields above.sight.structures;
    functions = above.functions;
    kind = tree.shader.kind;
    name = tree.shader.name;
    metadata = metadata;
    params = params.0;
    frame = (body.1).kinds;
    body = body.0;
    longest_word = (longest_of tree).word;
    longest_text = (longest_of tree).text;
  })

-- The typed form of a source: its names tied to declarations, its calls to functions, and its promotions written in.
unfoldable pub typed : Tree → Option TypedShader
typed tree = definitions_added tree.definitions at_the_top >>= shader_typed tree

abbrev pub IsTypingOf : Tree → TypedShader → Type 0
IsTypingOf tree t = typed tree ≡ Some t
