-- One step of the lists that a file's definitions are made of.
use Rattle.std.specs.Prelude.{false, not, ◌&&◌, List, [], ◌∷◌, ◌++◌, Option, Some, is_some}
use Rattle.osl_overload.specs.Kinds.{same_kind}
use Rattle.osl_overload.specs.declared.signature.Formal.{Formal}
use Rattle.osl_tree.specs.declared.stmt.Item.{Item}
use Rattle.osl_overload.specs.declared.signature.Kind.{Kind}
use Rattle.osl_overload.specs.declared.signature.Kind.TheVariants.{Void}
use Rattle.osl_tree.specs.declared.tree.Formal as formal_tree
use Rattle.osl_tree.specs.declared.tree.Function.{Function}
use Rattle.osl_tree.specs.declared.tree.Shader.{Shader}
use Rattle.osl_typed.specs.Operators.{closure}
use Rattle.osl_typed.specs.Scopes.{Scope, Sight, StructureName, FieldName, enter, outermost, is_assignable_global, field_named, is_here, with_variable}
use Rattle.osl_typed.specs.Typing.{◌>>=◌, when, formal_kinds}
use Rattle.osl_typed.specs.BodyTyping.{declared_kind, body_typed}
use Rattle.osl_typed.specs.FileTyping.{formals_added, is_taken, params_added, result_kind}
use Rattle.osl_typed.specs.declared.shader.TypedFunction.{TypedFunction}
use Rattle.osl_typed.specs.declared.shader.TypedParam.{TypedParam}
use Rattle.osl_typed.specs.declared.stmt.TypedStmt.{TypedStmt}
use Rattle.osl_check.specs.BodyParts.{lengthened}

-- one more field, whose type makes this kind, as `fields_added` takes it
abbrev pub field_added : Option Kind → Item → List FieldName → Option (List FieldName)
field_added plain item fields = do
  kind ← lengthened plain item.len
  ok ← when (not (same_kind kind closure) && not (is_some (field_named 0 fields item.name)))
  Some (fields ++ record { name = item.name; kind = kind } ∷ [])

-- one more formal parameter, as `formals_added` takes it
abbrev pub formal_added : List StructureName → formal_tree.Formal → Scope → Option (Formal × Scope)
formal_added structures formal scope = do
  kind ← declared_kind structures formal.ty formal.item.len
  ok ← when (not (is_here formal.item.name scope))
  Some (record { kind = kind; output = formal.output }, with_variable formal.item.name kind formal.output scope)

-- the formal parameters and the body of a function, in the scope round the parameters
abbrev pub inside_function : Function → Sight → Kind → Scope → Option ((List Formal × List TypedStmt) × Scope)
inside_function f sight returned scope = do
  formals ← formals_added sight.structures f.formals scope
  ok ← when (not (is_taken sight f.name (formal_kinds (formals.0))))
  body ← body_typed (record { sight = sight; result = returned }) f.body (enter (formals.1))
  Some ((formals.0, body.0), body.1)

-- a function, by what is declared above it
abbrev pub function_typed : Function → Sight → Option TypedFunction
function_typed f sight = do
  result ← result_kind sight.structures f.result
  inside ← inside_function f sight result (enter (outermost (λ g. false)))
  Some (record { result = result; formals = inside.0.0; frame = (inside.1).kinds; body = inside.0.1 })

-- the parameters and the body of a shader, in the scope round both
abbrev pub inside_shader : Shader → Sight → Scope → Option ((List TypedParam × List TypedStmt) × Scope)
inside_shader shader sight scope = do
  params ← params_added sight shader.params scope
  body ← body_typed (record { sight = sight; result = Void }) shader.body (params.1)
  Some ((params.0, body.0), body.1)

-- the parameters of a shader, the kinds of all its variables, and its body
abbrev pub framed_shader : Shader → Sight → Option (List TypedParam × List Kind × List TypedStmt)
framed_shader shader sight = do
  inside ← inside_shader shader sight (enter (outermost (is_assignable_global shader.kind)))
  Some (inside.0.0, (inside.1).kinds, inside.0.1)
