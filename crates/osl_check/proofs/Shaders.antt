-- A shader, from its metadata and from what is inside it.
use Rattle.std.proofs.Common.{◌≡◌, false, List, map, sym, ◌∙◌}
use Rattle.std.specs.Prelude.{Some}
use Rattle.osl_overload.specs.declared.signature.Kind.{Kind}
use Rattle.osl_overload.specs.declared.signature.Kind.TheVariants.{Void}
use Rattle.osl_tree.specs.declared.tree.Tree.{Tree}
use Rattle.osl_typed.specs.declared.shader.TypedDatum.{TypedDatum}
use Rattle.osl_typed.specs.declared.shader.TypedParam.{TypedParam}
use Rattle.osl_typed.specs.declared.shader.TypedShader.{TypedShader}
use Rattle.osl_typed.specs.declared.stmt.TypedStmt.{TypedStmt}
use Rattle.osl_typed.specs.Longest.{longest_of}
use Rattle.osl_typed.specs.Scopes.{Scope, enter, outermost, is_assignable_global}
use Rattle.osl_typed.specs.Typing.{◌>>=◌}
use Rattle.osl_typed.specs.BodyTyping.{body_typed}
use Rattle.osl_typed.specs.FileTyping.{Above, kinds_of_fields, metadata_typed, params_added, shader_typed}
use Rattle.osl_check.specs.FileParts.{inside_shader, framed_shader}
use Rattle.osl_check.proofs.Walks.{bind_assoc, within}

abbrev shader_of : Tree → Above → List TypedDatum → List TypedParam × List Kind × List TypedStmt → TypedShader
shader_of tree above metadata framed = record {
  structures = map kinds_of_fields above.sight.structures;
  functions = above.functions;
  kind = tree.shader.kind;
  name = tree.shader.name;
  metadata = metadata;
  params = framed.0;
  frame = framed.1;
  body = framed.2;
  longest_word = (longest_of tree).word;
  longest_text = (longest_of tree).text;
}

-- the shader from its parameters and its body, each with the scope after it
framed_is : (tree : Tree) (above : Above) (metadata : List TypedDatum)
    → (params_added above.sight tree.shader.params (enter (outermost (is_assignable_global tree.shader.kind))) >>= λ params.
    body_typed (record { sight = above.sight; result = Void }) tree.shader.body (params.1) >>= λ body. Some (shader_of tree above metadata (params.0, (body.1).kinds, body.0)))
    ≡ (framed_shader tree.shader above.sight >>= λ framed. Some (shader_of tree above metadata framed))
framed_is tree above metadata =
    sym (within {C = (List TypedParam × List TypedStmt) × Scope} (params_added above.sight tree.shader.params (enter (outermost (is_assignable_global tree.shader.kind))))
    (λ params. body_typed (record { sight = above.sight; result = Void }) tree.shader.body (params.1))
    (λ params body. Some ((params.0, body.0), body.1)) (λ inside. Some (shader_of tree above metadata (inside.0.0, (inside.1).kinds, inside.0.1))))
    ∙ sym (bind_assoc {B = List TypedParam × List Kind × List TypedStmt} (inside_shader tree.shader above.sight (enter (outermost (is_assignable_global tree.shader.kind))))
    (λ inside. Some (inside.0.0, (inside.1).kinds, inside.0.1)) (λ framed. Some (shader_of tree above metadata framed)))

pub shader_is : (tree : Tree) (above : Above) → shader_typed tree above
    ≡ (metadata_typed above.sight (outermost (λ g. false)) tree.shader.metadata >>= λ metadata.
    framed_shader tree.shader above.sight >>= λ framed. Some (shader_of tree above metadata framed))
unfolding shader_typed
shader_is tree above = λ i. metadata_typed above.sight (outermost (λ g. false)) tree.shader.metadata >>= λ metadata. framed_is tree above metadata i
