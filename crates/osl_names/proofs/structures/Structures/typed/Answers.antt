use Rattle.std.proofs.Common.{◌≡◌, List, [], ◌∷◌, ◌++◌, length, map, take, ap, ◌∙◌, arith}
use Rattle.std.proofs.Math.Seq.{take-length}
use Rattle.osl_overload.specs.declared.signature.Kind.{Kind}
use Rattle.osl_typed.specs.FileTyping.{kinds_of_fields}
use Rattle.osl_typed.specs.Scopes.{StructureName}
use Rattle.osl_typed.specs.declared.shader.TypedStructure.{TypedStructure}
use Rattle.osl_names.proofs.Placing.{kinds_in, one_more_typed, typed_again}
use Rattle.osl_names.proofs.structures.Structures.typed.Goals as goal

pub loop-fields-preserved : goal.loop-fields-preserved
loop-fields-preserved c =
    let kinds_are = c.in_ok-fields.ensures ∙ c.kinds.ensures in
    one_more_typed c.as_slice-fields-items.result.now c.loop-fields.all c.push.new.self c.loop-fields.fields-index c.fields-item.result c.loop-fields.invariant c.loop-fields-test.true c.fields-item.is
    (c.in_ok-push.ensures.ok ∙ ap (λ (kinds : List Kind). let t : TypedStructure = record { fields = kinds } in c.loop-fields.all ++ t ∷ []) kinds_are)

pub returns : goal.returns
returns c =
    let items = c.as_slice-fields-items.result.now in
    let n : c.loop-fields.fields-index ≡ length items = omega (arith, c.loop-fields.auto.fields-index-end, c.loop-fields-test.false) in
    c.loop-fields.invariant ∙ ap (map kinds_in) (ap (λ k. take k items) n ∙ take-length items ∙ c.as_slice-fields-items.ensures)
    ∙ typed_again c.self.inside.names c.self.inside.fields c.self.invariant.0 ∙ ap (λ (ss : List StructureName). map kinds_of_fields ss) c.self.view_is
