-- The fields of a structure, the formal parameters of a function and the parameters of a shader, each a list with a state
-- carried along.
use Rattle.std.proofs.Common.{◌≡◌, not, refl, sym, subst, ap, ◌∙◌}
use Rattle.std.specs.Prelude.{◌&&◌, List, [], ◌∷◌, ◌++◌, Option, None, Some, is_some}
use Rattle.osl_overload.specs.Kinds.{same_kind}
use Rattle.osl_overload.specs.declared.signature.Formal.{Formal}
use Rattle.osl_overload.specs.declared.signature.Kind.{Kind}
use Rattle.osl_tree.specs.declared.stmt.Item.{Item}
use Rattle.osl_tree.specs.declared.stmt.TypeName.{TypeName}
use Rattle.osl_typed.specs.BodyTyping.{declared_kind}
use Rattle.osl_typed.specs.FileTyping.{fields_added, formals_added, param_added, params_added}
use Rattle.osl_typed.specs.Operators.{closure}
use Rattle.osl_typed.specs.Scopes.{Scope, Sight, StructureName, FieldName, field_named, is_here, with_variable}
use Rattle.osl_typed.specs.Typing.{◌>>=◌, when}
use Rattle.osl_check.specs.BodyParts.{lengthened}
use Rattle.osl_check.specs.FileParts.{field_added, formal_added}
use Rattle.osl_check.proofs.Bodies.{kind_is}
use Rattle.osl_check.proofs.Walks.{IsCarried, IsGathered, with_first, within}

-- one more field, where the type makes this kind
field_step : (structures : List StructureName) (type : TypeName) (item : Item) (items : List Item) (fields : List FieldName)
    → fields_added structures type (item ∷ items) fields ≡ (field_added (declared_kind structures type None) item fields >>= fields_added structures type items)
unfolding fields_added
field_step structures type item items fields =
    ap (λ (o : Option Kind). o >>= λ kind. when (not (same_kind kind closure) && not (is_some (field_named 0 fields item.name))) >>= λ ok.
    fields_added structures type items (fields ++ record { name = item.name; kind = kind } ∷ [])) (kind_is structures type item.len)
    ∙ sym (within {C = List FieldName} (lengthened (declared_kind structures type None) item.len)
    (λ kind. when (not (same_kind kind closure) && not (is_some (field_named 0 fields item.name))))
    (λ kind ok. Some (fields ++ record { name = item.name; kind = kind } ∷ [])) (fields_added structures type items))

fields_follow : (structures : List StructureName) (type : TypeName) → IsCarried (field_added (declared_kind structures type None)) (fields_added structures type)
unfolding fields_added
fields_follow structures type = record {
  finishes = λ fields. refl;
  steps = field_step structures type;
}

-- the fields of a line, from the kind that its type makes
pub fields_carried : (structures : List StructureName) (type : TypeName) (plain : Option Kind) → plain ≡ declared_kind structures type None
    → IsCarried (field_added plain) (fields_added structures type)
fields_carried structures type plain is = subst (λ p. IsCarried (field_added p) (fields_added structures type)) (sym is) (fields_follow structures type)

pub formals_gathered : (structures : List StructureName) → IsGathered (formal_added structures) (formals_added structures)
unfolding formals_added
formals_gathered structures = record {
  ends = λ scope. refl;
  takes = λ formal formals scope. sym (within {C = Formal × Scope} (declared_kind structures formal.ty formal.item.len) (λ kind. when (not (is_here formal.item.name scope)))
      (λ kind ok. Some (record { kind = kind; output = formal.output }, with_variable formal.item.name kind formal.output scope))
      (λ r. with_first (r.0) (formals_added structures formals (r.1))));
}

pub params_gathered : (sight : Sight) → IsGathered (param_added sight) (params_added sight)
unfolding params_added
params_gathered sight = record {
  ends = λ scope. refl;
  takes = λ param params scope. refl;
}
