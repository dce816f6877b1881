use Rattle.std.proofs.Common.{pos, [], ◌∷◌, refl, sym, ap, ◌∙◌, rules, arith, w32, to_z, of_z}
use Rattle.std.proofs.lemmas.Int.{to_z-of_z}
use Rattle.osl_value.specs.declared.closure.Primitive.TheVariants.{Diffuse, Translucent, Debug}
use Rattle.osl_value.specs.declared.op_name.OpName.TheVariants.{ToInt, Length, Normalize, StrLen, ClDiffuse, ClTranslucent, ClDebug}
use Rattle.osl_value.specs.declared.types.Ty.{Ty}
use Rattle.osl_value.specs.AnyValue.{type_of, numbers_of, with_numbers}
use Rattle.osl_value.specs.Closures.{no_normal, primitive}
use Rattle.osl_value.specs.Forms.{AnInt, AFloat, ATriple, ANormal, AString, AClosure}
use Rattle.osl_value.specs.Geometry.{length_of, normalize}
use Rattle.osl_value.specs.Laws.{int_value}
use Rattle.osl_value.specs.Numbers.{fx_to_int, int_not}
use Rattle.osl_value.specs.Strings.{strlen}
use Rattle.osl_value.specs.Table.{table}
use Rattle.osl_apply.specs.Slots.{seen}
use Rattle.osl_apply.proofs.Counts.{given, not_assign}
use Rattle.osl_apply.proofs.Forms.{written_is, one_at, one_gives, ok_is, float_seen, text_seen, normal_is_triple, triple_base}
use Rattle.osl_apply.proofs.Left.{none_left_of_one}
use Rattle.osl_apply.proofs.Numbers.{on_one_int, one_float, no_int_one}
use Rattle.osl_apply.proofs.Others.{assigned_at, not_at, length_at}
use Rattle.osl_apply.proofs.unary.unary.Goals as goal

pub assigned-requires-clause-fits : goal.assigned-requires-clause-fits
assigned-requires-clause-fits c = (assigned_at c.args.name c.args.ty (seen c.args.a.now) c.in-Assign.is c.requires.takes).fits_it

pub returns-in-Assign : goal.returns-in-Assign
returns-in-Assign c = ok_is _ _ _ (sym (assigned_at c.args.name c.args.ty (seen c.args.a.now) c.in-Assign.is c.requires.takes).value) c.assigned.ensures

pub ints-requires : goal.ints-requires
ints-requires c = let e = (on_one_int c.args.name c.args.ty (seen c.args.a.now) (to_z w32 (of_z w32 c.in-Some.n)) (pos 0) (not_assign c.args.name c.in_default.not-Assign) c.requires.no_matrix (c.in-Some.ensures ∙ ap int_value (sym (to_z-of_z w32 c.in-Some.n (search rules)))) c.requires.takes).takes_them in record { some = omega (arith, e); at_most_two = omega (arith, e) }

pub returns-in-Some : goal.returns-in-Some
returns-in-Some c = ap int_value (to_z-of_z w32 c.ints.result (search rules) ∙ c.ints.ensures) ∙ (on_one_int c.args.name c.args.ty (seen c.args.a.now) (to_z w32 (of_z w32 c.in-Some.n)) (pos 0) (not_assign c.args.name c.in_default.not-Assign) c.requires.no_matrix (c.in-Some.ensures ∙ ap int_value (sym (to_z-of_z w32 c.in-Some.n (search rules)))) c.requires.takes).value

pub on_one-requires-clause-types : goal.on_one-requires-clause-types
on_one-requires-clause-types c = one_float c.args.name c.args.ty (seen c.args.a.now) (search rules) c.in_default-as_int.ensures c.requires.takes

pub float-requires : goal.float-requires
float-requires c = (one_at c.args.name ToInt AFloat AnInt fx_to_int c.args.ty (seen c.args.a.now) c.in-ToInt.is refl c.requires.takes).reads

pub returns-in-ToInt : goal.returns-in-ToInt
returns-in-ToInt c = one_gives (one_at c.args.name ToInt AFloat AnInt fx_to_int c.args.ty (seen c.args.a.now) c.in-ToInt.is refl c.requires.takes) _ (to_z-of_z w32 c.to_int.result (search rules) ∙ c.to_int.ensures ∙ ap fx_to_int (float_seen (seen c.args.a.now) c.float.result c.float.ensures))

pub float-requires-in-Not : goal.float-requires-in-Not
float-requires-in-Not c = (not_at c.args.name c.args.ty (seen c.args.a.now) c.in-Not.is c.in_default-as_int.ensures c.requires.takes).reads

pub returns-in-Not : goal.returns-in-Not
returns-in-Not c = one_gives (not_at c.args.name c.args.ty (seen c.args.a.now) c.in-Not.is c.in_default-as_int.ensures c.requires.takes) _ (to_z-of_z w32 c.negation.result (search rules) ∙ c.negation.ensures ∙ ap int_not (float_seen (seen c.args.a.now) c.float-in-Not.result c.float-in-Not.ensures))

pub array_length-requires : goal.array_length-requires
array_length-requires c = c.ty.ensures.short

pub returns-in-ArrayLength : goal.returns-in-ArrayLength
returns-in-ArrayLength c = written_is AnInt c.args.ty _ (length_at c.args.name c.args.ty (seen c.args.a.now) c.in-ArrayLength.is c.requires.takes).writes ∙ ap (λ n. with_numbers c.args.ty (n ∷ [])) (to_z-of_z w32 c.array_length.result (search rules) ∙ c.array_length.ensures ∙ ap (λ (t : Ty). pos t.len) c.ty.ensures.value) ∙ sym (length_at c.args.name c.args.ty (seen c.args.a.now) c.in-ArrayLength.is c.requires.takes).value

pub triple-requires : goal.triple-requires
triple-requires c = (one_at c.args.name Length ATriple AFloat length_of c.args.ty (seen c.args.a.now) c.in-Length.is refl c.requires.takes).reads

pub returns-in-Length : goal.returns-in-Length
returns-in-Length c = one_gives (one_at c.args.name Length ATriple AFloat length_of c.args.ty (seen c.args.a.now) c.in-Length.is refl c.requires.takes) c.length.result (c.length.ensures ∙ ap length_of (ap numbers_of (sym c.triple.ensures)))

pub triple-requires-in-Normalize : goal.triple-requires-in-Normalize
triple-requires-in-Normalize c = (one_at c.args.name Normalize ATriple ATriple normalize c.args.ty (seen c.args.a.now) c.in-Normalize.is refl c.requires.takes).reads

pub triple_slot-requires : goal.triple_slot-requires
triple_slot-requires c = triple_base c.args.ty (one_at c.args.name Normalize ATriple ATriple normalize c.args.ty (seen c.args.a.now) c.in-Normalize.is refl c.requires.takes).writes

pub returns-in-Normalize : goal.returns-in-Normalize
returns-in-Normalize c = c.triple_slot.ensures ∙ one_gives (one_at c.args.name Normalize ATriple ATriple normalize c.args.ty (seen c.args.a.now) c.in-Normalize.is refl c.requires.takes) c.normalize.result (c.normalize.ensures ∙ ap normalize (ap numbers_of (sym c.triple-in-Normalize.ensures)))

pub text-requires : goal.text-requires
text-requires c = (one_at c.args.name StrLen AString AnInt strlen c.args.ty (seen c.args.a.now) c.in-StrLen.is refl c.requires.takes).reads

pub returns-in-StrLen : goal.returns-in-StrLen
returns-in-StrLen c = one_gives (one_at c.args.name StrLen AString AnInt strlen c.args.ty (seen c.args.a.now) c.in-StrLen.is refl c.requires.takes) _ (to_z-of_z w32 c.strlen.result (search rules) ∙ c.strlen.ensures ∙ ap strlen (text_seen (seen c.args.a.now) _ c.text.ensures))

pub triple-requires-in-ClDiffuse : goal.triple-requires-in-ClDiffuse
triple-requires-in-ClDiffuse c = normal_is_triple (type_of (seen c.args.a.now)) (one_at c.args.name ClDiffuse ANormal AClosure (λ normal. primitive Diffuse normal (pos 0) []) c.args.ty (seen c.args.a.now) c.in-ClDiffuse.is refl c.requires.takes).reads

pub returns-in-ClDiffuse : goal.returns-in-ClDiffuse
returns-in-ClDiffuse c = ok_is _ _ _ (one_gives (one_at c.args.name ClDiffuse ANormal AClosure (λ normal. primitive Diffuse normal (pos 0) []) c.args.ty (seen c.args.a.now) c.in-ClDiffuse.is refl c.requires.takes) _ (ap (λ normal. primitive Diffuse normal (pos 0) []) (ap numbers_of (sym c.triple-in-ClDiffuse.ensures)))) c.facing.ensures

pub triple-requires-in-ClTranslucent : goal.triple-requires-in-ClTranslucent
triple-requires-in-ClTranslucent c = normal_is_triple (type_of (seen c.args.a.now)) (one_at c.args.name ClTranslucent ANormal AClosure (λ normal. primitive Translucent normal (pos 0) []) c.args.ty (seen c.args.a.now) c.in-ClTranslucent.is refl c.requires.takes).reads

pub returns-in-ClTranslucent : goal.returns-in-ClTranslucent
returns-in-ClTranslucent c = ok_is _ _ _ (one_gives (one_at c.args.name ClTranslucent ANormal AClosure (λ normal. primitive Translucent normal (pos 0) []) c.args.ty (seen c.args.a.now) c.in-ClTranslucent.is refl c.requires.takes) _ (ap (λ normal. primitive Translucent normal (pos 0) []) (ap numbers_of (sym c.triple-in-ClTranslucent.ensures)))) c.facing-in-ClTranslucent.ensures

pub text-requires-in-ClDebug : goal.text-requires-in-ClDebug
text-requires-in-ClDebug c = (one_at c.args.name ClDebug AString AClosure (λ text. primitive Debug no_normal (pos 0) text) c.args.ty (seen c.args.a.now) c.in-ClDebug.is refl c.requires.takes).reads

pub returns-in-ClDebug : goal.returns-in-ClDebug
returns-in-ClDebug c = ok_is _ _ _ (one_gives (one_at c.args.name ClDebug AString AClosure (λ text. primitive Debug no_normal (pos 0) text) c.args.ty (seen c.args.a.now) c.in-ClDebug.is refl c.requires.takes) _ (ap (λ text. primitive Debug no_normal (pos 0) text) (text_seen (seen c.args.a.now) _ c.text-in-ClDebug.ensures))) c.labelled.ensures

pub unreachable-requires : goal.unreachable-requires
unreachable-requires c =
    none_left_of_one c.args.name (given c.args.name c.args.ty ((seen c.args.a.now) ∷ []) 1 refl c.requires.no_matrix (no_int_one (table c.args.name) c.args.ty (type_of (seen c.args.a.now)) c.in_default-as_int.ensures) c.requires.takes)
    c.in_default.not-Assign c.in_default-name.not-ToInt c.in_default-name.not-Neg c.in_default-name.not-Not c.in_default-name.not-ArrayLength c.in_default-name.not-Abs c.in_default-name.not-Sign c.in_default-name.not-Floor c.in_default-name.not-Ceil c.in_default-name.not-Round c.in_default-name.not-Trunc c.in_default-name.not-Sqrt c.in_default-name.not-InverseSqrt c.in_default-name.not-Length c.in_default-name.not-Normalize c.in_default-name.not-StrLen c.in_default-name.not-ClDiffuse c.in_default-name.not-ClTranslucent c.in_default-name.not-ClDebug
