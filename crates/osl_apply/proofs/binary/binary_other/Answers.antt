use Rattle.std.proofs.Common.{[], ◌∷◌, refl, sym, ap, ◌∙◌, rules, w32}
use Rattle.std.proofs.lemmas.Int.{to_z-of_z}
use Rattle.osl_value.specs.declared.closure.Primitive.TheVariants.{OrenNayar, Reflection, Refraction}
use Rattle.osl_value.specs.declared.op_name.OpName.TheVariants.{CompRef, Dot, Distance, Cross, Concat, StartsWith, EndsWith, GetChar, ClOrenNayar, ClReflection, ClRefraction}
use Rattle.osl_value.specs.AnyValue.{type_of, numbers_of, with_numbers, element_of}
use Rattle.osl_value.specs.Closures.{primitive}
use Rattle.osl_value.specs.Forms.{AnInt, AFloat, ANumber, ATriple, ANormal, AString, AClosure}
use Rattle.osl_value.specs.Geometry.{compref, dot, distance, cross, transform, place}
use Rattle.osl_value.specs.Strings.{concat, startswith, endswith, getchar}
use Rattle.osl_value.specs.Table.{table}
use Rattle.osl_apply.specs.Slots.{seen}
use Rattle.osl_apply.proofs.Counts.{given}
use Rattle.osl_apply.proofs.Forms.{written_is, two_at, two_gives, ok_is, int_seen, text_seen, number_seen, normal_is_triple, triple_base}
use Rattle.osl_apply.proofs.Left.{none_left_of_two}
use Rattle.osl_apply.proofs.Numbers.{no_int_two}
use Rattle.osl_apply.proofs.Special.{element_at, element_no_matrix, transform_at}
use Rattle.std.proofs.lemmas.Bool.{false≢true}
use Rattle.osl_value.specs.Numbers.{arity}
use Rattle.osl_apply.specs.Operands.{is_comparison}
use Rattle.osl_apply.proofs.binary.binary_other.Goals as goal

pub int-requires : goal.int-requires
int-requires c = (element_at c.args.name c.args.ty (seen c.args.a.now) (seen c.args.b.now) c.in-ARef.is c.requires.takes).index

pub read_element-requires-clause-array : goal.read_element-requires-clause-array
read_element-requires-clause-array c = (element_at c.args.name c.args.ty (seen c.args.a.now) (seen c.args.b.now) c.in-ARef.is c.requires.takes).array

pub read_element-requires-clause-no_matrix : goal.read_element-requires-clause-no_matrix
read_element-requires-clause-no_matrix c = λ e. element_no_matrix c.args.ty (type_of (seen c.args.a.now)) c.requires.no_matrix (element_at c.args.name c.args.ty (seen c.args.a.now) (seen c.args.b.now) c.in-ARef.is c.requires.takes).writes e

pub returns-in-ARef : goal.returns-in-ARef
returns-in-ARef c = ok_is _ _ _ (ap (λ n. element_of (seen c.args.a.now) (place n (type_of (seen c.args.a.now)).len)) (to_z-of_z w32 c.int.result (search rules) ∙ (int_seen (seen c.args.b.now) _ c.int.ensures)) ∙ sym (element_at c.args.name c.args.ty (seen c.args.a.now) (seen c.args.b.now) c.in-ARef.is c.requires.takes).value) c.read_element.ensures

pub triple-requires : goal.triple-requires
triple-requires c = (two_at c.args.name CompRef ATriple AnInt AFloat compref c.args.ty (seen c.args.a.now) (seen c.args.b.now) c.in-CompRef.is refl c.requires.takes).first

pub int-requires-in-CompRef : goal.int-requires-in-CompRef
int-requires-in-CompRef c = (two_at c.args.name CompRef ATriple AnInt AFloat compref c.args.ty (seen c.args.a.now) (seen c.args.b.now) c.in-CompRef.is refl c.requires.takes).second

pub returns-in-CompRef : goal.returns-in-CompRef
returns-in-CompRef c = two_gives (two_at c.args.name CompRef ATriple AnInt AFloat compref c.args.ty (seen c.args.a.now) (seen c.args.b.now) c.in-CompRef.is refl c.requires.takes) _ (c.component.ensures ∙ λ i. compref ((ap numbers_of (sym c.triple.ensures)) i) ((to_z-of_z w32 c.int-in-CompRef.result (search rules) ∙ (int_seen (seen c.args.b.now) _ c.int-in-CompRef.ensures)) i))

pub triple-requires-in-Dot : goal.triple-requires-in-Dot
triple-requires-in-Dot c = (two_at c.args.name Dot ATriple ATriple AFloat dot c.args.ty (seen c.args.a.now) (seen c.args.b.now) c.in-Dot.is refl c.requires.takes).first

pub triple-requires-in-Dot-2 : goal.triple-requires-in-Dot-2
triple-requires-in-Dot-2 c = (two_at c.args.name Dot ATriple ATriple AFloat dot c.args.ty (seen c.args.a.now) (seen c.args.b.now) c.in-Dot.is refl c.requires.takes).second

pub returns-in-Dot : goal.returns-in-Dot
returns-in-Dot c = two_gives (two_at c.args.name Dot ATriple ATriple AFloat dot c.args.ty (seen c.args.a.now) (seen c.args.b.now) c.in-Dot.is refl c.requires.takes) _ (c.dot.ensures ∙ λ i. dot ((ap numbers_of (sym c.triple-in-Dot.ensures)) i) ((ap numbers_of (sym c.triple-in-Dot-2.ensures)) i))

pub triple-requires-in-Distance : goal.triple-requires-in-Distance
triple-requires-in-Distance c = (two_at c.args.name Distance ATriple ATriple AFloat distance c.args.ty (seen c.args.a.now) (seen c.args.b.now) c.in-Distance.is refl c.requires.takes).first

pub triple-requires-in-Distance-2 : goal.triple-requires-in-Distance-2
triple-requires-in-Distance-2 c = (two_at c.args.name Distance ATriple ATriple AFloat distance c.args.ty (seen c.args.a.now) (seen c.args.b.now) c.in-Distance.is refl c.requires.takes).second

pub returns-in-Distance : goal.returns-in-Distance
returns-in-Distance c = two_gives (two_at c.args.name Distance ATriple ATriple AFloat distance c.args.ty (seen c.args.a.now) (seen c.args.b.now) c.in-Distance.is refl c.requires.takes) _ (c.distance.ensures ∙ λ i. distance ((ap numbers_of (sym c.triple-in-Distance.ensures)) i) ((ap numbers_of (sym c.triple-in-Distance-2.ensures)) i))

pub triple-requires-in-Cross : goal.triple-requires-in-Cross
triple-requires-in-Cross c = (two_at c.args.name Cross ATriple ATriple ATriple cross c.args.ty (seen c.args.a.now) (seen c.args.b.now) c.in-Cross.is refl c.requires.takes).first

pub triple-requires-in-Cross-2 : goal.triple-requires-in-Cross-2
triple-requires-in-Cross-2 c = (two_at c.args.name Cross ATriple ATriple ATriple cross c.args.ty (seen c.args.a.now) (seen c.args.b.now) c.in-Cross.is refl c.requires.takes).second

pub triple_slot-requires : goal.triple_slot-requires
triple_slot-requires c = triple_base c.args.ty (two_at c.args.name Cross ATriple ATriple ATriple cross c.args.ty (seen c.args.a.now) (seen c.args.b.now) c.in-Cross.is refl c.requires.takes).writes

pub returns-in-Cross : goal.returns-in-Cross
returns-in-Cross c = c.triple_slot.ensures ∙ two_gives (two_at c.args.name Cross ATriple ATriple ATriple cross c.args.ty (seen c.args.a.now) (seen c.args.b.now) c.in-Cross.is refl c.requires.takes) c.cross.result (c.cross.ensures ∙ λ i. cross ((ap numbers_of (sym c.triple-in-Cross.ensures)) i) ((ap numbers_of (sym c.triple-in-Cross-2.ensures)) i))

pub matrix-requires : goal.matrix-requires
matrix-requires c = (transform_at c.args.name c.args.ty (seen c.args.a.now) (seen c.args.b.now) c.in-Transform.is c.requires.takes).first

pub triple-requires-in-Transform : goal.triple-requires-in-Transform
triple-requires-in-Transform c = (transform_at c.args.name c.args.ty (seen c.args.a.now) (seen c.args.b.now) c.in-Transform.is c.requires.takes).second

pub triple_slot-requires-in-Transform : goal.triple_slot-requires-in-Transform
triple_slot-requires-in-Transform c = triple_base c.args.ty (transform_at c.args.name c.args.ty (seen c.args.a.now) (seen c.args.b.now) c.in-Transform.is c.requires.takes).writes

pub returns-in-Transform : goal.returns-in-Transform
returns-in-Transform c = c.triple_slot-in-Transform.ensures ∙ written_is ATriple c.args.ty c.transform.result (transform_at c.args.name c.args.ty (seen c.args.a.now) (seen c.args.b.now) c.in-Transform.is c.requires.takes).writes
    ∙ ap (with_numbers c.args.ty) (c.transform.ensures ∙ λ i. transform (c.is_point.ensures i) ((ap numbers_of (sym c.matrix.ensures)) i) ((ap numbers_of (sym c.triple-in-Transform.ensures)) i)) ∙ sym (transform_at c.args.name c.args.ty (seen c.args.a.now) (seen c.args.b.now) c.in-Transform.is c.requires.takes).value

pub text-requires : goal.text-requires
text-requires c = (two_at c.args.name Concat AString AString AString concat c.args.ty (seen c.args.a.now) (seen c.args.b.now) c.in-Concat.is refl c.requires.takes).first

pub text-requires-in-Concat : goal.text-requires-in-Concat
text-requires-in-Concat c = (two_at c.args.name Concat AString AString AString concat c.args.ty (seen c.args.a.now) (seen c.args.b.now) c.in-Concat.is refl c.requires.takes).second

pub returns-in_ok-concat-in-Concat : goal.returns-in_ok-concat-in-Concat
returns-in_ok-concat-in-Concat c = two_gives (two_at c.args.name Concat AString AString AString concat c.args.ty (seen c.args.a.now) (seen c.args.b.now) c.in-Concat.is refl c.requires.takes) _ (c.in_ok-concat-in-Concat.ensures ∙ λ i. concat ((text_seen (seen c.args.a.now) _ c.text.ensures) i) ((text_seen (seen c.args.b.now) _ c.text-in-Concat.ensures) i))

pub text-requires-in-StartsWith : goal.text-requires-in-StartsWith
text-requires-in-StartsWith c = (two_at c.args.name StartsWith AString AString AnInt startswith c.args.ty (seen c.args.a.now) (seen c.args.b.now) c.in-StartsWith.is refl c.requires.takes).first

pub text-requires-in-StartsWith-2 : goal.text-requires-in-StartsWith-2
text-requires-in-StartsWith-2 c = (two_at c.args.name StartsWith AString AString AnInt startswith c.args.ty (seen c.args.a.now) (seen c.args.b.now) c.in-StartsWith.is refl c.requires.takes).second

pub returns-in-StartsWith : goal.returns-in-StartsWith
returns-in-StartsWith c = two_gives (two_at c.args.name StartsWith AString AString AnInt startswith c.args.ty (seen c.args.a.now) (seen c.args.b.now) c.in-StartsWith.is refl c.requires.takes) _ (to_z-of_z w32 c.startswith.result (search rules) ∙ c.startswith.ensures ∙ λ i. startswith ((text_seen (seen c.args.a.now) _ c.text-in-StartsWith.ensures) i) ((text_seen (seen c.args.b.now) _ c.text-in-StartsWith-2.ensures) i))

pub text-requires-in-EndsWith : goal.text-requires-in-EndsWith
text-requires-in-EndsWith c = (two_at c.args.name EndsWith AString AString AnInt endswith c.args.ty (seen c.args.a.now) (seen c.args.b.now) c.in-EndsWith.is refl c.requires.takes).first

pub text-requires-in-EndsWith-2 : goal.text-requires-in-EndsWith-2
text-requires-in-EndsWith-2 c = (two_at c.args.name EndsWith AString AString AnInt endswith c.args.ty (seen c.args.a.now) (seen c.args.b.now) c.in-EndsWith.is refl c.requires.takes).second

pub returns-in-EndsWith : goal.returns-in-EndsWith
returns-in-EndsWith c = two_gives (two_at c.args.name EndsWith AString AString AnInt endswith c.args.ty (seen c.args.a.now) (seen c.args.b.now) c.in-EndsWith.is refl c.requires.takes) _ (to_z-of_z w32 c.endswith.result (search rules) ∙ c.endswith.ensures ∙ λ i. endswith ((text_seen (seen c.args.a.now) _ c.text-in-EndsWith.ensures) i) ((text_seen (seen c.args.b.now) _ c.text-in-EndsWith-2.ensures) i))

pub text-requires-in-GetChar : goal.text-requires-in-GetChar
text-requires-in-GetChar c = (two_at c.args.name GetChar AString AnInt AnInt getchar c.args.ty (seen c.args.a.now) (seen c.args.b.now) c.in-GetChar.is refl c.requires.takes).first

pub int-requires-in-GetChar : goal.int-requires-in-GetChar
int-requires-in-GetChar c = (two_at c.args.name GetChar AString AnInt AnInt getchar c.args.ty (seen c.args.a.now) (seen c.args.b.now) c.in-GetChar.is refl c.requires.takes).second

pub returns-in-GetChar : goal.returns-in-GetChar
returns-in-GetChar c = two_gives (two_at c.args.name GetChar AString AnInt AnInt getchar c.args.ty (seen c.args.a.now) (seen c.args.b.now) c.in-GetChar.is refl c.requires.takes) _ (to_z-of_z w32 c.getchar.result (search rules) ∙ c.getchar.ensures ∙ λ i. getchar ((text_seen (seen c.args.a.now) _ c.text-in-GetChar.ensures) i) ((to_z-of_z w32 c.int-in-GetChar.result (search rules) ∙ (int_seen (seen c.args.b.now) _ c.int-in-GetChar.ensures)) i))

pub triple-requires-in-ClOrenNayar : goal.triple-requires-in-ClOrenNayar
triple-requires-in-ClOrenNayar c = normal_is_triple (type_of (seen c.args.a.now)) (two_at c.args.name ClOrenNayar ANormal ANumber AClosure (λ normal number. primitive OrenNayar normal number []) c.args.ty (seen c.args.a.now) (seen c.args.b.now) c.in-ClOrenNayar.is refl c.requires.takes).first

pub number-requires : goal.number-requires
number-requires c = (two_at c.args.name ClOrenNayar ANormal ANumber AClosure (λ normal number. primitive OrenNayar normal number []) c.args.ty (seen c.args.a.now) (seen c.args.b.now) c.in-ClOrenNayar.is refl c.requires.takes).second

pub returns-in-ClOrenNayar : goal.returns-in-ClOrenNayar
returns-in-ClOrenNayar c = ok_is _ _ _ (two_gives (two_at c.args.name ClOrenNayar ANormal ANumber AClosure (λ normal number. primitive OrenNayar normal number []) c.args.ty (seen c.args.a.now) (seen c.args.b.now) c.in-ClOrenNayar.is refl c.requires.takes) _ (λ i. primitive OrenNayar ((ap numbers_of (sym c.triple-in-ClOrenNayar.ensures)) i) ((number_seen (seen c.args.b.now) _ c.number.ensures.floats) i) [])) c.measured.ensures

pub triple-requires-in-ClReflection : goal.triple-requires-in-ClReflection
triple-requires-in-ClReflection c = normal_is_triple (type_of (seen c.args.a.now)) (two_at c.args.name ClReflection ANormal ANumber AClosure (λ normal number. primitive Reflection normal number []) c.args.ty (seen c.args.a.now) (seen c.args.b.now) c.in-ClReflection.is refl c.requires.takes).first

pub number-requires-in-ClReflection : goal.number-requires-in-ClReflection
number-requires-in-ClReflection c = (two_at c.args.name ClReflection ANormal ANumber AClosure (λ normal number. primitive Reflection normal number []) c.args.ty (seen c.args.a.now) (seen c.args.b.now) c.in-ClReflection.is refl c.requires.takes).second

pub returns-in-ClReflection : goal.returns-in-ClReflection
returns-in-ClReflection c = ok_is _ _ _ (two_gives (two_at c.args.name ClReflection ANormal ANumber AClosure (λ normal number. primitive Reflection normal number []) c.args.ty (seen c.args.a.now) (seen c.args.b.now) c.in-ClReflection.is refl c.requires.takes) _ (λ i. primitive Reflection ((ap numbers_of (sym c.triple-in-ClReflection.ensures)) i) ((number_seen (seen c.args.b.now) _ c.number-in-ClReflection.ensures.floats) i) [])) c.measured-in-ClReflection.ensures

pub triple-requires-in-ClRefraction : goal.triple-requires-in-ClRefraction
triple-requires-in-ClRefraction c = normal_is_triple (type_of (seen c.args.a.now)) (two_at c.args.name ClRefraction ANormal ANumber AClosure (λ normal number. primitive Refraction normal number []) c.args.ty (seen c.args.a.now) (seen c.args.b.now) c.in-ClRefraction.is refl c.requires.takes).first

pub number-requires-in-ClRefraction : goal.number-requires-in-ClRefraction
number-requires-in-ClRefraction c = (two_at c.args.name ClRefraction ANormal ANumber AClosure (λ normal number. primitive Refraction normal number []) c.args.ty (seen c.args.a.now) (seen c.args.b.now) c.in-ClRefraction.is refl c.requires.takes).second

pub returns-in-ClRefraction : goal.returns-in-ClRefraction
returns-in-ClRefraction c = ok_is _ _ _ (two_gives (two_at c.args.name ClRefraction ANormal ANumber AClosure (λ normal number. primitive Refraction normal number []) c.args.ty (seen c.args.a.now) (seen c.args.b.now) c.in-ClRefraction.is refl c.requires.takes) _ (λ i. primitive Refraction ((ap numbers_of (sym c.triple-in-ClRefraction.ensures)) i) ((number_seen (seen c.args.b.now) _ c.number-in-ClRefraction.ensures.floats) i) [])) c.measured-in-ClRefraction.ensures

pub unreachable-requires : goal.unreachable-requires
unreachable-requires c =
    none_left_of_two c.args.name (given c.args.name c.args.ty ((seen c.args.a.now) ∷ (seen c.args.b.now) ∷ []) 2 refl c.requires.no_matrix (no_int_two (table c.args.name) c.args.ty (type_of (seen c.args.a.now)) (type_of (seen c.args.b.now)) c.requires.no_ints) c.requires.takes)
    (λ e. c.requires.no_arithmetic (ap (λ n. arity (table n).floats) e)) (λ e. c.requires.no_arithmetic (ap (λ n. arity (table n).floats) e)) (λ e. c.requires.no_arithmetic (ap (λ n. arity (table n).floats) e)) (λ e. c.requires.no_arithmetic (ap (λ n. arity (table n).floats) e)) (λ e. c.requires.no_arithmetic (ap (λ n. arity (table n).floats) e)) (λ e. c.requires.no_arithmetic (ap (λ n. arity (table n).floats) e)) (λ e. c.requires.no_arithmetic (ap (λ n. arity (table n).floats) e)) (λ e. c.requires.no_arithmetic (ap (λ n. arity (table n).floats) e)) (λ e. c.requires.no_arithmetic (ap (λ n. arity (table n).floats) e))
    (λ e. false≢true (sym c.requires.no_comparison ∙ ap is_comparison e)) (λ e. false≢true (sym c.requires.no_comparison ∙ ap is_comparison e)) (λ e. false≢true (sym c.requires.no_comparison ∙ ap is_comparison e)) (λ e. false≢true (sym c.requires.no_comparison ∙ ap is_comparison e)) (λ e. false≢true (sym c.requires.no_comparison ∙ ap is_comparison e)) (λ e. false≢true (sym c.requires.no_comparison ∙ ap is_comparison e))
    c.in_default.not-ARef c.in_default.not-CompRef c.in_default.not-Dot c.in_default.not-Distance c.in_default.not-Cross c.in_default.not-Transform c.in_default.not-Concat c.in_default.not-StartsWith c.in_default.not-EndsWith c.in_default.not-GetChar c.in_default.not-ClOrenNayar c.in_default.not-ClReflection c.in_default.not-ClRefraction
