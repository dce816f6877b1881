use Rattle.std.proofs.Common.{[], ◌∷◌, refl, sym, ap, ◌∙◌, rules, w32}
use Rattle.std.proofs.lemmas.Int.{to_z-of_z}
use Rattle.osl_value.specs.declared.op_name.OpName.TheVariants.{CompAssign, MxCompRef, SubStr}
use Rattle.osl_value.specs.AnyValue.{type_of, numbers_of, with_numbers}
use Rattle.osl_value.specs.Forms.{AnInt, AFloat, ATriple, AMatrix, AString}
use Rattle.osl_value.specs.Geometry.{compassign, mxcompref}
use Rattle.osl_value.specs.Strings.{substr}
use Rattle.osl_apply.specs.Slots.{seen}
use Rattle.osl_apply.proofs.Counts.{given}
use Rattle.osl_apply.proofs.Forms.{written_is, three_at, three_gives, float_seen, int_seen, text_seen, number_seen, triple_base}
use Rattle.osl_apply.proofs.Left.{none_left_of_three}
use Rattle.osl_apply.proofs.Numbers.{blend_taken, no_int_three}
use Rattle.osl_apply.proofs.Special.{triple_at}
use Rattle.osl_apply.proofs.ternary.ternary.Goals as goal

pub on_three-requires-clause-types : goal.on_three-requires-clause-types
on_three-requires-clause-types c = blend_taken c.args.name c.args.ty ((seen c.args.a.now) ∷ (seen c.args.b.now) ∷ (seen c.args.c.now) ∷ []) c.in-Mix.is c.requires.takes

pub number-requires : goal.number-requires
number-requires c = (triple_at c.args.name c.args.ty (seen c.args.a.now) (seen c.args.b.now) (seen c.args.c.now) c.in-Triple.is c.requires.takes).first

pub number-requires-in-Triple : goal.number-requires-in-Triple
number-requires-in-Triple c = (triple_at c.args.name c.args.ty (seen c.args.a.now) (seen c.args.b.now) (seen c.args.c.now) c.in-Triple.is c.requires.takes).second

pub number-requires-in-Triple-2 : goal.number-requires-in-Triple-2
number-requires-in-Triple-2 c = (triple_at c.args.name c.args.ty (seen c.args.a.now) (seen c.args.b.now) (seen c.args.c.now) c.in-Triple.is c.requires.takes).third

pub triple_slot-requires : goal.triple_slot-requires
triple_slot-requires c = triple_base c.args.ty (triple_at c.args.name c.args.ty (seen c.args.a.now) (seen c.args.b.now) (seen c.args.c.now) c.in-Triple.is c.requires.takes).writes

pub returns-in-Triple : goal.returns-in-Triple
returns-in-Triple c = c.triple_slot.ensures ∙ written_is ATriple c.args.ty _ (triple_at c.args.name c.args.ty (seen c.args.a.now) (seen c.args.b.now) (seen c.args.c.now) c.in-Triple.is c.requires.takes).writes
    ∙ ap (with_numbers c.args.ty) (λ i. (number_seen (seen c.args.a.now) _ c.number.ensures.floats) i ∷ (number_seen (seen c.args.b.now) _ c.number-in-Triple.ensures.floats) i ∷ (number_seen (seen c.args.c.now) _ c.number-in-Triple-2.ensures.floats) i ∷ []) ∙ sym (triple_at c.args.name c.args.ty (seen c.args.a.now) (seen c.args.b.now) (seen c.args.c.now) c.in-Triple.is c.requires.takes).value

pub triple-requires : goal.triple-requires
triple-requires c = (three_at c.args.name CompAssign ATriple AnInt AFloat ATriple compassign c.args.ty (seen c.args.a.now) (seen c.args.b.now) (seen c.args.c.now) c.in-CompAssign.is refl c.requires.takes).first

pub int-requires : goal.int-requires
int-requires c = (three_at c.args.name CompAssign ATriple AnInt AFloat ATriple compassign c.args.ty (seen c.args.a.now) (seen c.args.b.now) (seen c.args.c.now) c.in-CompAssign.is refl c.requires.takes).second

pub float-requires : goal.float-requires
float-requires c = (three_at c.args.name CompAssign ATriple AnInt AFloat ATriple compassign c.args.ty (seen c.args.a.now) (seen c.args.b.now) (seen c.args.c.now) c.in-CompAssign.is refl c.requires.takes).third

pub triple_slot-requires-in-CompAssign : goal.triple_slot-requires-in-CompAssign
triple_slot-requires-in-CompAssign c = triple_base c.args.ty (three_at c.args.name CompAssign ATriple AnInt AFloat ATriple compassign c.args.ty (seen c.args.a.now) (seen c.args.b.now) (seen c.args.c.now) c.in-CompAssign.is refl c.requires.takes).writes

pub returns-in-CompAssign : goal.returns-in-CompAssign
returns-in-CompAssign c = c.triple_slot-in-CompAssign.ensures ∙ three_gives (three_at c.args.name CompAssign ATriple AnInt AFloat ATriple compassign c.args.ty (seen c.args.a.now) (seen c.args.b.now) (seen c.args.c.now) c.in-CompAssign.is refl c.requires.takes) c.with_component.result (c.with_component.ensures ∙ λ i. compassign ((ap numbers_of (sym c.triple.ensures)) i) ((to_z-of_z w32 c.int.result (search rules) ∙ (int_seen (seen c.args.b.now) _ c.int.ensures)) i) (float_seen (seen c.args.c.now) _ c.float.ensures i))

pub matrix-requires : goal.matrix-requires
matrix-requires c = (three_at c.args.name MxCompRef AMatrix AnInt AnInt AFloat mxcompref c.args.ty (seen c.args.a.now) (seen c.args.b.now) (seen c.args.c.now) c.in-MxCompRef.is refl c.requires.takes).first

pub int-requires-in-MxCompRef : goal.int-requires-in-MxCompRef
int-requires-in-MxCompRef c = (three_at c.args.name MxCompRef AMatrix AnInt AnInt AFloat mxcompref c.args.ty (seen c.args.a.now) (seen c.args.b.now) (seen c.args.c.now) c.in-MxCompRef.is refl c.requires.takes).second

pub int-requires-in-MxCompRef-2 : goal.int-requires-in-MxCompRef-2
int-requires-in-MxCompRef-2 c = (three_at c.args.name MxCompRef AMatrix AnInt AnInt AFloat mxcompref c.args.ty (seen c.args.a.now) (seen c.args.b.now) (seen c.args.c.now) c.in-MxCompRef.is refl c.requires.takes).third

pub returns-in-MxCompRef : goal.returns-in-MxCompRef
returns-in-MxCompRef c = three_gives (three_at c.args.name MxCompRef AMatrix AnInt AnInt AFloat mxcompref c.args.ty (seen c.args.a.now) (seen c.args.b.now) (seen c.args.c.now) c.in-MxCompRef.is refl c.requires.takes) _ (c.matrix_component.ensures ∙ λ i. mxcompref ((ap numbers_of (sym c.matrix.ensures)) i) ((to_z-of_z w32 c.int-in-MxCompRef.result (search rules) ∙ (int_seen (seen c.args.b.now) _ c.int-in-MxCompRef.ensures)) i) ((to_z-of_z w32 c.int-in-MxCompRef-2.result (search rules) ∙ (int_seen (seen c.args.c.now) _ c.int-in-MxCompRef-2.ensures)) i))

pub text-requires : goal.text-requires
text-requires c = (three_at c.args.name SubStr AString AnInt AnInt AString substr c.args.ty (seen c.args.a.now) (seen c.args.b.now) (seen c.args.c.now) c.in-SubStr.is refl c.requires.takes).first

pub int-requires-in-SubStr : goal.int-requires-in-SubStr
int-requires-in-SubStr c = (three_at c.args.name SubStr AString AnInt AnInt AString substr c.args.ty (seen c.args.a.now) (seen c.args.b.now) (seen c.args.c.now) c.in-SubStr.is refl c.requires.takes).second

pub int-requires-in-SubStr-2 : goal.int-requires-in-SubStr-2
int-requires-in-SubStr-2 c = (three_at c.args.name SubStr AString AnInt AnInt AString substr c.args.ty (seen c.args.a.now) (seen c.args.b.now) (seen c.args.c.now) c.in-SubStr.is refl c.requires.takes).third

pub returns-in_ok-substr-in-SubStr : goal.returns-in_ok-substr-in-SubStr
returns-in_ok-substr-in-SubStr c = three_gives (three_at c.args.name SubStr AString AnInt AnInt AString substr c.args.ty (seen c.args.a.now) (seen c.args.b.now) (seen c.args.c.now) c.in-SubStr.is refl c.requires.takes) _ (c.in_ok-substr-in-SubStr.ensures ∙ λ i. substr ((text_seen (seen c.args.a.now) _ c.text.ensures) i) ((to_z-of_z w32 c.int-in-SubStr.result (search rules) ∙ (int_seen (seen c.args.b.now) _ c.int-in-SubStr.ensures)) i) ((to_z-of_z w32 c.int-in-SubStr-2.result (search rules) ∙ (int_seen (seen c.args.c.now) _ c.int-in-SubStr-2.ensures)) i))

pub unreachable-requires : goal.unreachable-requires
unreachable-requires c =
    none_left_of_three c.args.name (given c.args.name c.args.ty ((seen c.args.a.now) ∷ (seen c.args.b.now) ∷ (seen c.args.c.now) ∷ []) 3 refl c.requires.no_matrix (no_int_three c.args.name c.args.ty (type_of (seen c.args.a.now)) (type_of (seen c.args.b.now)) (type_of (seen c.args.c.now)) c.in_default.not-Clamp) c.requires.takes)
    c.in_default.not-Clamp c.in_default.not-Mix c.in_default.not-SmoothStep c.in_default.not-Triple c.in_default.not-CompAssign c.requires.no_array c.in_default.not-MxCompRef c.in_default.not-SubStr
