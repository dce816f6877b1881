use Rattle.std.proofs.Common.{pos, [], refl}
use Rattle.osl_value.specs.declared.closure.Primitive.TheVariants.{Emission, Background, Holdout, Transparent}
use Rattle.osl_value.specs.declared.op_name.OpName.TheVariants.{Empty, ClEmission, ClBackground, ClHoldout, ClTransparent}
use Rattle.osl_value.specs.Closures.{no_normal, primitive}
use Rattle.osl_value.specs.Forms.{AClosure}
use Rattle.osl_apply.proofs.Counts.{given}
use Rattle.osl_apply.proofs.Left.{none_left_of_none}
use Rattle.osl_apply.proofs.Forms.{zero_at, zero_gives, ok_is}
use Rattle.osl_apply.proofs.Numbers.{no_int_none}
use Rattle.osl_value.specs.Table.{table}
use Rattle.osl_apply.proofs.unary.nullary.Goals as goal

pub unreachable-requires : goal.unreachable-requires
unreachable-requires c =
    none_left_of_none c.args.name (given c.args.name c.args.ty [] 0 refl c.requires.no_matrix (no_int_none (table c.args.name) c.args.ty) c.requires.takes)
    c.in_default.not-Empty c.in_default.not-ClEmission c.in_default.not-ClBackground c.in_default.not-ClHoldout c.in_default.not-ClTransparent

pub returns-in-Empty : goal.returns-in-Empty
returns-in-Empty c = zero_gives (zero_at c.args.name Empty AClosure [] c.args.ty c.in-Empty.is refl c.requires.takes) c.empty.result c.empty.ensures

pub returns-in-ClEmission : goal.returns-in-ClEmission
returns-in-ClEmission c =
    ok_is _ _ _ (zero_gives (zero_at c.args.name ClEmission AClosure (primitive Emission no_normal (pos 0) []) c.args.ty c.in-ClEmission.is refl c.requires.takes) _ refl) c.bare.ensures

pub returns-in-ClBackground : goal.returns-in-ClBackground
returns-in-ClBackground c =
    ok_is _ _ _ (zero_gives (zero_at c.args.name ClBackground AClosure (primitive Background no_normal (pos 0) []) c.args.ty c.in-ClBackground.is refl c.requires.takes) _ refl) c.bare-in-ClBackground.ensures

pub returns-in-ClHoldout : goal.returns-in-ClHoldout
returns-in-ClHoldout c =
    ok_is _ _ _ (zero_gives (zero_at c.args.name ClHoldout AClosure (primitive Holdout no_normal (pos 0) []) c.args.ty c.in-ClHoldout.is refl c.requires.takes) _ refl) c.bare-in-ClHoldout.ensures

pub returns-in-ClTransparent : goal.returns-in-ClTransparent
returns-in-ClTransparent c =
    ok_is _ _ _ (zero_gives (zero_at c.args.name ClTransparent AClosure (primitive Transparent no_normal (pos 0) []) c.args.ty c.in-ClTransparent.is refl c.requires.takes) _ refl) c.bare-in-ClTransparent.ensures
