use Rattle.std.proofs.Common.{◌≡◌, true, eqb, sym, ap, ◌∙◌, rules}
use Rattle.std.proofs.lemmas.Bool.{and_from, eq-eqb}
use Rattle.osl_value.specs.Geometry.{repeated}
use Rattle.osl_value.proofs.Seen.{alone}
use Rattle.osl_apply.specs.Operands.{floats_in}
use Rattle.osl_value.specs.declared.types.Base.TheVariants.{Float}
use Rattle.osl_value.specs.declared.types.Ty.{Ty}
use Rattle.osl_value.specs.AnyValue.{type_of, converted, with_numbers}
use Rattle.osl_value.specs.Types.{only, is_triple}
use Rattle.osl_apply.specs.Slots.{seen}
use Rattle.osl_apply.proofs.Converting.{array_assigned, same_converted}
use Rattle.osl_apply.proofs.Forms.{ok_is}
use Rattle.osl_apply.proofs.unary.assigned.Goals as goal

pub copied-requires : goal.copied-requires
copied-requires c = let e = array_assigned c.args.ty (type_of (seen c.args.a.now)) c.if-ty-ne0.true c.requires.fits in λ z. c.if-ty-ne0.true (ap (λ (t : Ty). t.len) e ∙ z)

pub returns-then-ty-ne0 : goal.returns-then-ty-ne0
returns-then-ty-ne0 c =
    ok_is _ _ _ (sym (same_converted c.args.ty (seen c.args.a.now) (array_assigned c.args.ty (type_of (seen c.args.a.now)) c.if-ty-ne0.true c.requires.fits))) c.copied.ensures

pub returns-in-Float : goal.returns-in-Float
returns-in-Float c =
    let ty_is : only Float ≡ c.args.ty = λ i. record { base = sym c.in-Float.is i; len = sym c.if-ty-ne0.false i } in
    sym c.number.ensures.value ∙ ap (λ t. converted t (seen c.args.a.now)) ty_is

pub returns-in-Color : goal.returns-in-Color
returns-in-Color c =
    let triple : is_triple c.args.ty.base ≡ true = search rules in
    let one = and_from (is_triple c.args.ty.base) (eqb c.args.ty.len 0) triple (eq-eqb c.args.ty.len 0 c.if-ty-ne0.false) in
    c.triple_slot.ensures
    ∙ ap (with_numbers (only c.args.ty.base)) c.spread.ensures
    ∙ ap (λ t. with_numbers t (repeated 3 (floats_in c.promoted.result))) (sym (alone c.args.ty (eq-eqb c.args.ty.len 0 c.if-ty-ne0.false)))
    ∙ sym (c.promoted.ensures.value c.args.ty one)
