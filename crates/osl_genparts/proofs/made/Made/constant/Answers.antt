use Rattle.std.proofs.Common.{true, refl, sym, subst, ap}
use Rattle.std.specs.Prelude.{IsTrue}
use Rattle.oso_code.specs.Holding.{is_type}
use Rattle.osl_gencode.proofs.ValuesFit.{value_fits}
use Rattle.osl_genparts.proofs.FoundConstants.{plain_type, added_constant}
use Rattle.osl_genparts.proofs.made.Made.constant.Goals as goal

pub add-requires-clause-language : goal.add-requires-clause-language
add-requires-clause-language c = subst (λ t. IsTrue (is_type t)) (sym c.ty-ty.ensures.value) (plain_type _ _ _ c.ty-ty.ensures.fits)

pub add-requires-clause-holds : goal.add-requires-clause-holds
add-requires-clause-holds c = value_fits _ true _ refl (sym c.ty-ty.ensures.value) c.ty-ty.ensures.fits

pub returns-clause-added : goal.returns-clause-added
returns-clause-added c =
    let same = ap (λ m. m.symbols) c.self-2.view_is in
    added_constant _ _ c.ty-ty.result _ _ c.ty-ty.ensures.value c.in_ok-place.ensures.place (cc (same, c.in_ok-place.ensures.added))
