-- The test of kinds decides whether they are equal, and so in either order.
use Rattle.std.proofs.Common.{◌≡◌, ◌∙◌, Bool, true, false, refl, sym, ap, subst}
use Rattle.std.proofs.lemmas.Bool.{false≢true, eqb-true, eq-eqb}
use Rattle.osl_value.proofs.SameTypes.{same_type-true, same_type-refl}
use Rattle.osl_overload.specs.Kinds.{same_kind}
use Rattle.osl_overload.specs.declared.signature.Kind.{Kind}
use Rattle.osl_overload.specs.declared.signature.Kind.TheVariants.{Value, Structure, Void}

pub same_kind-true : (a b : Kind) → same_kind a b ≡ true → a ≡ b
same_kind-true (Value a) (Value b) h = ap Value (same_type-true a b h)
same_kind-true (Structure m) (Structure n) h = ap Structure (eqb-true m n h)
same_kind-true Void Void h = refl
same_kind-true _ _ h = absurd (false≢true h)

pub same_kind-refl : (a : Kind) → same_kind a a ≡ true
same_kind-refl (Value a) = same_type-refl a
same_kind-refl (Structure m) = eq-eqb m m refl
same_kind-refl Void = refl

pub other_way : (a b : Kind) → same_kind a b ≡ false → same_kind b a ≡ false
other_way a b h =
    elim (same_kind b a) as (λ x. same_kind b a ≡ x → x ≡ false) [
      | true ↦ λ t. absurd (false≢true (sym h ∙ subst (λ k. same_kind a k ≡ true) (sym (same_kind-true b a t)) (same_kind-refl a)))
      | false ↦ λ t. refl
    ] refl
