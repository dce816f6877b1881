-- The test of types decides whether they are equal.
use Rattle.std.proofs.Common.{◌≡◌, true, eqb, refl}
use Rattle.std.proofs.lemmas.Bool.{false≢true, and_parts, and_from, eqb-true, eq-eqb}
use Rattle.osl_value.specs.declared.types.Base.{Base}
use Rattle.osl_value.specs.declared.types.Base.TheVariants.{Int, Float, Color, Point, Vector, Normal, Matrix, Str, Closure}
use Rattle.osl_value.specs.declared.types.Ty.{Ty}
use Rattle.osl_value.specs.Types.{same_base, same_type}

pub same_base-true : (a b : Base) → same_base a b ≡ true → a ≡ b
same_base-true Int Int h = refl
same_base-true Float Float h = refl
same_base-true Color Color h = refl
same_base-true Point Point h = refl
same_base-true Vector Vector h = refl
same_base-true Normal Normal h = refl
same_base-true Matrix Matrix h = refl
same_base-true Str Str h = refl
same_base-true Closure Closure h = refl
same_base-true _ _ h = absurd (false≢true h)

pub same_base-refl : (a : Base) → same_base a a ≡ true
same_base-refl Int = refl
same_base-refl Float = refl
same_base-refl Color = refl
same_base-refl Point = refl
same_base-refl Vector = refl
same_base-refl Normal = refl
same_base-refl Matrix = refl
same_base-refl Str = refl
same_base-refl Closure = refl

pub same_type-true : (a b : Ty) → same_type a b ≡ true → a ≡ b
same_type-true a b h =
    let parts = and_parts (same_base a.base b.base) (eqb a.len b.len) h in
    let bases = same_base-true a.base b.base parts.0 in
    let lens = eqb-true a.len b.len parts.1 in
    λ i. record { base = bases i; len = lens i }

pub same_type-refl : (a : Ty) → same_type a a ≡ true
same_type-refl a = and_from (same_base a.base a.base) (eqb a.len a.len) (same_base-refl a.base) (eq-eqb a.len a.len refl)
