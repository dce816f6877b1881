-- Chains of answers that may be missing, taken apart; tests of kinds.
use Rattle.std.proofs.Common.{◌≡◌, Bool, true, false, Option, Some, None, refl, ap, ◌∙◌}
use Rattle.std.proofs.lemmas.Bool.{false≢true, eqb-true, eq-eqb}
use Rattle.osl_value.proofs.SameTypes.{same_type-true, same_type-refl}
use Rattle.osl_overload.specs.Kinds.{same_kind}
use Rattle.osl_overload.specs.declared.signature.Kind.{Kind}
use Rattle.osl_overload.specs.declared.signature.Kind.TheVariants.{Value, Structure, Void}
use Rattle.osl_typed.specs.Typing.{◌>>=◌, when}
use Rattle.osl_welltyped.specs.Kinded.{is_kind, only_if}

pub none_is_not : {A B : Type 0} (a : A) → ◌≡◌ {A = Option A} None (Some a) → B
none_is_not a h = absurd cc

pub some_same : {A : Type 0} (x y : A) → ◌≡◌ {A = Option A} (Some x) (Some y) → x ≡ y
some_same x y e = cc

pub record Bound {A B : Type 0} (o : Option A) (f : A → Option B) (b : B) : Type 0 where
  pub value : A
  pub was : o ≡ Some value
  pub goes : f value ≡ Some b

-- what comes first was there, and what follows it gave the answer
pub bound : {A B : Type 0} (o : Option A) (f : A → Option B) (b : B) → (o >>= f) ≡ Some b → Bound o f b
bound None f b h = none_is_not b h
bound (Some a) f b h = record { value = a; was = refl; goes = h }

-- the test holds
pub held : {B : Type 0} (t : Bool) (x : Option B) (b : B) → (when t >>= λ ok. x) ≡ Some b → (t ≡ true) × (x ≡ Some b)
held true x b h = (refl, h)
held false x b h = none_is_not b h

pub same_kind-true : (a b : Kind) → same_kind a b ≡ true → a ≡ b
same_kind-true (Value a) (Value b) h = ap Value (same_type-true a b h)
same_kind-true (Structure m) (Structure n) h = ap Structure (eqb-true m n h)
same_kind-true Void Void h = refl
same_kind-true _ _ h = absurd (false≢true h)

pub same_kind-refl : (a : Kind) → same_kind a a ≡ true
same_kind-refl (Value a) = same_type-refl a
same_kind-refl (Structure m) = eq-eqb m m refl
same_kind-refl Void = refl

pub is_kind_is : (kind : Kind) (o : Option Kind) → is_kind kind o ≡ true → o ≡ Some kind
is_kind_is kind None h = absurd (false≢true h)
is_kind_is kind (Some k) h = ap Some (same_kind-true k kind h)

pub kind_is : (kind : Kind) (o : Option Kind) → o ≡ Some kind → is_kind kind o ≡ true
kind_is kind o h = ap (is_kind kind) h ∙ same_kind-refl kind

pub only_if_so : (t : Bool) (kind : Kind) → t ≡ true → only_if t kind ≡ Some kind
only_if_so t kind h = ap (λ b. only_if b kind) h
