-- What indices lead to, by their number.
use Rattle.std.proofs.Common.{◌≡◌, ℕ, zero, suc, ◌-◌, ◌<◌, ◌≤◌, Bool, true, false, if◌then◌else◌, List, [], ◌∷◌, nat_lt, nat_le, refl, ap, sym, ◌∙◌, arith}
use Rattle.std.proofs.lemmas.Bool.Decides.{nat_tests}
use Rattle.osl_value.specs.declared.types.Base.TheVariants.{Float, Matrix}
use Rattle.osl_value.specs.declared.types.Ty.{Ty}
use Rattle.osl_value.specs.Types.{only, is_only}
use Rattle.osl_value.specs.AnyValue.{is_array, element_type}
use Rattle.osl_overload.specs.declared.signature.Kind.TheVariants.{Value}
use Rattle.osl_typed.specs.declared.shader.TypedStructure.{TypedStructure}
use Rattle.osl_typed.specs.declared.sizes.Weight.{Weight}
use Rattle.osl_typed.specs.Measured.{cut, indices_wanted, has_some}
use Rattle.osl_typed.specs.Selections.{types_on_the_way, last_type, selected_type}
use Rattle.osl_typed.specs.Sizes.{◌&◌, valued, nothing, selections}
use Rattle.osl_typed.proofs.Weights.{both, with_nothing}

pub too_few : (ty : Ty) (n : ℕ) → is_array ty ≡ false → n < indices_wanted ty → types_on_the_way ty n ≡ []
unfolding types_on_the_way
too_few ty n no_array few = go n (is_only Matrix ty) refl few
  where
    go : (n : ℕ) (matrix : Bool) → is_only Matrix ty ≡ matrix → n < (if matrix then 2 else 1) → types_on_the_way ty n ≡ []
    go zero matrix is few = refl
    go (suc zero) true is few = rw (no_array, is) refl
    go (suc (suc n)) true is few = absurd (omega arith)
    go (suc n) false is few = absurd (omega arith)

pub enough : (ty : Ty) (n : ℕ) → is_array ty ≡ false → indices_wanted ty ≤ n → types_on_the_way ty n ≡ only Float ∷ []
unfolding types_on_the_way
enough ty n no_array many = go n (is_only Matrix ty) refl many
  where
    go : (n : ℕ) (matrix : Bool) → is_only Matrix ty ≡ matrix → (if matrix then 2 else 1) ≤ n → types_on_the_way ty n ≡ only Float ∷ []
    go zero true is many = absurd (omega arith)
    go zero false is many = absurd (omega arith)
    go (suc zero) true is many = absurd (omega arith)
    go (suc (suc n)) true is many = rw (no_array, is) refl
    go (suc n) false is many = rw (no_array, is) refl

pub of_array : (ty : Ty) (n : ℕ) → is_array ty ≡ true → 0 < n → types_on_the_way ty n ≡ element_type ty ∷ types_on_the_way (element_type ty) (n - 1)
unfolding types_on_the_way
of_array ty zero array some = absurd (omega arith)
of_array ty (suc n) array some = let less : suc n - 1 ≡ n = omega arith in rw (array, less) refl

pub no_way : (ty : Ty) → types_on_the_way ty 0 ≡ []
unfolding types_on_the_way
no_way ty = refl

pub array_selected : (ty : Ty) (n : ℕ) → is_array ty ≡ true → nat_lt 0 n ≡ has_some (types_on_the_way ty n)
array_selected ty n array = go n
  where
    go : (n : ℕ) → nat_lt 0 n ≡ has_some (types_on_the_way ty n)
    go zero = sym (ap has_some (no_way ty))
    go (suc n) = let h : nat_lt 0 (suc n) ≡ true = grind (arith, nat_tests) in h ∙ sym (ap has_some (of_array ty (suc n) array (omega arith)))

pub selected : (ty : Ty) (n wanted : ℕ) → is_array ty ≡ false → wanted ≡ indices_wanted ty → nat_le wanted n ≡ has_some (types_on_the_way ty n)
selected ty n wanted no_array is = go (nat_le wanted n) refl
  where
    go : (b : Bool) → nat_le wanted n ≡ b → b ≡ has_some (types_on_the_way ty n)
    go true e = sym (ap has_some (enough ty n no_array (let h : wanted ≤ n = grind (arith, nat_tests) in omega arith)))
    go false e = sym (ap has_some (too_few ty n no_array (let h : n < wanted = grind (arith, nat_tests) in omega arith)))

-- ---- their weights

pub none_weigh : (structures : List TypedStructure) (ty : Ty) (n : ℕ) → types_on_the_way ty n ≡ [] → nothing ≡ cut (selections structures (types_on_the_way ty n))
none_weigh structures ty n e = rw e refl

pub one_weighs : (structures : List TypedStructure) (ty one : Ty) (n : ℕ) (w : Weight) → types_on_the_way ty n ≡ one ∷ [] → w ≡ cut (valued structures (Value one)) → w ≡ cut (selections structures (types_on_the_way ty n))
one_weighs structures ty one n w e h = rw e (h ∙ ap cut (sym (with_nothing (valued structures (Value one)))))

pub array_weighs : (structures : List TypedStructure) (ty element : Ty) (n m : ℕ) (a b w : Weight) → types_on_the_way ty n ≡ element ∷ types_on_the_way element m
    → a ≡ cut (valued structures (Value element)) → b ≡ cut (selections structures (types_on_the_way element m)) → w ≡ cut (a & b)
    → w ≡ cut (selections structures (types_on_the_way ty n))
array_weighs structures ty element n m a b w e p q h = rw e (h ∙ both a b _ _ p q)

-- ---- the type that they lead to

pub stays : (ty : Ty) (n : ℕ) → types_on_the_way ty n ≡ [] → ty ≡ selected_type ty n
stays ty n e = sym (ap (last_type ty) e)

pub leads_to : (ty one : Ty) (n : ℕ) → types_on_the_way ty n ≡ one ∷ [] → one ≡ selected_type ty n
leads_to ty one n e = sym (ap (last_type ty) e)

pub leads_through : (ty element : Ty) (n m : ℕ) → types_on_the_way ty n ≡ element ∷ types_on_the_way element m → selected_type element m ≡ selected_type ty n
leads_through ty element n m e = sym (ap (last_type ty) e)
