-- A call with another number of arguments than parameters.
use Rattle.std.proofs.Common.{◌≡◌, ◌≢◌, ℕ, suc, List, [], ◌∷◌, length, Option, Some, None, refl, ap}
use Rattle.osl_overload.specs.declared.signature.Arg.{Arg}
use Rattle.osl_overload.specs.declared.signature.Formal.{Formal}
use Rattle.osl_overload.specs.Cost.{argument_cost, plus, total}

plus-none : (o : Option ℕ) → plus o None ≡ None
plus-none None = refl
plus-none (Some a) = refl

pub total-other_length : (formals : List Formal) (args : List Arg) → length formals ≢ length args → total formals args ≡ None
total-other_length [] [] n = absurd (n refl)
total-other_length [] (a ∷ args) n = refl
total-other_length (f ∷ formals) [] n = refl
total-other_length (f ∷ formals) (a ∷ args) n =
    rw (total-other_length formals args (λ e. n (ap (λ k. suc k) e))) (plus-none (argument_cost f a))
