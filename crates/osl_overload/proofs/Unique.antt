-- A call has one choice.
use Rattle.std.proofs.Common.{◌≡◌, ℕ, ◌<◌, List, refl, ap, sym, ⊎_elim, arith}
use Rattle.osl_overload.specs.declared.signature.Arg.{Arg}
use Rattle.osl_overload.specs.declared.signature.Signature.{Signature}
use Rattle.osl_overload.specs.declared.choice.Choice.{Choice}
use Rattle.osl_overload.specs.declared.choice.Choice.TheVariants.{Chosen, NoCandidate, Ambiguous}
use Rattle.osl_overload.specs.Choice.{IsLeast, AreTied, IsChoice}

one_least : (candidates : List Signature) (args : List Arg) (i j : ℕ) → IsLeast candidates args i → IsLeast candidates args j → i ≡ j
one_least candidates args i j h k = ⊎_elim
    (λ e. sym e)
    (λ (less : h.least < k.least). ⊎_elim (λ e. e) (λ (more : k.least < h.least). absurd (omega arith)) (k.others i h.least h.costs))
    (h.others j k.least k.costs)

-- of two that are tied neither costs less than the other
no_least : (candidates : List Signature) (args : List Arg) (i : ℕ) → IsLeast candidates args i → AreTied candidates args → ⊥
no_least candidates args i h k = ⊎_elim
    (λ (first : k.first ≡ i). ⊎_elim
    (λ (second : k.second ≡ i). let apart : k.first < k.second = k.apart in absurd (omega arith))
    (λ (less : h.least < k.least). let more = k.others i h.least h.costs in absurd (omega arith))
    (h.others k.second k.least k.second_costs))
    (λ (less : h.least < k.least). let more = k.others i h.least h.costs in absurd (omega arith))
    (h.others k.first k.least k.first_costs)

pub one_choice : (candidates : List Signature) (args : List Arg) (a b : Choice) → IsChoice candidates args a → IsChoice candidates args b → a ≡ b
one_choice candidates args (Chosen i) (Chosen j) h k = ap Chosen (one_least candidates args i j h k)
one_choice candidates args (Chosen i) NoCandidate h k = let none = k i in let some = h.costs in absurd (cc)
one_choice candidates args (Chosen i) Ambiguous h k = absurd (no_least candidates args i h k)
one_choice candidates args NoCandidate (Chosen j) h k = let none = h j in let some = k.costs in absurd (cc)
one_choice candidates args NoCandidate NoCandidate h k = refl
one_choice candidates args NoCandidate Ambiguous h k = let none = h k.first in let some = k.first_costs in absurd (cc)
one_choice candidates args Ambiguous (Chosen j) h k = absurd (no_least candidates args j k h)
one_choice candidates args Ambiguous NoCandidate h k = let none = k h.first in let some = h.first_costs in absurd (cc)
one_choice candidates args Ambiguous Ambiguous h k = refl
