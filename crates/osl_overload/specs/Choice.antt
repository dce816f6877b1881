-- Which candidate is chosen.
use Rattle.std.specs.Prelude.{◌≡◌, ◌⊎◌, ℕ, ◌<◌, ◌≤◌, List, Option, None, Some, option_and_then, slice_get}
use Rattle.osl_overload.specs.Cost.{total}
use Rattle.osl_overload.specs.declared.signature.Signature.{Signature}
use Rattle.osl_overload.specs.declared.signature.Arg.{Arg}
use Rattle.osl_overload.specs.declared.choice.Choice.{Choice}
use Rattle.osl_overload.specs.declared.choice.Choice.TheVariants.{Chosen, NoCandidate, Ambiguous}

-- what the candidate at i costs, if it is one and its arguments fit
abbrev pub cost_at : List Signature → List Arg → ℕ → Option ℕ
cost_at candidates args i = option_and_then (λ candidate. total candidate.params args) (slice_get candidates i)

-- the candidate at i costs least, and each other costs more
pub record IsLeast (candidates : List Signature) (args : List Arg) (i : ℕ) : Type 0 where
  pub least : ℕ
  pub costs : cost_at candidates args i ≡ Some least
  pub others : (j cost : ℕ) → cost_at candidates args j ≡ Some cost → (j ≡ i) ⊎ (least < cost)

-- two candidates cost as little as each other, and none costs less
pub record AreTied (candidates : List Signature) (args : List Arg) : Type 0 where
  pub first : ℕ
  pub second : ℕ
  pub apart : first < second
  pub least : ℕ
  pub first_costs : cost_at candidates args first ≡ Some least
  pub second_costs : cost_at candidates args second ≡ Some least
  pub others : (j cost : ℕ) → cost_at candidates args j ≡ Some cost → least ≤ cost

-- what the answer to a call with these arguments says
abbrev pub IsChoice : List Signature → List Arg → Choice → Type 0
IsChoice candidates args (Chosen i) = IsLeast candidates args i
IsChoice candidates args NoCandidate = (i : ℕ) → cost_at candidates args i ≡ None
IsChoice candidates args Ambiguous = AreTied candidates args
