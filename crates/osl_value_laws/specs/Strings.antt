-- Joined strings (OSL specification, "String functions").
use Rattle.std.specs.Prelude.{◌≡◌, ℕ, ◌+◌, ◌≤◌, pos, List, length}
use Rattle.osl_value.specs.Numbers.{int_add}
use Rattle.osl_value.specs.Strings.{concat, strlen, substr}
use Rattle.osl_value.specs.Types.{longest_text}

-- together no longer than the longest string
abbrev pub Fit : List ℕ → List ℕ → Type 0
Fit s t = length s + length t ≤ longest_text

abbrev pub JoinedLength : Type 0
JoinedLength = (s t : List ℕ) → Fit s t → strlen (concat s t) ≡ int_add (strlen s) (strlen t)

pub record JoinedParts : Type 0 where
  pub front : (s t : List ℕ) → Fit s t → substr (concat s t) (pos 0) (strlen s) ≡ s
  pub rest : (s t : List ℕ) → Fit s t → substr (concat s t) (strlen s) (strlen t) ≡ t
