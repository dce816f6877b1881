-- Places at fault, and the first of them.
use Rattle.std.specs.Prelude.{ℕ, ◌+◌, min, Bool, if◌then◌else◌, List, [], ◌∷◌, Option, Some, None}

-- the places of the elements that do not fit, where the first one's place is `at`
abbrev pub misfits : {X : Type 0} → (ℕ → X → Bool) → ℕ → List X → List ℕ
misfits fits at [] = []
misfits fits at (x ∷ xs) = if fits at x then misfits fits (at + 1) xs else at ∷ misfits fits (at + 1) xs

-- one place where a test fails
abbrev pub unless : Bool → ℕ → List ℕ
unless fits at = if fits then [] else at ∷ []

abbrev pub lesser : ℕ → Option ℕ → Option ℕ
lesser n None = Some n
lesser n (Some m) = Some (min n m)

-- the least of the places, if there is one
abbrev pub least : List ℕ → Option ℕ
least [] = None
least (n ∷ ns) = lesser n (least ns)

-- the least of two places, each perhaps not there
abbrev pub sooner : Option ℕ → Option ℕ → Option ℕ
sooner None o = o
sooner (Some n) o = lesser n o
