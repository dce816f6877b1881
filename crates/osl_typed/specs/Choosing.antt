-- Which of several functions is called: the one that costs least (OSL specification, section "Functions", by this language's costs).
use Rattle.std.specs.Prelude.{ℕ, ◌+◌, ◌==◌, min, Bool, true, false, not, ◌&&◌, ◌||◌, if◌then◌else◌, List, [], ◌∷◌, map, Option, None, Some}
use Rattle.osl_overload.specs.Cost.{total}
use Rattle.osl_overload.specs.declared.signature.Arg.{Arg}
use Rattle.osl_overload.specs.declared.signature.Formal.{Formal}
use Rattle.osl_overload.specs.declared.signature.Signature.{Signature}
use Rattle.osl_typed.specs.declared.expr.Root.{Root}
use Rattle.osl_typed.specs.declared.expr.Root.TheVariants as root
use Rattle.osl_typed.specs.State.{same_global}

-- what each function costs on these arguments, where it takes them
abbrev pub costs : List Signature → List Arg → List (Option ℕ)
costs candidates args = map (λ candidate. total candidate.params args) candidates

abbrev pub least_of : Option ℕ → Option ℕ → Option ℕ
least_of None b = b
least_of (Some a) None = Some a
least_of (Some a) (Some b) = Some (min a b)

-- the least of the costs that are there
unfoldable pub least : List (Option ℕ) → Option ℕ
least [] = None
least (cost ∷ rest) = least_of cost (least rest)

abbrev pub costs_this : ℕ → Option ℕ → Bool
costs_this n None = false
costs_this n (Some cost) = cost == n

-- the places of the candidates that cost n, the first candidate standing at the place given
unfoldable pub places : ℕ → ℕ → List (Option ℕ) → List ℕ
places n at [] = []
places n at (cost ∷ rest) = if costs_this n cost then at ∷ places n (at + 1) rest else places n (at + 1) rest

abbrev pub sole : List ℕ → Option ℕ
sole (place ∷ []) = Some place
sole _ = None

abbrev pub sole_at : List (Option ℕ) → Option ℕ → Option ℕ
sole_at all None = None
sole_at all (Some n) = sole (places n 0 all)

-- the place of the one candidate that costs least
unfoldable pub chosen : List Signature → List Arg → Option ℕ
chosen candidates args = let all = costs candidates args in sole_at all (least all)

-- ---- outputs that are the same variable

abbrev pub same_root : Root → Root → Bool
same_root (root.Variable j) (root.Variable k) = j == k
same_root (root.Global g) (root.Global h) = same_global g h
same_root _ _ = false

abbrev pub share_root : Option Root → Option Root → Bool
share_root (Some a) (Some b) = same_root a b
share_root _ _ = false

-- one variable is the root of both arguments, and one of them is output
abbrev pub clash : Formal → Option Root → Formal → Option Root → Bool
clash f a g b = (f.output || g.output) && share_root a b

unfoldable pub apart_from : Formal → Option Root → List Formal → List (Option Root) → Bool
apart_from f a [] bs = true
apart_from f a (g ∷ gs) [] = true
apart_from f a (g ∷ gs) (b ∷ bs) = not (clash f a g b) && apart_from f a gs bs

-- no variable is the root of two arguments, one of them output
unfoldable pub apart : List Formal → List (Option Root) → Bool
apart [] roots = true
apart (f ∷ fs) [] = true
apart (f ∷ fs) (a ∷ roots) = apart_from f a fs roots && apart fs roots
