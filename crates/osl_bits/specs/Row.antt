-- What the calls on two rows of one length give.
use Rattle.std.specs.Prelude.{Bool, not, ◌&&◌, ◌||◌, List, [], ◌∷◌}

-- a test of the truth values at each place of two lists of one length
abbrev pub each_pair : (Bool → Bool → Bool) → List Bool → List Bool → List Bool
each_pair f (x ∷ xs) (y ∷ ys) = f x y ∷ each_pair f xs ys
each_pair f xs ys = []

-- true where one of the two is
abbrev pub union : List Bool → List Bool → List Bool
union = each_pair (λ x y. x || y)

-- true where the first is and the second is not
abbrev pub minus : List Bool → List Bool → List Bool
minus = each_pair (λ x y. x && not y)
