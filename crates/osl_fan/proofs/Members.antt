-- A relation that holds at each place of two lists of one length holds of their items.
use Rattle.std.proofs.Common.{◌≡◌, ℕ, suc, ◌<◌, List, [], ◌∷◌, length, get_or, arith}
use Rattle.std.specs.List.{AllZip}

pub AllZip-by_places : {X : Type 0} (R : X → X → Type 0) (xs ys : List X) → length ys ≡ length xs
    → ((i : ℕ) (d : X) → i < length xs → R (get_or xs i d) (get_or ys i d)) → AllZip R xs ys
AllZip-by_places R [] [] l h = tt
AllZip-by_places R [] (y ∷ ys) l h = absurd (omega arith)
AllZip-by_places R (x ∷ xs) [] l h = absurd (omega arith)
AllZip-by_places R (x ∷ xs) (y ∷ ys) l h = (h 0 x (omega arith), AllZip-by_places R xs ys (omega arith) (λ i d b. h (suc i) d (omega arith)))
