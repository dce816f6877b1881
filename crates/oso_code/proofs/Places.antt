-- The least of places, part by part.
use Rattle.std.proofs.Common.{◌≡◌, ℕ, min, List, [], ◌∷◌, ◌++◌, Option, Some, None, refl, sym, ap, ◌∙◌, arith}
use Rattle.oso_code.specs.Faults.{lesser, least, sooner}

pub sooner_none : (o : Option ℕ) → sooner o None ≡ o
sooner_none None = refl
sooner_none (Some n) = refl

lesser_twice : (n m : ℕ) (o : Option ℕ) → lesser n (lesser m o) ≡ lesser (min n m) o
lesser_twice n m None = refl
lesser_twice n m (Some k) = let e : min n (min m k) ≡ min (min n m) k = omega arith in ap Some e

pub sooner_assoc : (a b c : Option ℕ) → sooner (sooner a b) c ≡ sooner a (sooner b c)
sooner_assoc None b c = refl
sooner_assoc (Some n) None c = refl
sooner_assoc (Some n) (Some m) c = sym (lesser_twice n m c)

pub least_append : (xs ys : List ℕ) → least (xs ++ ys) ≡ sooner (least xs) (least ys)
least_append [] ys = refl
least_append (x ∷ xs) ys = ap (lesser x) (least_append xs ys) ∙ sym (sooner_assoc (Some x) (least xs) (least ys))
