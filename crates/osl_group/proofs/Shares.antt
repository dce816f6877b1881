-- A list that is made element by element, seen through a function.
use Rattle.std.proofs.Common.{arith, ◌≡◌, ◌∙◌, sym, ap, ℕ, suc, ◌+◌, ◌<◌, List, [], ◌∷◌, ◌++◌, map, take, length, get_or}
use Rattle.std.proofs.lemmas.List.{map-append}
use Rattle.std.proofs.Math.Seq.{take-suc}

pub one_more : {A B : Type 0} (f : A → B) (xs ys zs : List A) (k : ℕ) (x y : A) → zs ≡ xs ++ x ∷ [] → map f xs ≡ map f (take k ys) → k < length ys → y ≡ get_or ys k y → f x ≡ f y
    → map f zs ≡ map f (take (k + 1) ys)
one_more f xs ys zs k x y more same within is copy =
    let next : suc k ≡ k + 1 = omega arith in
    ap (map f) more ∙ map-append f xs (x ∷ []) ∙ ap (λ t. t ++ f x ∷ []) same ∙ ap (λ t. map f (take k ys) ++ t ∷ []) (copy ∙ ap f is)
    ∙ sym (map-append f (take k ys) (get_or ys k y ∷ [])) ∙ ap (map f) (sym (take-suc ys k y within)) ∙ ap (λ n. map f (take n ys)) next
