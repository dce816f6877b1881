-- Lists of which the first n are kept. The number is a variable here, since `take` at a numeral unrolls.
use Rattle.std.proofs.Common.{◌≡◌, ℕ, ◌+◌, ◌-◌, ◌≤◌, List, [], ◌∷◌, ◌++◌, length, take, drop, map, refl, ap, sym, ◌∙◌, arith, append_assoc, length-append, zero, suc, subst}
use Rattle.std.proofs.lemmas.List.{take_all, take-append-le, take-take, take-map}
use Rattle.std.proofs.Math.Seq.{take-append-add, take-append_seam, drop-append_seam}

-- a front that is kept in two steps
take-take_append : {A : Type 0} (n : ℕ) (xs ys : List A) → take n (take n xs ++ ys) ≡ take n (xs ++ ys)
take-take_append zero xs ys = refl
take-take_append (suc n) [] ys = refl
take-take_append (suc n) (x ∷ xs) ys = ap (λ l. x ∷ l) (take-take_append n xs ys)

take-append_take : {A : Type 0} (n m : ℕ) (xs ys : List A) → n ≤ m → take n (xs ++ take m ys) ≡ take n (xs ++ ys)
take-append_take zero m xs ys h = refl
take-append_take (suc n) m [] ys h = take-take (suc n) m ys h
take-append_take (suc n) m (x ∷ xs) ys h = ap (λ l. x ∷ l) (take-append_take n m xs ys (omega arith))

-- a full list takes nothing more
pub keeps_full : {A : Type 0} (n : ℕ) (xs ys : List A) → length xs ≡ n → take n (xs ++ ys) ≡ xs
keeps_full n xs ys h = take-append-le n xs ys (omega arith) ∙ take_all n xs (omega arith)

-- all is kept where there is room
pub keeps_all : {A : Type 0} (n : ℕ) (xs ys : List A) → length xs + length ys ≤ n → take n (xs ++ ys) ≡ xs ++ ys
keeps_all n xs ys h = take_all n (xs ++ ys) (omega (arith, length-append xs ys))

-- two lists kept one after the other, or together
pub keeps_both : {A : Type 0} (n : ℕ) (found a b : List A) → take n (take n (found ++ a) ++ b) ≡ take n (found ++ take n (a ++ b))
keeps_both n found a b =
    take-take_append n (found ++ a) b
    ∙ ap (take n) (append_assoc found a b)
    ∙ sym (take-append_take n n found (a ++ b) (omega arith))

-- a function over what was kept of a list, or over the list before
keeps_mapped_by : {A : Type 0} (g : A → A) (m : ℕ) (found a : List A)
    → take (length found) (take (length found + m) (found ++ a)) ++ map g (drop (length found) (take (length found + m) (found ++ a)))
    ≡ take (length found + m) (found ++ map g a)
keeps_mapped_by g m found a =
    rw (take-append-add found a m, take-append_seam found (take m a), drop-append_seam found (take m a), take-append-add found (map g a) m, take-map g m a) refl

pub keeps_mapped : {A : Type 0} (g : A → A) (n : ℕ) (found a : List A) → length found ≤ n
    → take (length found) (take n (found ++ a)) ++ map g (drop (length found) (take n (found ++ a))) ≡ take n (found ++ map g a)
keeps_mapped g n found a h =
    let room : length found + (n - length found) ≡ n = omega arith in
    subst (λ k. take (length found) (take k (found ++ a)) ++ map g (drop (length found) (take k (found ++ a))) ≡ take k (found ++ map g a)) room (keeps_mapped_by g (n - length found) found a)
