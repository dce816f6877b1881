-- Parts of strings.
use Rattle.std.proofs.Common.{◌≡◌, ℕ, ◌+◌, ◌-◌, ◌≤◌, List, ◌++◌, length, take, drop, ap, sym, ◌∙◌, arith}
use Rattle.std.proofs.Math.Seq.{take-append-add}

-- the first list and as much of the second as there is room for
pub joined_is : (most : ℕ) (a b first second rest text : List ℕ) → length a ≤ most → first ≡ a → second ≡ b
    → rest ≡ take (most - length first) second → text ≡ first ++ rest → text ≡ take most (a ++ b)
joined_is most a b first second rest text h f s r t =
    let cut : rest ≡ take (most - length a) b = r ∙ (λ i. take (most - length (f i)) (s i)) in
    let all : length a + (most - length a) ≡ most = omega arith in
    t ∙ (λ i. f i ++ cut i) ∙ sym (take-append-add a b (most - length a)) ∙ ap (λ n. take n (a ++ b)) all

pub part_is : (s bytes rest text : List ℕ) (place from n count : ℕ) → bytes ≡ s → rest ≡ drop place bytes → text ≡ take n rest
    → place ≡ from → n ≡ count → text ≡ take count (drop from s)
part_is s bytes rest text place from n count h r t p e =
    let moved : rest ≡ drop from s = r ∙ (λ i. drop (p i) (h i)) in
    t ∙ (λ i. take (e i) (moved i))
