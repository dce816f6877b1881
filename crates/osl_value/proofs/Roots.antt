-- The root of a number is the greatest whose square is not above it, and no other number is that.
use Rattle.std.proofs.Common.{◌≡◌, ℕ, zero, suc, ◌+◌, ◌*◌, ◌/◌, ◌^◌, ◌<◌, ◌≤◌, leb, arith, ⊎_elim, subst}
use Rattle.std.proofs.lemmas.Bool.{cond_both, leb-true, leb-false, cases_order}
use Rattle.std.proofs.lemmas.Nat.{mul-le}
use Rattle.std.proofs.Math.Nat.{pow-suc}
use Rattle.osl_value.specs.Numbers.{IsRoot, next_root, root_by, root_of}

next_is : (n q : ℕ) → IsRoot (n / 4) q → IsRoot n (next_root n (2 * q))
next_is n q h =
    let low : q * q ≤ n / 4 = h.not_above in
    let high : n / 4 < (q + 1) * (q + 1) = h.greatest in
    cond_both (leb ((2 * q + 1) * (2 * q + 1)) n) (2 * q + 1) (2 * q) (IsRoot n)
    (λ e. let fits = leb-true _ _ e in record { not_above = fits; greatest = omega arith })
    (λ e. let above = leb-false _ _ e in record { not_above = omega arith; greatest = above })

root_by_is : (digits n : ℕ) → n < 4 ^ digits → IsRoot n (root_by digits n)
unfolding root_by
root_by_is zero n h = record { not_above = omega arith; greatest = omega arith }
root_by_is (suc digits) n h =
    let more : n < 4 ^ digits * 4 = subst (λ p. n < p) (pow-suc 4 digits) h in
    next_is n (root_by digits (n / 4)) (root_by_is digits (n / 4) (omega arith))

pub root_of_is : (n : ℕ) → n < 4 ^ 64 → IsRoot n (root_of n)
unfolding root_of
root_of_is n h = root_by_is 64 n h

lesser : (n r s : ℕ) → IsRoot n r → IsRoot n s → r < s → ⊥
lesser n r s a b h =
    let square : (r + 1) * (r + 1) ≤ s * s = mul-le (r + 1) (r + 1) s s (omega arith) (omega arith) in
    let high = a.greatest in
    let low = b.not_above in
    omega arith

pub same_root : (n r s : ℕ) → IsRoot n r → IsRoot n s → r ≡ s
same_root n r s a b =
    ⊎_elim (λ e. e) (λ k. ⊎_elim (λ less. absurd (lesser n r s a b less)) (λ more. absurd (lesser n s r b a more)) k) (cases_order r s)

pub root_unique : (n r : ℕ) → n < 4 ^ 64 → IsRoot n r → r ≡ root_of n
root_unique n r h a = same_root n r (root_of n) a (root_of_is n h)

-- where no bit is left
pub root_at_end : (n r bit : ℕ) → bit ≤ 0 → r * r ≤ n → n < (r + 2 ^ bit) * (r + 2 ^ bit) → IsRoot n r
root_at_end n r zero h low high = record { not_above = low; greatest = high }
root_at_end n r (suc bit) h low high = absurd (omega arith)
