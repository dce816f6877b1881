-- The decimals of a fraction, digit by digit.
use Rattle.std.proofs.Common.{◌≡◌, ◌≢◌, ◌⊎◌, ℕ, zero, suc, ◌+◌, ◌*◌, ◌/◌, ◌%◌, ◌^◌, ◌<◌, eqb, [], ◌∷◌, length, refl, sym, ap, ⊎_elim, ◌∙◌, add-one, arith}
use Rattle.std.proofs.Math.Nat.{div-add-mod', div-div-eq-div-mul, pow-suc, pow-succ', one-le-pow, le-mul_of_pos_right, mul_comm, mod-eq_of_lt}
use Rattle.std.proofs.lemmas.Bool.{eq-eqb, ne_eqb, cases_eq, cond-true, cond-false}
use Rattle.std.proofs.lemmas.Nat.{mul-add-lt, div-mul-add, mod-mul-add, mod_below}
use Rattle.osl_value.specs.Numbers.{scale}
use Rattle.osl_decimal.specs.Canonical.{places, fraction_text}

regrouped : (q digit p rest : ℕ) → (q * 10 + digit) * p + rest ≡ q * (10 * p) + (digit * p + rest)
regrouped q digit p rest = omega arith

-- the lowest places, and the digit above them
low_digits : (n p : ℕ) → 0 < p → n % (10 * p) ≡ n / p % 10 * p + n % p
low_digits n p some =
    let digit = n / p % 10 in
    let rest = n % p in
    let below : digit * p + rest < 10 * p = omega (arith, mul-add-lt digit p rest 10 (mod_below (n / p) 10 (omega arith)) (mod_below n p some)) in
    let whole : n ≡ n / p / 10 * (10 * p) + (digit * p + rest) = sym (div-add-mod' n p) ∙ ap (λ q. q * p + rest) (sym (div-add-mod' (n / p) 10)) ∙ regrouped (n / p / 10) digit p rest in
    ap (λ m. m % (10 * p)) whole ∙ mod-mul-add (n / p / 10) (10 * p) (digit * p + rest) below

low_places : (n k : ℕ) → n % 10 ^ (k + 1) ≡ n / 10 ^ k % 10 * 10 ^ k + n % 10 ^ k
low_places n k = ap (λ p. n % p) (ap (λ j. 10 ^ j) (add-one k) ∙ pow-succ' 10 k) ∙ low_digits n (10 ^ k) (one-le-pow k 10 (omega arith))

pub places-zero : (k : ℕ) → places k 0 ≡ []
places-zero zero = refl
places-zero (suc k) = refl

pub places-nonzero : (k fraction : ℕ) → fraction ≢ 0 → places (suc k) fraction ≡ (48 + fraction / 10 ^ k) ∷ places k (fraction % 10 ^ k)
places-nonzero k fraction h = rw (ne_eqb fraction 0 h) refl

places-some : (k fraction : ℕ) → 0 < length (places k fraction) → 0 < fraction
places-some k fraction h = ⊎_elim (λ zero_is. absurd (omega (arith, ap (λ f. length (places k f)) zero_is, ap length (places-zero k)))) (λ nonzero. omega arith) (cases_eq fraction 0)

pub places-none : (k fraction : ℕ) → fraction < 10 ^ k → length (places k fraction) ≡ 0 → fraction ≡ 0
places-none zero fraction small h = omega arith
places-none (suc k) fraction small h = ⊎_elim (λ zero_is. zero_is) (λ nonzero. absurd (omega (arith, ap length (places-nonzero k fraction nonzero)))) (cases_eq fraction 0)

-- one place more is written
pub places_more : (n k : ℕ) → (0 < n / 10 ^ k % 10) ⊎ (0 < length (places k (n % 10 ^ k))) → places (k + 1) (n % 10 ^ (k + 1)) ≡ (48 + n / 10 ^ k % 10) ∷ places k (n % 10 ^ k)
places_more n k some =
    let low = low_places n k in
    let power = one-le-pow k 10 (omega arith) in
    let digit = n / 10 ^ k % 10 in
    let rest = n % 10 ^ k in
    let nonzero : n % 10 ^ (k + 1) ≢ 0 = ⊎_elim
    (λ (h : 0 < digit). omega (arith, low, power, le-mul_of_pos_right (10 ^ k) h, mul_comm digit (10 ^ k)))
    (λ (h : 0 < length (places k rest)). let r = places-some k rest h in omega (arith, low, r))
    some in
    let above : n % 10 ^ (k + 1) / 10 ^ k ≡ digit = ap (λ m. m / 10 ^ k) low ∙ div-mul-add digit (10 ^ k) rest (mod_below n (10 ^ k) power) in
    let below : n % 10 ^ (k + 1) % 10 ^ k ≡ rest = ap (λ m. m % 10 ^ k) low ∙ mod-mul-add digit (10 ^ k) rest (mod_below n (10 ^ k) power) in
    ap (λ j. places j (n % 10 ^ (k + 1))) (add-one k)
    ∙ places-nonzero k (n % 10 ^ (k + 1)) nonzero
    ∙ ap (λ d. (48 + d) ∷ places k (n % 10 ^ (k + 1) % 10 ^ k)) above
    ∙ ap (λ r. (48 + digit) ∷ places k r) below

-- a zero at the end is left out
pub places_none : (n k : ℕ) → n / 10 ^ k % 10 ≡ 0 → length (places k (n % 10 ^ k)) ≡ 0 → places (k + 1) (n % 10 ^ (k + 1)) ≡ []
places_none n k digit none =
    let zero_rest = places-none k (n % 10 ^ k) (mod_below n (10 ^ k) (one-le-pow k 10 (omega arith))) none in
    let nothing : n % 10 ^ (k + 1) ≡ 0 = low_places n k ∙ ap (λ d. d * 10 ^ k + n % 10 ^ k) digit ∙ omega (arith, zero_rest) in
    ap (places (k + 1)) nothing ∙ places-zero (k + 1)

pub places_left : (n k : ℕ) → n / 10 ^ k / 10 ≡ n / 10 ^ (k + 1)
places_left n k = div-div-eq-div-mul n (10 ^ k) 10 ∙ ap (λ p. n / p) (sym (ap (λ j. 10 ^ j) (add-one k) ∙ pow-suc 10 k))

-- ---- the text of the fraction

pub fraction_text-pointed : (fraction : ℕ) → 0 < length (places 9 fraction) → fraction_text fraction ≡ 46 ∷ places 9 fraction
unfolding fraction_text
fraction_text-pointed fraction some =
    let positive = places-some 9 fraction some in
    cond-false (eqb fraction 0) _ _ (ne_eqb fraction 0 (λ zero_is. absurd (omega arith)))

pub fraction_text-bare : (fraction : ℕ) → fraction < scale → length (places 9 fraction) ≡ 0 → fraction_text fraction ≡ []
unfolding fraction_text
fraction_text-bare fraction small none = cond-true (eqb fraction 0) _ _ (eq-eqb fraction 0 (places-none 9 fraction small none))

-- the same, where the code has taken the fraction apart
pub fraction_text-some : (fraction : ℕ) → fraction < scale → 0 < length (places 9 (fraction % 10 ^ 9)) → 46 ∷ places 9 (fraction % 10 ^ 9) ≡ fraction_text fraction
fraction_text-some fraction small some =
    let same : fraction % 10 ^ 9 ≡ fraction = mod-eq_of_lt small in
    sym (fraction_text-pointed (fraction % 10 ^ 9) some) ∙ ap fraction_text same

pub fraction_text-none : (fraction : ℕ) → fraction < scale → length (places 9 (fraction % 10 ^ 9)) ≡ 0 → fraction_text fraction ≡ []
fraction_text-none fraction small none =
    let same : fraction % 10 ^ 9 ≡ fraction = mod-eq_of_lt small in
    fraction_text-bare fraction small (ap (λ f. length (places 9 f)) (sym same) ∙ none)
