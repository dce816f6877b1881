-- Each function of floats gives a float, and each function of ints an int.
use Rattle.std.proofs.Common.{◌≡◌, ℕ, zero, suc, ◌-◌, ◌*◌, ◌/◌, ◌%◌, ◌^◌, ◌<◌, ◌≤◌, Bool, true, false, cond, ltb, ⊎_elim, ◌&&◌, not, ℤ, pos, negsuc, neg_ℤ, ◌+ℤ◌, ◌*ℤ◌, refl, sym, subst, arith, lit<, lit≤}
use Rattle.std.specs.Prelude.{int_div, int_rem, int_lt, int_le, unsigned_abs, FitsSigned}
use Rattle.std.specs.Int.{w32, int_min, int_max, int_rem_euclid, is_negative, saturate_signed}
use Rattle.std.proofs.lemmas.Bool.{cond_both, ltb-true, eqb-false, and_parts, cases_lt}
use Rattle.std.proofs.lemmas.Int.{SFits-int_wrap}
use lib.Signed.{mag}
use borrow.Author.Gap.{read_sfits}
use Rattle.std.proofs.Math.Nat.{mod-le, div-le_self}
use Rattle.std.proofs.lemmas.Nat.{mod_below, mul-le}
use Rattle.osl_value.specs.Numbers.{scale, fmax, IsInRange, saturated, is_zero, truth, count_of, root_of, fx_to_int, fx_sub, fx_mul, fx_div, fx_fmod, fx_mod, fx_min, fx_max, fx_step, fx_clamp, fx_neg, fx_abs, fx_sign, fx_from_int, fx_sqrt, fx_inversesqrt, fx_smoothstep, wrapped, from_bits, shift_count, int_quotient, int_remainder, int_compl, int_shr, int_clamp}
use Rattle.osl_value.proofs.Roots.{root_of_is}

-- either way of a choice is
pub either_way : (P : ℤ → Type 0) (b : Bool) (x y : ℤ) → P x → P y → P (cond b x y)
either_way P b x y p q = cond_both b x y P (λ e. p) (λ e. q)

-- ---- floats

pub saturated_is : (z : ℤ) → IsInRange (saturated z)
saturated_is (pos n) = omega arith
saturated_is (negsuc n) = omega arith

pub zero_is : IsInRange (pos 0)
zero_is = lit≤ tt

pub one_is : IsInRange (pos scale)
one_is = lit≤ tt

-- a number without its sign
abs-neg : (n : ℕ) → unsigned_abs (neg_ℤ (pos n)) ≡ n
abs-neg zero = refl
abs-neg (suc n) = refl

abs-neg_ℤ : (x : ℤ) → unsigned_abs (neg_ℤ x) ≡ unsigned_abs x
abs-neg_ℤ (pos zero) = refl
abs-neg_ℤ (pos (suc n)) = refl
abs-neg_ℤ (negsuc n) = refl

pub fx_div_is : (a b : ℤ) → IsInRange (fx_div a b)
fx_div_is a b = either_way IsInRange (is_zero b) (pos 0) (saturated (int_div (a *ℤ pos scale) b)) zero_is (saturated_is (int_div (a *ℤ pos scale) b))

rem_is : (a b : ℤ) → IsInRange a → IsInRange (int_rem a b)
rem_is (pos a) b h = let e : a % unsigned_abs b ≤ a = mod-le a (unsigned_abs b) in omega arith
rem_is (negsuc a) b h =
    let e : suc a % unsigned_abs b ≤ suc a = mod-le (suc a) (unsigned_abs b) in
    let f = abs-neg (suc a % unsigned_abs b) in
    omega arith

pub fx_fmod_is : (a b : ℤ) → IsInRange a → IsInRange (fx_fmod a b)
fx_fmod_is a b h = either_way IsInRange (is_zero b) (pos 0) (int_rem a b) zero_is (rem_is a b h)

-- a remainder from 0 up is below the divisor without its sign, where that is not 0
euclid_is : (a b : ℤ) → (0 < unsigned_abs b) → (r : ℕ) × (int_rem_euclid a b ≡ pos r) × (r < unsigned_abs b)
euclid_is (pos a) b h = (a % unsigned_abs b, refl, mod_below a (unsigned_abs b) h)
euclid_is (negsuc a) b h =
    let e : a % unsigned_abs b < unsigned_abs b = mod_below a (unsigned_abs b) h in
    (unsigned_abs b - 1 - a % unsigned_abs b, refl, omega arith)

moved_is : (r : ℕ) (b : ℤ) → r < unsigned_abs b → IsInRange b → is_negative b ≡ true → IsInRange (pos r +ℤ b)
moved_is r (pos b) below h e = let k = ltb-true b 0 e in absurd (omega arith)
moved_is r (negsuc b) below h e =
    either_way IsInRange (ltb r (suc b)) (negsuc (suc b - suc r)) (pos (r - suc b)) (omega arith) (omega arith)

no_zero : (b : ℤ) → is_zero b ≡ false → 0 < unsigned_abs b
no_zero (pos b) h = let k = eqb-false b 0 h in omega arith
no_zero (negsuc b) h = omega arith

pub fx_mod_is : (a b : ℤ) → IsInRange b → IsInRange (fx_mod a b)
fx_mod_is a b h =
    let rest = int_rem_euclid a b in
    let moves = is_negative b && not (is_zero rest) in
    cond_both (is_zero b) (pos 0) (cond moves (rest +ℤ b) rest) IsInRange (λ e. zero_is) (λ e.
    let k = euclid_is a b (no_zero b e) in
    let small : k.0 < unsigned_abs b = k.2 in
    cond_both moves (rest +ℤ b) rest IsInRange
    (λ both. subst (λ z. IsInRange (z +ℤ b)) (sym k.1) (moved_is k.0 b k.2 h (and_parts (is_negative b) (not (is_zero rest)) both).0))
    (λ stays. subst IsInRange (sym k.1) (omega arith)))

pub fx_neg_is : (x : ℤ) → IsInRange x → IsInRange (fx_neg x)
fx_neg_is x h = let e = abs-neg_ℤ x in omega arith

pub fx_abs_is : (x : ℤ) → IsInRange x → IsInRange (fx_abs x)
fx_abs_is x h = h

pub fx_sign_is : (x : ℤ) → IsInRange (fx_sign x)
fx_sign_is (pos n) = omega arith
fx_sign_is (negsuc n) = lit≤ tt

pub fx_min_is : (a b : ℤ) → IsInRange a → IsInRange b → IsInRange (fx_min a b)
fx_min_is a b h k = either_way IsInRange (int_lt b a) b a k h

pub fx_max_is : (a b : ℤ) → IsInRange a → IsInRange b → IsInRange (fx_max a b)
fx_max_is a b h k = either_way IsInRange (int_lt b a) a b h k

pub fx_step_is : (a b : ℤ) → IsInRange (fx_step a b)
fx_step_is a b = either_way IsInRange (int_lt b a) (pos 0) (pos scale) zero_is one_is

pub fx_clamp_is : (x lo hi : ℤ) → IsInRange x → IsInRange lo → IsInRange hi → IsInRange (fx_clamp x lo hi)
fx_clamp_is x lo hi h k l = fx_min_is (fx_max x lo) hi (fx_max_is x lo h k) l

count_in_range : (x : ℤ) → IsInRange x → count_of x ≤ fmax
count_in_range (pos n) h = h
count_in_range (negsuc n) h = omega arith

-- a root of a float's units is below 2 ^ 47
pub fx_sqrt_is : (x : ℤ) → IsInRange x → IsInRange (fx_sqrt x)
fx_sqrt_is x h =
    let few : count_of x ≤ fmax = count_in_range x h in
    let root = root_of_is (count_of x * scale) (omega arith) in
    let square = root.not_above in
    ⊎_elim
    (λ below. omega arith)
    (λ above. let big = mul-le (2 ^ 47) (2 ^ 47) (root_of (count_of x * scale)) (root_of (count_of x * scale)) above above in absurd (omega arith))
    (cases_lt (root_of (count_of x * scale)) (2 ^ 47))

pub fx_inversesqrt_is : (x : ℤ) → IsInRange (fx_inversesqrt x)
fx_inversesqrt_is x = fx_div_is (pos scale) (fx_sqrt x)

pub fx_smoothstep_is : (e0 e1 x : ℤ) → IsInRange (fx_smoothstep e0 e1 x)
fx_smoothstep_is e0 e1 x =
    let t = fx_div (fx_sub x e0) (fx_sub e1 e0) in
    let curve = fx_mul (fx_mul t t) (fx_sub (pos (3 * scale)) (fx_mul (pos (2 * scale)) t)) in
    either_way IsInRange (int_lt x e0) (pos 0) (cond (int_le e1 x) (pos scale) curve) zero_is
    (either_way IsInRange (int_le e1 x) (pos scale) curve one_is (saturated_is _))

-- ---- ints

pub truth_fits : (b : Bool) → FitsSigned w32 (truth b)
truth_fits b = either_way (FitsSigned w32) b (pos 1) (pos 0) (record { sfits = lit< tt }) (record { sfits = lit< tt })

pub zero_fits : FitsSigned w32 (pos 0)
zero_fits = record { sfits = lit< tt }

pub wrapped_fits : (n : ℤ) → FitsSigned w32 (wrapped n)
wrapped_fits n = SFits-int_wrap w32 n

pub bits_fit : (bits : ℕ) → FitsSigned w32 (from_bits bits)
bits_fit bits = read_sfits w32 bits

pub int_quotient_fits : (a b : ℤ) → FitsSigned w32 (int_quotient a b)
int_quotient_fits a b = either_way (FitsSigned w32) (is_zero b) (pos 0) (wrapped (int_div a b)) zero_fits (wrapped_fits (int_div a b))

pub int_remainder_fits : (a b : ℤ) → FitsSigned w32 (int_remainder a b)
int_remainder_fits a b = either_way (FitsSigned w32) (is_zero b) (pos 0) (wrapped _) zero_fits (wrapped_fits _)

pub int_compl_fits : (a : ℤ) → FitsSigned w32 a → FitsSigned w32 (int_compl a)
int_compl_fits (pos zero) h = record { sfits = lit< tt }
int_compl_fits (pos (suc n)) h = let k = h.sfits in record { sfits = omega arith }
int_compl_fits (negsuc n) h =
    let k = h.sfits in
    record { sfits = either_way (λ z. mag z < 2 ^ 31) (ltb (suc n) 1) (negsuc (1 - suc (suc n))) (pos (suc n - 1)) (omega arith) (omega arith) }

pub int_shr_fits : (a n : ℤ) → FitsSigned w32 a → FitsSigned w32 (int_shr a n)
int_shr_fits (pos a) n h = let k = h.sfits in let e : a / 2 ^ shift_count n ≤ a = div-le_self a (2 ^ shift_count n) in record { sfits = omega arith }
int_shr_fits (negsuc a) n h = let k = h.sfits in let e : a / 2 ^ shift_count n ≤ a = div-le_self a (2 ^ shift_count n) in record { sfits = omega arith }

pub int_min_fits : (a b : ℤ) → FitsSigned w32 a → FitsSigned w32 b → FitsSigned w32 (int_min a b)
int_min_fits a b h k = either_way (FitsSigned w32) (int_lt b a) b a k h

pub int_max_fits : (a b : ℤ) → FitsSigned w32 a → FitsSigned w32 b → FitsSigned w32 (int_max a b)
int_max_fits a b h k = either_way (FitsSigned w32) (int_lt b a) a b h k

pub int_clamp_fits : (x lo hi : ℤ) → FitsSigned w32 x → FitsSigned w32 lo → FitsSigned w32 hi → FitsSigned w32 (int_clamp x lo hi)
int_clamp_fits x lo hi h k l = int_min_fits (int_max x lo) hi (int_max_fits x lo h k) l

saturate_fits : (z : ℤ) → FitsSigned w32 (saturate_signed w32 z)
saturate_fits (pos n) = record { sfits = omega arith }
saturate_fits (negsuc n) = record { sfits = omega arith }

pub fx_to_int_fits : (x : ℤ) → FitsSigned w32 (fx_to_int x)
fx_to_int_fits x = saturate_fits (int_div x (pos scale))

-- an int is in range as a float, also as the float that it is
pub int_in_range : (n : ℤ) → FitsSigned w32 n → IsInRange n
int_in_range (pos n) h = let k = h.sfits in omega arith
int_in_range (negsuc n) h = let k = h.sfits in omega arith

pub fx_from_int_is : (n : ℤ) → FitsSigned w32 n → IsInRange (fx_from_int n)
fx_from_int_is (pos n) h = let k = h.sfits in omega arith
fx_from_int_is (negsuc n) h = let k = h.sfits in let e = abs-neg (suc n * 1000000000) in omega arith
