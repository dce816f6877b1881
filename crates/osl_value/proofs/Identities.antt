-- What 0 and 1 leave as it was: exact at the ends of the range too.
use Rattle.std.proofs.Common.{◌≡◌, suc, ◌-◌, ◌*◌, ◌/◌, ℤ, pos, negsuc, neg_ℤ, ◌+ℤ◌, ◌-ℤ◌, ◌*ℤ◌, refl, ap, ◌∙◌, lit<, arith}
use Rattle.std.specs.Prelude.{int_div, FitsSigned}
use Rattle.std.specs.Int.{w32}
use Rattle.std.proofs.lemmas.Bool.{cond_both}
use Rattle.std.proofs.lemmas.Int.{ints, int_wrap_fits}
use Rattle.std.proofs.Math.Nat.{zero-div}
use Rattle.osl_value.specs.Numbers.{scale, IsInRange, saturated, wrapped, is_zero, fx_add, fx_sub, fx_mul, fx_div, fx_mix, int_add, int_sub, int_mul, int_quotient}

-- ---- whole numbers

pub add_zero : (x : ℤ) → x +ℤ pos 0 ≡ x
add_zero x = omega (arith, ints)

pub zero_add : (x : ℤ) → pos 0 +ℤ x ≡ x
zero_add x = omega (arith, ints)

pub sub_zero : (x : ℤ) → x -ℤ pos 0 ≡ x
sub_zero x = omega (arith, ints)

pub mul_zero : (x : ℤ) → x *ℤ pos 0 ≡ pos 0
mul_zero (pos n) = ap pos (omega arith)
mul_zero (negsuc n) = let e : suc n * 0 ≡ 0 = omega arith in ap (λ m. neg_ℤ (pos m)) e

pub zero_mul : (x : ℤ) → pos 0 *ℤ x ≡ pos 0
zero_mul (pos n) = ap pos (omega arith)
zero_mul (negsuc n) = let e : 0 * suc n ≡ 0 = omega arith in ap (λ m. neg_ℤ (pos m)) e

pub mul_one : (x : ℤ) → x *ℤ pos 1 ≡ x
mul_one (pos n) = ap pos (omega arith)
mul_one (negsuc n) = let e : suc n * 1 ≡ suc n = omega arith in ap (λ m. neg_ℤ (pos m)) e

pub one_mul : (x : ℤ) → pos 1 *ℤ x ≡ x
one_mul (pos n) = ap pos (omega arith)
one_mul (negsuc n) = let e : 1 * suc n ≡ suc n = omega arith in ap (λ m. neg_ℤ (pos m)) e

pub quot_one : (x : ℤ) → int_div x (pos 1) ≡ x
quot_one (pos n) = ap pos (omega arith)
quot_one (negsuc n) = let e : suc n / 1 ≡ suc n = omega arith in ap (λ m. neg_ℤ (pos m)) e

pub zero_quot : (x : ℤ) → int_div (pos 0) x ≡ pos 0
zero_quot (pos n) = ap pos (zero-div n)
zero_quot (negsuc n) = ap (λ m. neg_ℤ (pos m)) (zero-div (suc n))

-- so many units of 1.0, taken off again
pub quot-mul_scale : (x : ℤ) → int_div (x *ℤ pos scale) (pos scale) ≡ x
quot-mul_scale (pos n) = ap pos (omega arith)
quot-mul_scale (negsuc n) =
    let below = suc n * 1000000000 - 1 in
    let e : suc n * 1000000000 ≡ suc below = omega arith in
    let q : suc below / 1000000000 ≡ suc n = omega arith in
    ap (λ m. int_div (neg_ℤ (pos m)) (pos scale)) e ∙ ap (λ m. neg_ℤ (pos m)) q

pub mul_scale-comm : (x : ℤ) → pos scale *ℤ x ≡ x *ℤ pos scale
mul_scale-comm (pos n) = ap pos (omega arith)
mul_scale-comm (negsuc n) = ap (λ m. neg_ℤ (pos m)) (omega arith)

-- ---- floats

-- a float is its own nearest float
pub saturated-same : (x : ℤ) → IsInRange x → saturated x ≡ x
saturated-same (pos n) h = ap pos (omega arith)
saturated-same (negsuc n) h = ap negsuc (omega arith)

pub fx_add-zero : (x : ℤ) → IsInRange x → fx_add x (pos 0) ≡ x
fx_add-zero x h = ap saturated (add_zero x) ∙ saturated-same x h

pub zero-fx_add : (x : ℤ) → IsInRange x → fx_add (pos 0) x ≡ x
zero-fx_add x h = ap saturated (zero_add x) ∙ saturated-same x h

pub fx_sub-zero : (x : ℤ) → IsInRange x → fx_sub x (pos 0) ≡ x
fx_sub-zero x h = ap saturated (sub_zero x) ∙ saturated-same x h

pub fx_mul-one : (x : ℤ) → IsInRange x → fx_mul x (pos scale) ≡ x
fx_mul-one x h = ap saturated (quot-mul_scale x) ∙ saturated-same x h

pub one-fx_mul : (x : ℤ) → IsInRange x → fx_mul (pos scale) x ≡ x
one-fx_mul x h = ap (λ p. saturated (int_div p (pos scale))) (mul_scale-comm x) ∙ fx_mul-one x h

pub fx_mul-zero : (x : ℤ) → fx_mul x (pos 0) ≡ pos 0
fx_mul-zero x = ap (λ p. saturated (int_div p (pos scale))) (mul_zero x)

pub zero-fx_mul : (x : ℤ) → fx_mul (pos 0) x ≡ pos 0
zero-fx_mul x = ap (λ p. saturated (int_div p (pos scale))) (zero_mul x)

pub fx_div-one : (x : ℤ) → IsInRange x → fx_div x (pos scale) ≡ x
fx_div-one x h = fx_mul-one x h

pub zero-fx_div : (x : ℤ) → fx_div (pos 0) x ≡ pos 0
zero-fx_div x =
    cond_both (is_zero x) (pos 0) (saturated (int_div (pos 0) x)) (λ v. v ≡ pos 0) (λ e. refl) (λ e. ap saturated (zero_quot x))

pub fx_div-zero : (x : ℤ) → fx_div x (pos 0) ≡ pos 0
fx_div-zero x = refl

pub fx_mix-zero : (x y : ℤ) → IsInRange x → fx_mix x y (pos 0) ≡ x
fx_mix-zero x y h = ap (λ a. fx_add a (fx_mul y (pos 0))) (fx_mul-one x h) ∙ ap (fx_add x) (fx_mul-zero y) ∙ fx_add-zero x h

pub fx_mix-one : (x y : ℤ) → IsInRange y → fx_mix x y (pos scale) ≡ y
fx_mix-one x y h = ap (λ a. fx_add a (fx_mul y (pos scale))) (fx_mul-zero x) ∙ ap (fx_add (pos 0)) (fx_mul-one y h) ∙ zero-fx_add y h

-- ---- ints

pub int_add-zero : (x : ℤ) → FitsSigned w32 x → int_add x (pos 0) ≡ x
int_add-zero x h = ap wrapped (add_zero x) ∙ int_wrap_fits w32 x h

pub zero-int_add : (x : ℤ) → FitsSigned w32 x → int_add (pos 0) x ≡ x
zero-int_add x h = ap wrapped (zero_add x) ∙ int_wrap_fits w32 x h

pub int_sub-zero : (x : ℤ) → FitsSigned w32 x → int_sub x (pos 0) ≡ x
int_sub-zero x h = ap wrapped (sub_zero x) ∙ int_wrap_fits w32 x h

pub int_mul-one : (x : ℤ) → FitsSigned w32 x → int_mul x (pos 1) ≡ x
int_mul-one x h = ap wrapped (mul_one x) ∙ int_wrap_fits w32 x h

pub one-int_mul : (x : ℤ) → FitsSigned w32 x → int_mul (pos 1) x ≡ x
one-int_mul x h = ap wrapped (one_mul x) ∙ int_wrap_fits w32 x h

pub wrapped-zero : wrapped (pos 0) ≡ pos 0
wrapped-zero = int_wrap_fits w32 (pos 0) (record { sfits = lit< tt })

pub int_mul-zero : (x : ℤ) → int_mul x (pos 0) ≡ pos 0
int_mul-zero x = ap wrapped (mul_zero x) ∙ wrapped-zero

pub zero-int_mul : (x : ℤ) → int_mul (pos 0) x ≡ pos 0
zero-int_mul x = ap wrapped (zero_mul x) ∙ wrapped-zero

pub int_quotient-one : (x : ℤ) → FitsSigned w32 x → int_quotient x (pos 1) ≡ x
int_quotient-one x h = ap wrapped (quot_one x) ∙ int_wrap_fits w32 x h

pub zero-int_quotient : (x : ℤ) → int_quotient (pos 0) x ≡ pos 0
zero-int_quotient x =
    cond_both (is_zero x) (pos 0) (wrapped (int_div (pos 0) x)) (λ v. v ≡ pos 0) (λ e. refl) (λ e. ap wrapped (zero_quot x) ∙ wrapped-zero)

pub int_quotient-zero : (x : ℤ) → int_quotient x (pos 0) ≡ pos 0
int_quotient-zero x = refl
