-- Quotients and shifts of ints, as the definitions have them.
use Rattle.std.proofs.Common.{◌≡◌, ◌≢◌, ℕ, suc, ◌*◌, ◌/◌, ◌%◌, ◌^◌, ◌<◌, ℤ, pos, negsuc, neg_ℤ, ◌*ℤ◌, FitsSigned, refl, sym, ap, ◌∙◌, arith}
use Rattle.std.specs.Prelude.{int_div, unsigned_abs}
use Rattle.std.specs.Int.Signed.{mag_shr}
use Rattle.osl_value.specs.Numbers.{int_quotient}
use Rattle.std.specs.Int.{w32, cast_signed, cast_unsigned, int_div_euclid, int_wrap, int_shl, int_shr, int_wrapping_neg}
use Rattle.std.proofs.lemmas.Int.{to_z-of_z, SFits-int_wrap, int_wrap_fits, wrapping_neg_is, wrapping_mul_onto, int_wrap-mul_right}
use Rattle.std.proofs.lemmas.Bool.{cond-false, ne_eqb}
use Rattle.std.proofs.Math.IntN.{*ℤ_comm}
use Rattle.std.proofs.Math.Nat.{mod-eq_of_lt}
use Rattle.std.proofs.Math.Pow.{pow-lt}

pub shift_is : (a : ℤ) (k : ℕ) → int_shr a k ≡ int_div_euclid a (pos (2 ^ k))
shift_is (pos a) k = refl
shift_is (negsuc a) k = refl

over_minus_one : (a : ℤ) → neg_ℤ a ≡ int_div a (negsuc 0)
over_minus_one (pos a) = let same : a ≡ a / 1 = omega arith in ap (λ n. neg_ℤ (pos n)) same
over_minus_one (negsuc a) = let same : suc a ≡ suc a / 1 = omega arith in ap pos same

pub quotient_by_minus_one : (a b r : ℤ) → FitsSigned w32 a → b ≡ negsuc 0 → r ≡ int_wrapping_neg w32 a → r ≡ int_quotient a b
quotient_by_minus_one a b r f e h = h ∙ wrapping_neg_is w32 a f ∙ ap (int_wrap w32) (over_minus_one a) ∙ sym (ap (int_quotient a) e)

pub quotient_stays : (a b r : ℤ) → b ≢ pos 0 → FitsSigned w32 r → r ≡ int_div a b → r ≡ int_quotient a b
quotient_stays a (pos n) r h f e =
    sym (int_wrap_fits w32 r f) ∙ ap (int_wrap w32) e ∙ sym (cond-false _ _ _ (ne_eqb n 0 (λ z. h (ap pos z))))
quotient_stays a (negsuc n) r h f e = sym (int_wrap_fits w32 r f) ∙ ap (int_wrap w32) e

bits_are : (n : ℕ) → n < 2 ^ 32 → cast_signed w32 n ≡ int_wrap w32 (pos n)
unfolding int_wrap
bits_are n h = sym (ap (cast_signed w32) (mod-eq_of_lt h))

pub shl_is : (a : ℤ) (k : ℕ) → FitsSigned w32 a → k < 32 → int_shl w32 a k ≡ int_wrap w32 (a *ℤ pos (2 ^ k))
shl_is a k f h =
    let power : 2 ^ k < 2 ^ 32 = pow-lt h in
    let turned : cast_unsigned w32 a * 2 ^ k ≡ 2 ^ k * cast_unsigned w32 a = omega arith in
    ap (λ n. cast_signed w32 (n % 2 ^ 32)) turned ∙ wrapping_mul_onto w32 (2 ^ k) a power f
    ∙ ap (int_wrap w32) (*ℤ_comm (cast_signed w32 (2 ^ k)) a)
    ∙ ap (λ y. int_wrap w32 (a *ℤ y)) (bits_are (2 ^ k) power) ∙ int_wrap-mul_right w32 a (pos (2 ^ k))

-- a result that a caller reads back from its bits
pub read_back : (r z : ℤ) → r ≡ int_wrap w32 z → cast_signed w32 (cast_unsigned w32 r) ≡ int_wrap w32 z
read_back r z e = ap (λ y. cast_signed w32 (cast_unsigned w32 y)) e ∙ to_z-of_z w32 (int_wrap w32 z) (SFits-int_wrap w32 z)

shift_fits : (a : ℤ) (k : ℕ) → FitsSigned w32 a → FitsSigned w32 (int_shr a k)
shift_fits a k f = let bound = f.sfits in record { sfits = omega (arith, mag_shr a (2 ^ k)) }

pub shift_back : (r a : ℤ) (k : ℕ) → FitsSigned w32 a → r ≡ int_shr a k → cast_signed w32 (cast_unsigned w32 r) ≡ int_div_euclid a (pos (2 ^ k))
shift_back r a k f e =
    ap (λ y. cast_signed w32 (cast_unsigned w32 y)) e ∙ to_z-of_z w32 (int_shr a k) (shift_fits a k f) ∙ shift_is a k

abs_small : (a : ℤ) → FitsSigned w32 a → unsigned_abs a < 2 ^ 32
abs_small (pos n) f = let low : n < 2 ^ 31 = f.sfits in omega arith
abs_small (negsuc n) f = let low : n < 2 ^ 31 = f.sfits in omega arith

pub abs_is : (a : ℤ) → FitsSigned w32 a → cast_signed w32 (unsigned_abs a) ≡ int_wrap w32 (pos (unsigned_abs a))
abs_is a f = bits_are (unsigned_abs a) (abs_small a f)
