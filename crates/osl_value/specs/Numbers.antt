-- The two kinds of numbers, and each operation on one, two or three of them (OSL specification, "Basic math functions", in this project's own arithmetic). A `float` is a whole number of units of 10^-9 and stands here as its units; an `int` has 32 bits and stands as itself.
use Rattle.std.specs.Prelude.{ℕ, zero, suc, ◌+◌, ◌-◌, ◌*◌, ◌/◌, ◌%◌, ◌^◌, ◌<◌, ◌≤◌, min, nat_le, Bool, false, ◌&&◌, ◌==◌, not, if◌then◌else◌, ℤ, pos, negsuc, neg_ℤ, ◌+ℤ◌, ◌-ℤ◌, ◌*ℤ◌, int_div, int_rem, int_lt, int_le, unsigned_abs, bit_and, bit_or, bit_xor}
use Rattle.std.specs.Int.{w32, saturate_signed, int_min, int_max, int_signum, int_div_euclid, int_rem_euclid, int_wrap, cast_signed, cast_unsigned, is_negative}
use Rattle.std.specs.Ordering.{int_eq}

-- the units of 1.0
abbrev pub scale : ℕ
scale = 1000000000

-- the units of the largest float
abbrev pub fmax : ℕ
fmax = 2 ^ 63 - 1

-- these are the units of a float
abbrev pub IsInRange : ℤ → Type 0
IsInRange units = unsigned_abs units ≤ fmax

-- the nearest units of a float
abbrev pub saturated : ℤ → ℤ
saturated (pos n) = pos (min n fmax)
saturated (negsuc n) = negsuc (min n (fmax - 1))

abbrev pub is_zero : ℤ → Bool
is_zero (pos n) = n == 0
is_zero (negsuc n) = false

-- 1 where a test holds, else 0
abbrev pub truth : Bool → ℤ
truth holds = if holds then pos 1 else pos 0

-- a number without its sign where that is minus, else 0: the nearest count
abbrev pub count_of : ℤ → ℕ
count_of (pos n) = n
count_of (negsuc n) = 0

-- ---- floats and ints

abbrev pub fx_from_int : ℤ → ℤ
fx_from_int n = n *ℤ pos scale

-- cut toward zero, then the nearest int
abbrev pub fx_to_int : ℤ → ℤ
fx_to_int x = saturate_signed w32 (int_div x (pos scale))

-- ---- floats: sums, products and quotients, each exact, cut toward zero, then saturated

abbrev pub fx_add : ℤ → ℤ → ℤ
fx_add a b = saturated (a +ℤ b)

abbrev pub fx_sub : ℤ → ℤ → ℤ
fx_sub a b = saturated (a -ℤ b)

abbrev pub fx_mul : ℤ → ℤ → ℤ
fx_mul a b = saturated (int_div (a *ℤ b) (pos scale))

abbrev pub fx_div : ℤ → ℤ → ℤ
fx_div a b = if is_zero b then pos 0 else saturated (int_div (a *ℤ pos scale) b)

-- the remainder of the units, with the sign of a
abbrev pub fx_fmod : ℤ → ℤ → ℤ
fx_fmod a b = if is_zero b then pos 0 else int_rem a b

-- the remainder of the units, with the sign of b
abbrev pub fx_mod : ℤ → ℤ → ℤ
fx_mod a b =
    let rest = int_rem_euclid a b in
    if is_zero b then pos 0 else if is_negative b && not (is_zero rest) then rest +ℤ b else rest

-- ---- floats: order and sign

abbrev pub fx_min : ℤ → ℤ → ℤ
fx_min = int_min

abbrev pub fx_max : ℤ → ℤ → ℤ
fx_max = int_max

abbrev pub fx_step : ℤ → ℤ → ℤ
fx_step edge x = if int_lt x edge then pos 0 else pos scale

abbrev pub fx_clamp : ℤ → ℤ → ℤ → ℤ
fx_clamp x lo hi = fx_min (fx_max x lo) hi

abbrev pub fx_neg : ℤ → ℤ
fx_neg = neg_ℤ

abbrev pub fx_abs : ℤ → ℤ
fx_abs x = pos (unsigned_abs x)

abbrev pub fx_sign : ℤ → ℤ
fx_sign x = fx_from_int (int_signum x)

-- ---- floats: whole numbers near them

-- a whole number as a float, saturated
abbrev pub whole : ℤ → ℤ
whole n = saturated (n *ℤ pos scale)

abbrev pub fx_floor : ℤ → ℤ
fx_floor x = whole (int_div_euclid x (pos scale))

abbrev pub fx_ceil : ℤ → ℤ
fx_ceil x = whole (neg_ℤ (int_div_euclid (neg_ℤ x) (pos scale)))

-- this many, with the sign of a number
abbrev pub signed_as : ℤ → ℕ → ℤ
signed_as (pos a) n = pos n
signed_as (negsuc a) n = neg_ℤ (pos n)

-- half away from zero: the number without its sign and a half more, cut
abbrev pub fx_round : ℤ → ℤ
fx_round x = whole (signed_as x ((unsigned_abs x + scale / 2) / scale))

abbrev pub fx_trunc : ℤ → ℤ
fx_trunc x = whole (int_div x (pos scale))

-- ---- floats: roots

-- r is the greatest number with r * r ≤ n
pub record IsRoot (n r : ℕ) : Type 0 where
  pub not_above : r * r ≤ n
  pub greatest : n < (r + 1) * (r + 1)

-- the root of n is twice the root of n / 4, or one more
abbrev pub next_root : ℕ → ℕ → ℕ
next_root n root = if nat_le ((root + 1) * (root + 1)) n then root + 1 else root

-- the root of n, for n below 4 ^ digits
unfoldable pub root_by : ℕ → ℕ → ℕ
root_by zero n = 0
root_by (suc digits) n = next_root n (2 * root_by digits (n / 4))

-- the root of n, for n below 4 ^ 64
unfoldable pub root_of : ℕ → ℕ
root_of n = root_by 64 n

-- the root of x * 10^9, and 0 below 0
abbrev pub fx_sqrt : ℤ → ℤ
fx_sqrt x = pos (root_of (count_of x * scale))

abbrev pub fx_inversesqrt : ℤ → ℤ
fx_inversesqrt x = fx_div (pos scale) (fx_sqrt x)

-- ---- floats: blends

abbrev pub fx_mix : ℤ → ℤ → ℤ → ℤ
fx_mix x y t = fx_add (fx_mul x (fx_sub (pos scale) t)) (fx_mul y t)

abbrev pub fx_smoothstep : ℤ → ℤ → ℤ → ℤ
fx_smoothstep e0 e1 x =
    let t = fx_div (fx_sub x e0) (fx_sub e1 e0) in
    if int_lt x e0 then pos 0
    else if int_le e1 x then pos scale
    else fx_mul (fx_mul t t) (fx_sub (pos (3 * scale)) (fx_mul (pos (2 * scale)) t))

-- ---- ints: 32 bits that wrap

-- the int of the same low 32 bits
abbrev pub wrapped : ℤ → ℤ
wrapped n = int_wrap w32 n

-- the 32 bits of an int, and the int of 32 bits
abbrev pub bits_of : ℤ → ℕ
bits_of n = cast_unsigned w32 n

abbrev pub from_bits : ℕ → ℤ
from_bits bits = cast_signed w32 bits

abbrev pub int_add : ℤ → ℤ → ℤ
int_add a b = wrapped (a +ℤ b)

abbrev pub int_sub : ℤ → ℤ → ℤ
int_sub a b = wrapped (a -ℤ b)

abbrev pub int_mul : ℤ → ℤ → ℤ
int_mul a b = wrapped (a *ℤ b)

-- cut toward zero
abbrev pub int_quotient : ℤ → ℤ → ℤ
int_quotient a b = if is_zero b then pos 0 else wrapped (int_div a b)

-- what the quotient leaves
abbrev pub int_remainder : ℤ → ℤ → ℤ
int_remainder a b = if is_zero b then pos 0 else int_sub a (int_mul b (int_quotient a b))

abbrev pub int_neg : ℤ → ℤ
int_neg a = wrapped (neg_ℤ a)

abbrev pub int_abs : ℤ → ℤ
int_abs a = wrapped (pos (unsigned_abs a))

abbrev pub int_compl : ℤ → ℤ
int_compl a = neg_ℤ a -ℤ pos 1

abbrev pub int_bitand : ℤ → ℤ → ℤ
int_bitand a b = from_bits (bit_and (bits_of a) (bits_of b))

abbrev pub int_bitor : ℤ → ℤ → ℤ
int_bitor a b = from_bits (bit_or (bits_of a) (bits_of b))

abbrev pub int_xor : ℤ → ℤ → ℤ
int_xor a b = from_bits (bit_xor (bits_of a) (bits_of b))

-- the low five bits of a count
abbrev pub shift_count : ℤ → ℕ
shift_count n = bits_of n % 32

abbrev pub int_shl : ℤ → ℤ → ℤ
int_shl a n = wrapped (a *ℤ pos (2 ^ shift_count n))

-- the sign stays: the quotient is rounded down
abbrev pub int_shr : ℤ → ℤ → ℤ
int_shr a n = int_div_euclid a (pos (2 ^ shift_count n))

abbrev pub int_not : ℤ → ℤ
int_not a = truth (is_zero a)

abbrev pub int_clamp : ℤ → ℤ → ℤ → ℤ
int_clamp x lo hi = int_min (int_max x lo) hi

-- ---- comparisons, of ints or of floats

abbrev pub eq : ℤ → ℤ → ℤ
eq a b = truth (int_eq a b)

abbrev pub neq : ℤ → ℤ → ℤ
neq a b = truth (not (int_eq a b))

abbrev pub lt : ℤ → ℤ → ℤ
lt a b = truth (int_lt a b)

abbrev pub gt : ℤ → ℤ → ℤ
gt a b = truth (int_lt b a)

abbrev pub le : ℤ → ℤ → ℤ
le a b = truth (int_le a b)

abbrev pub ge : ℤ → ℤ → ℤ
ge a b = truth (int_le b a)

-- ---- a function of one, two or three numbers, or none

pub data Numeric : Type 0 where
  Never : Numeric
  One : (ℤ → ℤ) → Numeric
  Two : (ℤ → ℤ → ℤ) → Numeric
  Three : (ℤ → ℤ → ℤ → ℤ) → Numeric

-- how many numbers it takes
abbrev pub arity : Numeric → ℕ
arity Never = 0
arity (One f) = 1
arity (Two f) = 2
arity (Three f) = 3

-- its value at these numbers
abbrev pub value_at : Numeric → (ℕ → ℤ) → ℤ
value_at Never arg = pos 0
value_at (One f) arg = f (arg 0)
value_at (Two f) arg = f (arg 0) (arg 1)
value_at (Three f) arg = f (arg 0) (arg 1) (arg 2)
