-- Comparisons, least and greatest numbers and `clamp`, on ints or on the units of floats (OSL specification, "Mathematical functions" and "Operators").
use Rattle.std.specs.Prelude.{◌≡◌, ◌⊎◌, ◌↔◌, ℤ, pos, ◌+ℤ◌}
use Rattle.std.specs.Int.{int_min, int_max}
use Rattle.osl_value.specs.Numbers.{int_not, int_clamp, eq, neq, lt, gt, le, ge}

-- a test holds
abbrev pub IsSo : ℤ → Type 0
IsSo test = test ≡ pos 1

pub record Opposites : Type 0 where
  pub ge_is_not_lt : (a b : ℤ) → ge a b ≡ int_not (lt a b)
  pub le_is_not_gt : (a b : ℤ) → le a b ≡ int_not (gt a b)
  pub neq_is_not_eq : (a b : ℤ) → neq a b ≡ int_not (eq a b)

pub record Turned : Type 0 where
  pub gt_is_lt : (a b : ℤ) → gt a b ≡ lt b a
  pub ge_is_le : (a b : ℤ) → ge a b ≡ le b a

abbrev pub LessOrEqual : Type 0
LessOrEqual = (a b : ℤ) → le a b ≡ int_max (lt a b) (eq a b)

-- each test is 0 or 1
abbrev pub OneOfThree : Type 0
OneOfThree = (a b : ℤ) → (lt a b +ℤ eq a b) +ℤ gt a b ≡ pos 1

abbrev pub Equality : Type 0
Equality = (a b : ℤ) → IsSo (eq a b) ↔ (a ≡ b)

abbrev pub Transitivity : Type 0
Transitivity = (a b c : ℤ) → IsSo (lt a b) → IsSo (lt b c) → IsSo (lt a c)

pub record Least : Type 0 where
  pub one : (a b : ℤ) → (int_min a b ≡ a) ⊎ (int_min a b ≡ b)
  pub first : (a b : ℤ) → IsSo (le (int_min a b) a)
  pub second : (a b : ℤ) → IsSo (le (int_min a b) b)

pub record Greatest : Type 0 where
  pub one : (a b : ℤ) → (int_max a b ≡ a) ⊎ (int_max a b ≡ b)
  pub first : (a b : ℤ) → IsSo (le a (int_max a b))
  pub second : (a b : ℤ) → IsSo (le b (int_max a b))

pub record Clamped : Type 0 where
  pub from : (x low high : ℤ) → IsSo (le low high) → IsSo (le low (int_clamp x low high))
  pub to : (x low high : ℤ) → IsSo (le (int_clamp x low high) high)
  pub kept : (x low high : ℤ) → IsSo (le low x) → IsSo (le x high) → int_clamp x low high ≡ x
