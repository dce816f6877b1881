-- A sum and a product of numbers that are known.
use Rattle.std.proofs.Common.{◌≡◌, ℤ, ◌∙◌}
use Rattle.osl_value.specs.Numbers.{fx_add, fx_mul}

pub sum_is : (r x y a b : ℤ) → r ≡ fx_add x y → x ≡ a → y ≡ b → r ≡ fx_add a b
sum_is r x y a b e f g = e ∙ (λ i. fx_add (f i) (g i))

pub product_is : (r x y a b : ℤ) → r ≡ fx_mul x y → x ≡ a → y ≡ b → r ≡ fx_mul a b
product_is r x y a b e f g = e ∙ (λ i. fx_mul (f i) (g i))
