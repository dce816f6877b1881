-- Matrices of any elements (OSL specification, "Matrix functions").
use Rattle.std.specs.Prelude.{◌≡◌, ℕ, ℤ}
use Rattle.osl_value.specs.Geometry.{matrix_of, transpose}

abbrev pub TransposedTwice : Type 0
TransposedTwice = (elements : ℕ → ℕ → ℤ) → transpose (transpose (matrix_of elements)) ≡ matrix_of elements
