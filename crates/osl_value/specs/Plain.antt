-- Values of types that are no closures.
use Rattle.std.specs.Prelude.{ℕ, ◌≡◌, ◌≢◌, ◌≤◌, ℤ, pos, List, [], length, replicate, FitsSigned}
use Rattle.std.specs.Int.{w32}
use Rattle.std.specs.List.{All}
use Rattle.osl_value.specs.declared.types.Base.{Base}
use Rattle.osl_value.specs.declared.types.Base.TheVariants.{Int, Float, Color, Point, Vector, Normal, Matrix, Str, Closure}
use Rattle.osl_value.specs.declared.types.Ty.{Ty}
use Rattle.osl_value.specs.Numbers.{IsInRange}
use Rattle.osl_value.specs.Types.{number_count, text_count, longest_array}

-- a value: its type, its numbers (an int as itself, a float as its units) and its texts (each its bytes)
pub record Plain : Type 0 where
  pub ty : Ty
  pub nums : List ℤ
  pub texts : List (List ℕ)

-- a number that a base type holds
abbrev pub IsNumberOf : Base → ℤ → Type 0
IsNumberOf Int n = FitsSigned w32 n
IsNumberOf Float n = IsInRange n
IsNumberOf Color n = IsInRange n
IsNumberOf Point n = IsInRange n
IsNumberOf Vector n = IsInRange n
IsNumberOf Normal n = IsInRange n
IsNumberOf Matrix n = IsInRange n
IsNumberOf Str n = IsInRange n
IsNumberOf Closure n = IsInRange n

-- these numbers and texts make up a value of this type
pub record IsPlain (ty : Ty) (nums : List ℤ) (texts : List (List ℕ)) : Type 0 where
  pub no_closure : ty.base ≢ Closure
  pub short : ty.len ≤ longest_array
  pub nums_fit : length nums ≡ number_count ty
  pub texts_fit : length texts ≡ text_count ty
  pub in_range : All (IsNumberOf ty.base) nums

-- zeros and empty texts
abbrev pub zero_of : Ty → Plain
zero_of ty = record { ty = ty; nums = replicate (number_count ty) (pos 0); texts = replicate (text_count ty) [] }
