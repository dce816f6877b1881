-- Whether numbers and strings make up a value of a type, as a test.
use Rattle.std.specs.Prelude.{ℕ, ◌^◌, nat_lt, nat_le, Bool, not, ◌&&◌, ◌==◌, ℤ, pos, negsuc, unsigned_abs, List, length}
use Rattle.std.specs.List.{list_all}
use Rattle.osl_value.specs.declared.types.Base.{Base}
use Rattle.osl_value.specs.declared.types.Base.TheVariants.{Int, Float, Color, Point, Vector, Normal, Matrix, Str, Closure}
use Rattle.osl_value.specs.declared.types.Ty.{Ty}
use Rattle.osl_value.specs.Numbers.{fmax}
use Rattle.osl_value.specs.Types.{same_base, number_count, text_count, longest_array}

abbrev pub is_closure : Ty → Bool
is_closure ty = same_base ty.base Closure

-- a type of the language: arrays are no longer than 1,024, and no closures
abbrev pub is_type : Ty → Bool
is_type ty = nat_le ty.len longest_array && not (is_closure ty && not (ty.len == 0))

abbrev pub fits_int : ℤ → Bool
fits_int (pos n) = nat_lt n (2 ^ 31)
fits_int (negsuc n) = nat_lt n (2 ^ 31)

abbrev pub fits_float : ℤ → Bool
fits_float units = nat_le (unsigned_abs units) fmax

abbrev pub fits_base : Base → ℤ → Bool
fits_base Int n = fits_int n
fits_base Float n = fits_float n
fits_base Color n = fits_float n
fits_base Point n = fits_float n
fits_base Vector n = fits_float n
fits_base Normal n = fits_float n
fits_base Matrix n = fits_float n
fits_base Str n = fits_float n
fits_base Closure n = fits_float n

-- as many numbers and strings as the type has, each number in its range; a closure has none
abbrev pub makes_up : Ty → List ℤ → List (List ℕ) → Bool
makes_up ty nums texts = ((length nums == number_count ty) && (length texts == text_count ty)) && list_all (fits_base ty.base) nums
