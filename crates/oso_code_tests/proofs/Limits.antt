-- What passes the limits by one, and what does not.
use Rattle.std.proofs.Common.{◌≡◌, ℕ, refl}
use Rattle.std.specs.Prelude.{◌++◌, Bool, true, false, List, [], codes, replicate, None}
use Rattle.osl_value.specs.declared.types.Base.TheVariants as base
use Rattle.osl_value.specs.declared.types.Ty.{Ty}
use Rattle.osl_value.specs.Types.{only}
use Rattle.oso_code.specs.declared.op.Op.{Op}
use Rattle.oso_code.specs.declared.symbol.Class.TheVariants as class
use Rattle.oso_code.specs.declared.symbol.Symbol.{Symbol}
use Rattle.oso_code.specs.Valid.{fits_limits}
use Rattle.oso_code_tests.proofs.Words.{row, symbol, body}

-- so many variables of one type, whose names do not matter here
abbrev variables : ℕ → Ty → List Symbol
variables n ty = replicate n (symbol class.Local ty (codes "v") None)

abbrev within : List Symbol → List Op → Bool
within symbols ops = fits_limits (body symbols ops)

-- ---- symbols, each of one slot

most_symbols : within (variables 65536 (only base.Int)) [] ≡ true
most_symbols = refl

too_many_symbols : within (variables 65537 (only base.Int)) [] ≡ false
too_many_symbols = refl

-- ---- slots: of arrays of floats, of matrices and of strings

most_slots : within (variables 64 (row 1024 base.Float)) [] ≡ true
most_slots = refl

too_many_slots : within (variables 64 (row 1024 base.Float) ++ variables 1 (only base.Int)) [] ≡ false
too_many_slots = refl

slots_of_matrices : within (variables 4 (row 1024 base.Matrix)) [] ≡ true
slots_of_matrices = refl

too_many_matrices : within (variables 4 (row 1024 base.Matrix) ++ variables 1 (only base.Closure)) [] ≡ false
too_many_matrices = refl

slots_of_strings : within (variables 2 (row 1024 base.Str)) [] ≡ true
slots_of_strings = refl

too_many_strings : within (variables 2 (row 1024 base.Str) ++ variables 1 (only base.Float)) [] ≡ false
too_many_strings = refl
