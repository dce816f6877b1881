-- What each type holds, and arrays: their elements, an index out of range, their length.
use Rattle.std.proofs.Common.{◌≡◌, ℕ, refl}
use Rattle.std.specs.Prelude.{ℤ, pos, List, [], ◌∷◌, map, codes}
use Rattle.osl_value.specs.declared.op_name.OpName.TheVariants as op
use Rattle.osl_value.specs.declared.types.Base.{Base}
use Rattle.osl_value.specs.declared.types.Base.TheVariants as base
use Rattle.osl_value.specs.declared.types.Ty.{Ty}
use Rattle.osl_value.specs.AnyValue.{AnyValue, Parts, zero_value}
use Rattle.osl_value.specs.Apply.{apply}
use Rattle.osl_value.specs.Types.{only, base_name, number_count, text_count, slot_count, longest_text, longest_array}
use Rattle.osl_value_tests.proofs.Words.{minus, int, float, color, string, value, an_int, a_float, a_text}

abbrev bases : List Base
bases = base.Int ∷ base.Float ∷ base.Color ∷ base.Point ∷ base.Vector ∷ base.Normal ∷ base.Matrix ∷ base.Str ∷ base.Closure ∷ []

abbrev row : ℕ → Base → Ty
row n of = record { base = of; len = n }

-- ---- counts

names : map base_name bases ≡ (codes "int" ∷ codes "float" ∷ codes "color" ∷ codes "point" ∷ codes "vector" ∷ codes "normal"
    ∷ codes "matrix" ∷ codes "string" ∷ codes "closure color" ∷ [])
names = refl

numbers : map (λ of. number_count (only of)) bases ≡ (1 ∷ 1 ∷ 3 ∷ 3 ∷ 3 ∷ 3 ∷ 16 ∷ 0 ∷ 0 ∷ [])
numbers = refl

texts : map (λ of. text_count (only of)) bases ≡ (0 ∷ 0 ∷ 0 ∷ 0 ∷ 0 ∷ 0 ∷ 0 ∷ 1 ∷ 0 ∷ [])
texts = refl

slots : map (λ of. slot_count (only of)) bases ≡ (1 ∷ 1 ∷ 3 ∷ 3 ∷ 3 ∷ 3 ∷ 16 ∷ 32 ∷ 1 ∷ [])
slots = refl

numbers_of_five : map (λ b. number_count (row 5 b)) bases ≡ (5 ∷ 5 ∷ 15 ∷ 15 ∷ 15 ∷ 15 ∷ 80 ∷ 0 ∷ 0 ∷ [])
numbers_of_five = refl

texts_of_five : map (λ b. text_count (row 5 b)) bases ≡ (0 ∷ 0 ∷ 0 ∷ 0 ∷ 0 ∷ 0 ∷ 0 ∷ 5 ∷ 0 ∷ [])
texts_of_five = refl

slots_of_five : map (λ b. slot_count (row 5 b)) bases ≡ (5 ∷ 5 ∷ 15 ∷ 15 ∷ 15 ∷ 15 ∷ 80 ∷ 160 ∷ 5 ∷ [])
slots_of_five = refl

slots_of_one : map (λ b. slot_count (row 1 b)) bases ≡ map (λ of. slot_count (only of)) bases
slots_of_one = refl

longest : (longest_text ∷ longest_array ∷ []) ≡ (512 ∷ 1024 ∷ [])
longest = refl

-- ---- zero

zeros : map (λ of. zero_value (only of)) (base.Int ∷ base.Color ∷ base.Str ∷ base.Closure ∷ [])
    ≡ (an_int (pos 0) ∷ value color (pos 0 ∷ pos 0 ∷ pos 0 ∷ []) ∷ a_text [] ∷ Parts [] ∷ [])
zeros = refl

-- ---- elements of arrays

abbrev ints : AnyValue
ints = value (row 3 base.Int) (pos 10 ∷ pos 20 ∷ pos 30 ∷ [])

abbrev colors : AnyValue
colors = value (row 2 base.Color) (pos 1 ∷ pos 2 ∷ pos 3 ∷ pos 4 ∷ pos 5 ∷ pos 6 ∷ [])

read : map (λ i. apply op.ARef int (ints ∷ an_int i ∷ [])) (minus 7 ∷ minus 1 ∷ pos 0 ∷ pos 1 ∷ pos 2 ∷ pos 3 ∷ pos 2147483647 ∷ [])
    ≡ map an_int (pos 10 ∷ pos 10 ∷ pos 10 ∷ pos 20 ∷ pos 30 ∷ pos 30 ∷ pos 30 ∷ [])
unfolding apply
read = refl

read_color : map (λ i. apply op.ARef color (colors ∷ an_int i ∷ [])) (minus 1 ∷ pos 1 ∷ pos 2 ∷ [])
    ≡ (value color (pos 1 ∷ pos 2 ∷ pos 3 ∷ []) ∷ value color (pos 4 ∷ pos 5 ∷ pos 6 ∷ []) ∷ value color (pos 4 ∷ pos 5 ∷ pos 6 ∷ []) ∷ [])
unfolding apply
read_color = refl

written : map (λ i. apply op.AAssign (row 3 base.Int) (ints ∷ an_int i ∷ an_int (pos 9) ∷ [])) (minus 1 ∷ pos 1 ∷ pos 3 ∷ [])
    ≡ map (value (row 3 base.Int)) ((pos 9 ∷ pos 20 ∷ pos 30 ∷ []) ∷ (pos 10 ∷ pos 9 ∷ pos 30 ∷ []) ∷ (pos 10 ∷ pos 20 ∷ pos 9 ∷ []) ∷ [])
unfolding apply
written = refl

written_color : apply op.AAssign (row 2 base.Color) (colors ∷ an_int (pos 0) ∷ value color (pos 7 ∷ pos 8 ∷ pos 9 ∷ []) ∷ [])
    ≡ value (row 2 base.Color) (pos 7 ∷ pos 8 ∷ pos 9 ∷ pos 4 ∷ pos 5 ∷ pos 6 ∷ [])
unfolding apply
written_color = refl

lengths : map (λ b. apply op.ArrayLength int (zero_value (row 7 b) ∷ [])) (base.Int ∷ base.Str ∷ base.Matrix ∷ [])
    ≡ (an_int (pos 7) ∷ an_int (pos 7) ∷ an_int (pos 7) ∷ [])
unfolding apply
lengths = refl
