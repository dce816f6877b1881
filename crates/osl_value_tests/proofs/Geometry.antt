-- Operations on triples and matrices: sums from left to right (a sum that saturates tells), places out of range, all components of a comparison.
use Rattle.std.proofs.Common.{◌≡◌, ℕ, refl}
use Rattle.std.specs.Int.{int_wrap}
use Rattle.std.specs.Prelude.{ℤ, pos, List, [], ◌∷◌}
use Rattle.osl_value.specs.declared.op_name.OpName.TheVariants as op
use Rattle.osl_value.specs.AnyValue.{AnyValue}
use Rattle.osl_value.specs.Apply.{apply}
use Rattle.osl_value.specs.Numbers.{root_by, root_of}
use Rattle.osl_value_tests.proofs.Words.{minus, int, float, point, vector, normal, color, matrix, value}

-- ---- triples

dot_0 : apply op.Dot float (value vector (pos 1000000000 ∷ pos 2000000000 ∷ pos 3000000000 ∷ [])
    ∷ value vector (pos 4000000000 ∷ pos 5000000000 ∷ pos 6000000000 ∷ []) ∷ []) ≡ value float (pos 32000000000 ∷ [])
unfolding apply int_wrap
dot_0 = refl

cross_0 : apply op.Cross vector (value vector (pos 1000000000 ∷ pos 2000000000 ∷ pos 3000000000 ∷ [])
    ∷ value vector (pos 4000000000 ∷ pos 5000000000 ∷ pos 6000000000 ∷ []) ∷ []) ≡ value vector (minus 3000000000
    ∷ pos 6000000000 ∷ minus 3000000000 ∷ [])
unfolding apply int_wrap
cross_0 = refl

distance_0 : apply op.Distance float (value point (pos 1000000000 ∷ pos 2000000000 ∷ pos 3000000000 ∷ [])
    ∷ value point (pos 4000000000 ∷ pos 5000000000 ∷ pos 6000000000 ∷ []) ∷ []) ≡ value float (pos 5196152422 ∷ [])
unfolding apply int_wrap root_by root_of
distance_0 = refl

length_0 : apply op.Length float (value vector (pos 1000000000 ∷ pos 2000000000 ∷ pos 3000000000 ∷ [])
    ∷ []) ≡ value float (pos 3741657386 ∷ [])
unfolding apply int_wrap root_by root_of
length_0 = refl

normalize_0 : apply op.Normalize normal (value normal (pos 4000000000 ∷ pos 5000000000 ∷ pos 6000000000 ∷ [])
    ∷ []) ≡ value normal (pos 455842305 ∷ pos 569802882 ∷ pos 683763458 ∷ [])
unfolding apply int_wrap root_by root_of
normalize_0 = refl

dot_1 : apply op.Dot float (value vector (pos 9223372036854775807 ∷ pos 9223372036854775807
    ∷ minus 9223372036854775807 ∷ []) ∷ value vector (pos 1000000000 ∷ pos 1000000000 ∷ pos 1000000000 ∷ [])
    ∷ []) ≡ value float (pos 0 ∷ [])
unfolding apply int_wrap
dot_1 = refl

cross_1 : apply op.Cross vector (value vector (pos 9223372036854775807 ∷ pos 9223372036854775807
    ∷ minus 9223372036854775807 ∷ []) ∷ value vector (pos 1000000000 ∷ pos 1000000000 ∷ pos 1000000000 ∷ [])
    ∷ []) ≡ value vector (pos 9223372036854775807 ∷ minus 9223372036854775807 ∷ pos 0 ∷ [])
unfolding apply int_wrap
cross_1 = refl

distance_1 : apply op.Distance float (value point (pos 9223372036854775807 ∷ pos 9223372036854775807
    ∷ minus 9223372036854775807 ∷ []) ∷ value point (pos 1000000000 ∷ pos 1000000000 ∷ pos 1000000000 ∷ [])
    ∷ []) ≡ value float (pos 96038388349944 ∷ [])
unfolding apply int_wrap root_by root_of
distance_1 = refl

length_1 : apply op.Length float (value vector (pos 9223372036854775807 ∷ pos 9223372036854775807
    ∷ minus 9223372036854775807 ∷ []) ∷ []) ≡ value float (pos 96038388349944 ∷ [])
unfolding apply int_wrap root_by root_of
length_1 = refl

normalize_1 : apply op.Normalize normal (value normal (pos 1000000000 ∷ pos 1000000000 ∷ pos 1000000000 ∷ [])
    ∷ []) ≡ value normal (pos 577350269 ∷ pos 577350269 ∷ pos 577350269 ∷ [])
unfolding apply int_wrap root_by root_of
normalize_1 = refl

dot_2 : apply op.Dot float (value vector (minus 9223372036854775807 ∷ pos 9223372036854775807
    ∷ pos 9223372036854775807 ∷ []) ∷ value vector (pos 1000000000 ∷ pos 1000000000 ∷ pos 1000000000 ∷ [])
    ∷ []) ≡ value float (pos 9223372036854775807 ∷ [])
unfolding apply int_wrap
dot_2 = refl

cross_2 : apply op.Cross vector (value vector (minus 9223372036854775807 ∷ pos 9223372036854775807
    ∷ pos 9223372036854775807 ∷ []) ∷ value vector (pos 1000000000 ∷ pos 1000000000 ∷ pos 1000000000 ∷ [])
    ∷ []) ≡ value vector (pos 0 ∷ pos 9223372036854775807 ∷ minus 9223372036854775807 ∷ [])
unfolding apply int_wrap
cross_2 = refl

distance_2 : apply op.Distance float (value point (minus 9223372036854775807 ∷ pos 9223372036854775807
    ∷ pos 9223372036854775807 ∷ []) ∷ value point (pos 1000000000 ∷ pos 1000000000 ∷ pos 1000000000 ∷ [])
    ∷ []) ≡ value float (pos 96038388349944 ∷ [])
unfolding apply int_wrap root_by root_of
distance_2 = refl

length_2 : apply op.Length float (value vector (minus 9223372036854775807 ∷ pos 9223372036854775807
    ∷ pos 9223372036854775807 ∷ []) ∷ []) ≡ value float (pos 96038388349944 ∷ [])
unfolding apply int_wrap root_by root_of
length_2 = refl

normalize_2 : apply op.Normalize normal (value normal (pos 1000000000 ∷ pos 1000000000 ∷ pos 1000000000 ∷ [])
    ∷ []) ≡ value normal (pos 577350269 ∷ pos 577350269 ∷ pos 577350269 ∷ [])
unfolding apply int_wrap root_by root_of
normalize_2 = refl

dot_3 : apply op.Dot float (value vector (pos 1 ∷ minus 1 ∷ pos 1000000000 ∷ []) ∷ value vector (pos 500000000
    ∷ pos 500000000 ∷ pos 3 ∷ []) ∷ []) ≡ value float (pos 3 ∷ [])
unfolding apply int_wrap
dot_3 = refl

cross_3 : apply op.Cross vector (value vector (pos 1 ∷ minus 1 ∷ pos 1000000000 ∷ []) ∷ value vector (pos 500000000
    ∷ pos 500000000 ∷ pos 3 ∷ []) ∷ []) ≡ value vector (minus 500000000 ∷ pos 500000000 ∷ pos 0 ∷ [])
unfolding apply int_wrap
cross_3 = refl

distance_3 : apply op.Distance float (value point (pos 1 ∷ minus 1 ∷ pos 1000000000 ∷ []) ∷ value point (pos 500000000
    ∷ pos 500000000 ∷ pos 3 ∷ []) ∷ []) ≡ value float (pos 1224744868 ∷ [])
unfolding apply int_wrap root_by root_of
distance_3 = refl

length_3 : apply op.Length float (value vector (pos 1 ∷ minus 1 ∷ pos 1000000000 ∷ [])
    ∷ []) ≡ value float (pos 1000000000 ∷ [])
unfolding apply int_wrap root_by root_of
length_3 = refl

normalize_3 : apply op.Normalize normal (value normal (pos 500000000 ∷ pos 500000000 ∷ pos 3 ∷ [])
    ∷ []) ≡ value normal (pos 707106781 ∷ pos 707106781 ∷ pos 4 ∷ [])
unfolding apply int_wrap root_by root_of
normalize_3 = refl

dot_4 : apply op.Dot float (value vector (pos 3000000000 ∷ pos 0 ∷ minus 4000000000 ∷ []) ∷ value vector (pos 0
    ∷ pos 2000000000 ∷ pos 500000000 ∷ []) ∷ []) ≡ value float (minus 2000000000 ∷ [])
unfolding apply int_wrap
dot_4 = refl

cross_4 : apply op.Cross vector (value vector (pos 3000000000 ∷ pos 0 ∷ minus 4000000000 ∷ []) ∷ value vector (pos 0
    ∷ pos 2000000000 ∷ pos 500000000 ∷ []) ∷ []) ≡ value vector (pos 8000000000 ∷ minus 1500000000 ∷ pos 6000000000
    ∷ [])
unfolding apply int_wrap
cross_4 = refl

distance_4 : apply op.Distance float (value point (pos 3000000000 ∷ pos 0 ∷ minus 4000000000 ∷ [])
    ∷ value point (pos 0 ∷ pos 2000000000 ∷ pos 500000000 ∷ []) ∷ []) ≡ value float (pos 5766281297 ∷ [])
unfolding apply int_wrap root_by root_of
distance_4 = refl

length_4 : apply op.Length float (value vector (pos 3000000000 ∷ pos 0 ∷ minus 4000000000 ∷ [])
    ∷ []) ≡ value float (pos 5000000000 ∷ [])
unfolding apply int_wrap root_by root_of
length_4 = refl

normalize_4 : apply op.Normalize normal (value normal (pos 0 ∷ pos 2000000000 ∷ pos 500000000 ∷ [])
    ∷ []) ≡ value normal (pos 0 ∷ pos 970142500 ∷ pos 242535625 ∷ [])
unfolding apply int_wrap root_by root_of
normalize_4 = refl

dot_5 : apply op.Dot float (value vector (pos 1000000000 ∷ pos 0 ∷ pos 0 ∷ []) ∷ value vector (pos 0 ∷ pos 1000000000
    ∷ pos 0 ∷ []) ∷ []) ≡ value float (pos 0 ∷ [])
unfolding apply int_wrap
dot_5 = refl

cross_5 : apply op.Cross vector (value vector (pos 1000000000 ∷ pos 0 ∷ pos 0 ∷ []) ∷ value vector (pos 0
    ∷ pos 1000000000 ∷ pos 0 ∷ []) ∷ []) ≡ value vector (pos 0 ∷ pos 0 ∷ pos 1000000000 ∷ [])
unfolding apply int_wrap
cross_5 = refl

distance_5 : apply op.Distance float (value point (pos 1000000000 ∷ pos 0 ∷ pos 0 ∷ []) ∷ value point (pos 0
    ∷ pos 1000000000 ∷ pos 0 ∷ []) ∷ []) ≡ value float (pos 1414213562 ∷ [])
unfolding apply int_wrap root_by root_of
distance_5 = refl

length_5 : apply op.Length float (value vector (pos 1000000000 ∷ pos 0 ∷ pos 0 ∷ [])
    ∷ []) ≡ value float (pos 1000000000 ∷ [])
unfolding apply int_wrap root_by root_of
length_5 = refl

normalize_5 : apply op.Normalize normal (value normal (pos 0 ∷ pos 1000000000 ∷ pos 0 ∷ [])
    ∷ []) ≡ value normal (pos 0 ∷ pos 1000000000 ∷ pos 0 ∷ [])
unfolding apply int_wrap root_by root_of
normalize_5 = refl

dot_6 : apply op.Dot float (value vector (pos 0 ∷ minus 1000000000 ∷ pos 0 ∷ []) ∷ value vector (pos 0 ∷ pos 0
    ∷ minus 1000000000 ∷ []) ∷ []) ≡ value float (pos 0 ∷ [])
unfolding apply int_wrap
dot_6 = refl

cross_6 : apply op.Cross vector (value vector (pos 0 ∷ minus 1000000000 ∷ pos 0 ∷ []) ∷ value vector (pos 0 ∷ pos 0
    ∷ minus 1000000000 ∷ []) ∷ []) ≡ value vector (pos 1000000000 ∷ pos 0 ∷ pos 0 ∷ [])
unfolding apply int_wrap
cross_6 = refl

distance_6 : apply op.Distance float (value point (pos 0 ∷ minus 1000000000 ∷ pos 0 ∷ []) ∷ value point (pos 0 ∷ pos 0
    ∷ minus 1000000000 ∷ []) ∷ []) ≡ value float (pos 1414213562 ∷ [])
unfolding apply int_wrap root_by root_of
distance_6 = refl

length_6 : apply op.Length float (value vector (pos 0 ∷ minus 1000000000 ∷ pos 0 ∷ [])
    ∷ []) ≡ value float (pos 1000000000 ∷ [])
unfolding apply int_wrap root_by root_of
length_6 = refl

normalize_6 : apply op.Normalize normal (value normal (pos 0 ∷ pos 0 ∷ minus 1000000000 ∷ [])
    ∷ []) ≡ value normal (pos 0 ∷ pos 0 ∷ minus 1000000000 ∷ [])
unfolding apply int_wrap root_by root_of
normalize_6 = refl

dot_7 : apply op.Dot float (value vector (minus 2000000000 ∷ minus 2000000000 ∷ minus 1000000000 ∷ [])
    ∷ value vector (pos 2000000000 ∷ minus 1000000000 ∷ pos 2000000000 ∷ []) ∷ []) ≡ value float (minus 4000000000
    ∷ [])
unfolding apply int_wrap
dot_7 = refl

cross_7 : apply op.Cross vector (value vector (minus 2000000000 ∷ minus 2000000000 ∷ minus 1000000000 ∷ [])
    ∷ value vector (pos 2000000000 ∷ minus 1000000000 ∷ pos 2000000000 ∷ []) ∷ []) ≡ value vector (minus 5000000000
    ∷ pos 2000000000 ∷ pos 6000000000 ∷ [])
unfolding apply int_wrap
cross_7 = refl

distance_7 : apply op.Distance float (value point (minus 2000000000 ∷ minus 2000000000 ∷ minus 1000000000 ∷ [])
    ∷ value point (pos 2000000000 ∷ minus 1000000000 ∷ pos 2000000000 ∷ []) ∷ []) ≡ value float (pos 5099019513 ∷ [])
unfolding apply int_wrap root_by root_of
distance_7 = refl

length_7 : apply op.Length float (value vector (minus 2000000000 ∷ minus 2000000000 ∷ minus 1000000000 ∷ [])
    ∷ []) ≡ value float (pos 3000000000 ∷ [])
unfolding apply int_wrap root_by root_of
length_7 = refl

normalize_7 : apply op.Normalize normal (value normal (pos 2000000000 ∷ minus 1000000000 ∷ pos 2000000000 ∷ [])
    ∷ []) ≡ value normal (pos 666666666 ∷ minus 333333333 ∷ pos 666666666 ∷ [])
unfolding apply int_wrap root_by root_of
normalize_7 = refl

-- ---- a single float is repeated, on either side

float_less_triple : apply op.Sub color (value float (pos 5000000000 ∷ []) ∷ value color (pos 1000000000
    ∷ pos 2000000000 ∷ pos 3000000000 ∷ []) ∷ []) ≡ value color (pos 4000000000 ∷ pos 3000000000 ∷ pos 2000000000
    ∷ [])
unfolding apply int_wrap
float_less_triple = refl

triple_less_float : apply op.Sub color (value color (pos 1000000000 ∷ pos 2000000000 ∷ pos 3000000000 ∷ [])
    ∷ value float (pos 5000000000 ∷ []) ∷ []) ≡ value color (minus 4000000000 ∷ minus 3000000000 ∷ minus 2000000000
    ∷ [])
unfolding apply int_wrap
triple_less_float = refl

mix_by_float : apply op.Mix color (value color (pos 1000000000 ∷ pos 2000000000 ∷ pos 3000000000 ∷ [])
    ∷ value color (pos 3000000000 ∷ pos 2000000000 ∷ pos 1000000000 ∷ []) ∷ value float (pos 500000000 ∷ [])
    ∷ []) ≡ value color (pos 2000000000 ∷ pos 2000000000 ∷ pos 2000000000 ∷ [])
unfolding apply int_wrap
mix_by_float = refl

clamp_by_triples : apply op.Clamp color (value color (pos 0 ∷ pos 5000000000 ∷ pos 9000000000 ∷ [])
    ∷ value color (pos 1000000000 ∷ pos 1000000000 ∷ pos 1000000000 ∷ []) ∷ value color (pos 4000000000
    ∷ pos 4000000000 ∷ pos 8000000000 ∷ []) ∷ []) ≡ value color (pos 1000000000 ∷ pos 4000000000 ∷ pos 8000000000
    ∷ [])
unfolding apply int_wrap
clamp_by_triples = refl

-- ---- comparisons ask all components

eq_differs_at_0 : apply op.Eq int (value color (pos 1000000000 ∷ pos 2000000000 ∷ pos 3000000000 ∷ [])
    ∷ value color (pos 1000000001 ∷ pos 2000000000 ∷ pos 3000000000 ∷ []) ∷ []) ≡ value int (pos 0 ∷ [])
unfolding apply int_wrap
eq_differs_at_0 = refl

neq_differs_at_0 : apply op.Neq int (value color (pos 1000000000 ∷ pos 2000000000 ∷ pos 3000000000 ∷ [])
    ∷ value color (pos 1000000001 ∷ pos 2000000000 ∷ pos 3000000000 ∷ []) ∷ []) ≡ value int (pos 1 ∷ [])
unfolding apply int_wrap
neq_differs_at_0 = refl

eq_differs_at_1 : apply op.Eq int (value color (pos 1000000000 ∷ pos 2000000000 ∷ pos 3000000000 ∷ [])
    ∷ value color (pos 1000000000 ∷ pos 2000000001 ∷ pos 3000000000 ∷ []) ∷ []) ≡ value int (pos 0 ∷ [])
unfolding apply int_wrap
eq_differs_at_1 = refl

neq_differs_at_1 : apply op.Neq int (value color (pos 1000000000 ∷ pos 2000000000 ∷ pos 3000000000 ∷ [])
    ∷ value color (pos 1000000000 ∷ pos 2000000001 ∷ pos 3000000000 ∷ []) ∷ []) ≡ value int (pos 1 ∷ [])
unfolding apply int_wrap
neq_differs_at_1 = refl

eq_differs_at_2 : apply op.Eq int (value color (pos 1000000000 ∷ pos 2000000000 ∷ pos 3000000000 ∷ [])
    ∷ value color (pos 1000000000 ∷ pos 2000000000 ∷ pos 3000000001 ∷ []) ∷ []) ≡ value int (pos 0 ∷ [])
unfolding apply int_wrap
eq_differs_at_2 = refl

neq_differs_at_2 : apply op.Neq int (value color (pos 1000000000 ∷ pos 2000000000 ∷ pos 3000000000 ∷ [])
    ∷ value color (pos 1000000000 ∷ pos 2000000000 ∷ pos 3000000001 ∷ []) ∷ []) ≡ value int (pos 1 ∷ [])
unfolding apply int_wrap
neq_differs_at_2 = refl

eq_of_triples : apply op.Eq int (value color (pos 1000000000 ∷ pos 2000000000 ∷ pos 3000000000 ∷ [])
    ∷ value color (pos 1000000000 ∷ pos 2000000000 ∷ pos 3000000000 ∷ []) ∷ []) ≡ value int (pos 1 ∷ [])
unfolding apply int_wrap
eq_of_triples = refl

eq_of_triple_and_float : apply op.Eq int (value color (pos 1000000000 ∷ pos 1000000000 ∷ pos 1000000000 ∷ [])
    ∷ value float (pos 1000000000 ∷ []) ∷ []) ≡ value int (pos 1 ∷ [])
unfolding apply int_wrap
eq_of_triple_and_float = refl

eq_of_float_and_triple : apply op.Eq int (value float (pos 1000000000 ∷ []) ∷ value color (pos 1000000000
    ∷ pos 1000000000 ∷ pos 2000000000 ∷ []) ∷ []) ≡ value int (pos 0 ∷ [])
unfolding apply int_wrap
eq_of_float_and_triple = refl

eq_of_matrices : apply op.Eq int (value matrix (pos 1000000000 ∷ minus 2000000000 ∷ pos 500000000 ∷ pos 0 ∷ pos 0
    ∷ pos 3000000000 ∷ minus 1000000000 ∷ pos 1000000000 ∷ pos 5000000000 ∷ pos 1 ∷ minus 1 ∷ pos 2000000000
    ∷ minus 1000000000 ∷ pos 1000000000 ∷ pos 0 ∷ pos 4000000000 ∷ []) ∷ value matrix (pos 1000000000
    ∷ minus 2000000000 ∷ pos 500000000 ∷ pos 0 ∷ pos 0 ∷ pos 3000000000 ∷ minus 1000000000 ∷ pos 1000000000
    ∷ pos 5000000000 ∷ pos 1 ∷ minus 1 ∷ pos 2000000000 ∷ minus 1000000000 ∷ pos 1000000000 ∷ pos 0 ∷ pos 4000000000
    ∷ []) ∷ []) ≡ value int (pos 1 ∷ [])
unfolding apply int_wrap
eq_of_matrices = refl

eq_of_matrices_differs_at_0 : apply op.Eq int (value matrix (pos 1000000000 ∷ minus 2000000000 ∷ pos 500000000 ∷ pos 0
    ∷ pos 0 ∷ pos 3000000000 ∷ minus 1000000000 ∷ pos 1000000000 ∷ pos 5000000000 ∷ pos 1 ∷ minus 1 ∷ pos 2000000000
    ∷ minus 1000000000 ∷ pos 1000000000 ∷ pos 0 ∷ pos 4000000000 ∷ []) ∷ value matrix (pos 1000000001
    ∷ minus 2000000000 ∷ pos 500000000 ∷ pos 0 ∷ pos 0 ∷ pos 3000000000 ∷ minus 1000000000 ∷ pos 1000000000
    ∷ pos 5000000000 ∷ pos 1 ∷ minus 1 ∷ pos 2000000000 ∷ minus 1000000000 ∷ pos 1000000000 ∷ pos 0 ∷ pos 4000000000
    ∷ []) ∷ []) ≡ value int (pos 0 ∷ [])
unfolding apply int_wrap
eq_of_matrices_differs_at_0 = refl

neq_of_matrices_differs_at_0 : apply op.Neq int (value matrix (pos 1000000000 ∷ minus 2000000000 ∷ pos 500000000
    ∷ pos 0 ∷ pos 0 ∷ pos 3000000000 ∷ minus 1000000000 ∷ pos 1000000000 ∷ pos 5000000000 ∷ pos 1 ∷ minus 1
    ∷ pos 2000000000 ∷ minus 1000000000 ∷ pos 1000000000 ∷ pos 0 ∷ pos 4000000000 ∷ []) ∷ value matrix (pos 1000000001
    ∷ minus 2000000000 ∷ pos 500000000 ∷ pos 0 ∷ pos 0 ∷ pos 3000000000 ∷ minus 1000000000 ∷ pos 1000000000
    ∷ pos 5000000000 ∷ pos 1 ∷ minus 1 ∷ pos 2000000000 ∷ minus 1000000000 ∷ pos 1000000000 ∷ pos 0 ∷ pos 4000000000
    ∷ []) ∷ []) ≡ value int (pos 1 ∷ [])
unfolding apply int_wrap
neq_of_matrices_differs_at_0 = refl

eq_of_matrices_differs_at_7 : apply op.Eq int (value matrix (pos 1000000000 ∷ minus 2000000000 ∷ pos 500000000 ∷ pos 0
    ∷ pos 0 ∷ pos 3000000000 ∷ minus 1000000000 ∷ pos 1000000000 ∷ pos 5000000000 ∷ pos 1 ∷ minus 1 ∷ pos 2000000000
    ∷ minus 1000000000 ∷ pos 1000000000 ∷ pos 0 ∷ pos 4000000000 ∷ []) ∷ value matrix (pos 1000000000
    ∷ minus 2000000000 ∷ pos 500000000 ∷ pos 0 ∷ pos 0 ∷ pos 3000000000 ∷ minus 1000000000 ∷ pos 1000000001
    ∷ pos 5000000000 ∷ pos 1 ∷ minus 1 ∷ pos 2000000000 ∷ minus 1000000000 ∷ pos 1000000000 ∷ pos 0 ∷ pos 4000000000
    ∷ []) ∷ []) ≡ value int (pos 0 ∷ [])
unfolding apply int_wrap
eq_of_matrices_differs_at_7 = refl

neq_of_matrices_differs_at_7 : apply op.Neq int (value matrix (pos 1000000000 ∷ minus 2000000000 ∷ pos 500000000
    ∷ pos 0 ∷ pos 0 ∷ pos 3000000000 ∷ minus 1000000000 ∷ pos 1000000000 ∷ pos 5000000000 ∷ pos 1 ∷ minus 1
    ∷ pos 2000000000 ∷ minus 1000000000 ∷ pos 1000000000 ∷ pos 0 ∷ pos 4000000000 ∷ []) ∷ value matrix (pos 1000000000
    ∷ minus 2000000000 ∷ pos 500000000 ∷ pos 0 ∷ pos 0 ∷ pos 3000000000 ∷ minus 1000000000 ∷ pos 1000000001
    ∷ pos 5000000000 ∷ pos 1 ∷ minus 1 ∷ pos 2000000000 ∷ minus 1000000000 ∷ pos 1000000000 ∷ pos 0 ∷ pos 4000000000
    ∷ []) ∷ []) ≡ value int (pos 1 ∷ [])
unfolding apply int_wrap
neq_of_matrices_differs_at_7 = refl

eq_of_matrices_differs_at_15 : apply op.Eq int (value matrix (pos 1000000000 ∷ minus 2000000000 ∷ pos 500000000
    ∷ pos 0 ∷ pos 0 ∷ pos 3000000000 ∷ minus 1000000000 ∷ pos 1000000000 ∷ pos 5000000000 ∷ pos 1 ∷ minus 1
    ∷ pos 2000000000 ∷ minus 1000000000 ∷ pos 1000000000 ∷ pos 0 ∷ pos 4000000000 ∷ []) ∷ value matrix (pos 1000000000
    ∷ minus 2000000000 ∷ pos 500000000 ∷ pos 0 ∷ pos 0 ∷ pos 3000000000 ∷ minus 1000000000 ∷ pos 1000000000
    ∷ pos 5000000000 ∷ pos 1 ∷ minus 1 ∷ pos 2000000000 ∷ minus 1000000000 ∷ pos 1000000000 ∷ pos 0 ∷ pos 4000000001
    ∷ []) ∷ []) ≡ value int (pos 0 ∷ [])
unfolding apply int_wrap
eq_of_matrices_differs_at_15 = refl

neq_of_matrices_differs_at_15 : apply op.Neq int (value matrix (pos 1000000000 ∷ minus 2000000000 ∷ pos 500000000
    ∷ pos 0 ∷ pos 0 ∷ pos 3000000000 ∷ minus 1000000000 ∷ pos 1000000000 ∷ pos 5000000000 ∷ pos 1 ∷ minus 1
    ∷ pos 2000000000 ∷ minus 1000000000 ∷ pos 1000000000 ∷ pos 0 ∷ pos 4000000000 ∷ []) ∷ value matrix (pos 1000000000
    ∷ minus 2000000000 ∷ pos 500000000 ∷ pos 0 ∷ pos 0 ∷ pos 3000000000 ∷ minus 1000000000 ∷ pos 1000000000
    ∷ pos 5000000000 ∷ pos 1 ∷ minus 1 ∷ pos 2000000000 ∷ minus 1000000000 ∷ pos 1000000000 ∷ pos 0 ∷ pos 4000000001
    ∷ []) ∷ []) ≡ value int (pos 1 ∷ [])
unfolding apply int_wrap
neq_of_matrices_differs_at_15 = refl

-- ---- components, where an index out of range is moved to the nearest

compref_minus_5 : apply op.CompRef float (value color (pos 1000000000 ∷ pos 2000000000 ∷ pos 3000000000 ∷ [])
    ∷ value int (minus 5 ∷ []) ∷ []) ≡ value float (pos 1000000000 ∷ [])
unfolding apply int_wrap
compref_minus_5 = refl

compref_minus_1 : apply op.CompRef float (value color (pos 1000000000 ∷ pos 2000000000 ∷ pos 3000000000 ∷ [])
    ∷ value int (minus 1 ∷ []) ∷ []) ≡ value float (pos 1000000000 ∷ [])
unfolding apply int_wrap
compref_minus_1 = refl

compref_0 : apply op.CompRef float (value color (pos 1000000000 ∷ pos 2000000000 ∷ pos 3000000000 ∷ [])
    ∷ value int (pos 0 ∷ []) ∷ []) ≡ value float (pos 1000000000 ∷ [])
unfolding apply int_wrap
compref_0 = refl

compref_1 : apply op.CompRef float (value color (pos 1000000000 ∷ pos 2000000000 ∷ pos 3000000000 ∷ [])
    ∷ value int (pos 1 ∷ []) ∷ []) ≡ value float (pos 2000000000 ∷ [])
unfolding apply int_wrap
compref_1 = refl

compref_2 : apply op.CompRef float (value color (pos 1000000000 ∷ pos 2000000000 ∷ pos 3000000000 ∷ [])
    ∷ value int (pos 2 ∷ []) ∷ []) ≡ value float (pos 3000000000 ∷ [])
unfolding apply int_wrap
compref_2 = refl

compref_3 : apply op.CompRef float (value color (pos 1000000000 ∷ pos 2000000000 ∷ pos 3000000000 ∷ [])
    ∷ value int (pos 3 ∷ []) ∷ []) ≡ value float (pos 3000000000 ∷ [])
unfolding apply int_wrap
compref_3 = refl

compref_7 : apply op.CompRef float (value color (pos 1000000000 ∷ pos 2000000000 ∷ pos 3000000000 ∷ [])
    ∷ value int (pos 7 ∷ []) ∷ []) ≡ value float (pos 3000000000 ∷ [])
unfolding apply int_wrap
compref_7 = refl

compassign_minus_1 : apply op.CompAssign color (value color (pos 1000000000 ∷ pos 2000000000 ∷ pos 3000000000 ∷ [])
    ∷ value int (minus 1 ∷ []) ∷ value float (pos 9000000000 ∷ []) ∷ []) ≡ value color (pos 9000000000
    ∷ pos 2000000000 ∷ pos 3000000000 ∷ [])
unfolding apply int_wrap
compassign_minus_1 = refl

compassign_1 : apply op.CompAssign color (value color (pos 1000000000 ∷ pos 2000000000 ∷ pos 3000000000 ∷ [])
    ∷ value int (pos 1 ∷ []) ∷ value float (pos 9000000000 ∷ []) ∷ []) ≡ value color (pos 1000000000 ∷ pos 9000000000
    ∷ pos 3000000000 ∷ [])
unfolding apply int_wrap
compassign_1 = refl

compassign_3 : apply op.CompAssign color (value color (pos 1000000000 ∷ pos 2000000000 ∷ pos 3000000000 ∷ [])
    ∷ value int (pos 3 ∷ []) ∷ value float (pos 9000000000 ∷ []) ∷ []) ≡ value color (pos 1000000000 ∷ pos 2000000000
    ∷ pos 9000000000 ∷ [])
unfolding apply int_wrap
compassign_3 = refl

-- ---- matrices

mxcompref_0_0 : apply op.MxCompRef float (value matrix (pos 1000000000 ∷ pos 2000000000 ∷ pos 3000000000
    ∷ pos 4000000000 ∷ pos 5000000000 ∷ pos 6000000000 ∷ pos 7000000000 ∷ pos 8000000000 ∷ pos 9000000000
    ∷ pos 10000000000 ∷ pos 11000000000 ∷ pos 12000000000 ∷ pos 13000000000 ∷ pos 14000000000 ∷ pos 15000000000
    ∷ pos 16000000000 ∷ []) ∷ value int (pos 0 ∷ []) ∷ value int (pos 0 ∷ []) ∷ []) ≡ value float (pos 1000000000
    ∷ [])
unfolding apply int_wrap
mxcompref_0_0 = refl

mxcompassign_0_0 : apply op.MxCompAssign matrix (value matrix (pos 1000000000 ∷ pos 2000000000 ∷ pos 3000000000
    ∷ pos 4000000000 ∷ pos 5000000000 ∷ pos 6000000000 ∷ pos 7000000000 ∷ pos 8000000000 ∷ pos 9000000000
    ∷ pos 10000000000 ∷ pos 11000000000 ∷ pos 12000000000 ∷ pos 13000000000 ∷ pos 14000000000 ∷ pos 15000000000
    ∷ pos 16000000000 ∷ []) ∷ value int (pos 0 ∷ []) ∷ value int (pos 0 ∷ []) ∷ value float (pos 7 ∷ [])
    ∷ []) ≡ value matrix (pos 7 ∷ pos 2000000000 ∷ pos 3000000000 ∷ pos 4000000000 ∷ pos 5000000000 ∷ pos 6000000000
    ∷ pos 7000000000 ∷ pos 8000000000 ∷ pos 9000000000 ∷ pos 10000000000 ∷ pos 11000000000 ∷ pos 12000000000
    ∷ pos 13000000000 ∷ pos 14000000000 ∷ pos 15000000000 ∷ pos 16000000000 ∷ [])
unfolding apply int_wrap
mxcompassign_0_0 = refl

mxcompref_1_2 : apply op.MxCompRef float (value matrix (pos 1000000000 ∷ pos 2000000000 ∷ pos 3000000000
    ∷ pos 4000000000 ∷ pos 5000000000 ∷ pos 6000000000 ∷ pos 7000000000 ∷ pos 8000000000 ∷ pos 9000000000
    ∷ pos 10000000000 ∷ pos 11000000000 ∷ pos 12000000000 ∷ pos 13000000000 ∷ pos 14000000000 ∷ pos 15000000000
    ∷ pos 16000000000 ∷ []) ∷ value int (pos 1 ∷ []) ∷ value int (pos 2 ∷ []) ∷ []) ≡ value float (pos 7000000000
    ∷ [])
unfolding apply int_wrap
mxcompref_1_2 = refl

mxcompassign_1_2 : apply op.MxCompAssign matrix (value matrix (pos 1000000000 ∷ pos 2000000000 ∷ pos 3000000000
    ∷ pos 4000000000 ∷ pos 5000000000 ∷ pos 6000000000 ∷ pos 7000000000 ∷ pos 8000000000 ∷ pos 9000000000
    ∷ pos 10000000000 ∷ pos 11000000000 ∷ pos 12000000000 ∷ pos 13000000000 ∷ pos 14000000000 ∷ pos 15000000000
    ∷ pos 16000000000 ∷ []) ∷ value int (pos 1 ∷ []) ∷ value int (pos 2 ∷ []) ∷ value float (pos 7 ∷ [])
    ∷ []) ≡ value matrix (pos 1000000000 ∷ pos 2000000000 ∷ pos 3000000000 ∷ pos 4000000000 ∷ pos 5000000000
    ∷ pos 6000000000 ∷ pos 7 ∷ pos 8000000000 ∷ pos 9000000000 ∷ pos 10000000000 ∷ pos 11000000000 ∷ pos 12000000000
    ∷ pos 13000000000 ∷ pos 14000000000 ∷ pos 15000000000 ∷ pos 16000000000 ∷ [])
unfolding apply int_wrap
mxcompassign_1_2 = refl

mxcompref_3_3 : apply op.MxCompRef float (value matrix (pos 1000000000 ∷ pos 2000000000 ∷ pos 3000000000
    ∷ pos 4000000000 ∷ pos 5000000000 ∷ pos 6000000000 ∷ pos 7000000000 ∷ pos 8000000000 ∷ pos 9000000000
    ∷ pos 10000000000 ∷ pos 11000000000 ∷ pos 12000000000 ∷ pos 13000000000 ∷ pos 14000000000 ∷ pos 15000000000
    ∷ pos 16000000000 ∷ []) ∷ value int (pos 3 ∷ []) ∷ value int (pos 3 ∷ []) ∷ []) ≡ value float (pos 16000000000
    ∷ [])
unfolding apply int_wrap
mxcompref_3_3 = refl

mxcompassign_3_3 : apply op.MxCompAssign matrix (value matrix (pos 1000000000 ∷ pos 2000000000 ∷ pos 3000000000
    ∷ pos 4000000000 ∷ pos 5000000000 ∷ pos 6000000000 ∷ pos 7000000000 ∷ pos 8000000000 ∷ pos 9000000000
    ∷ pos 10000000000 ∷ pos 11000000000 ∷ pos 12000000000 ∷ pos 13000000000 ∷ pos 14000000000 ∷ pos 15000000000
    ∷ pos 16000000000 ∷ []) ∷ value int (pos 3 ∷ []) ∷ value int (pos 3 ∷ []) ∷ value float (pos 7 ∷ [])
    ∷ []) ≡ value matrix (pos 1000000000 ∷ pos 2000000000 ∷ pos 3000000000 ∷ pos 4000000000 ∷ pos 5000000000
    ∷ pos 6000000000 ∷ pos 7000000000 ∷ pos 8000000000 ∷ pos 9000000000 ∷ pos 10000000000 ∷ pos 11000000000
    ∷ pos 12000000000 ∷ pos 13000000000 ∷ pos 14000000000 ∷ pos 15000000000 ∷ pos 7 ∷ [])
unfolding apply int_wrap
mxcompassign_3_3 = refl

mxcompref_minus_1_4 : apply op.MxCompRef float (value matrix (pos 1000000000 ∷ pos 2000000000 ∷ pos 3000000000
    ∷ pos 4000000000 ∷ pos 5000000000 ∷ pos 6000000000 ∷ pos 7000000000 ∷ pos 8000000000 ∷ pos 9000000000
    ∷ pos 10000000000 ∷ pos 11000000000 ∷ pos 12000000000 ∷ pos 13000000000 ∷ pos 14000000000 ∷ pos 15000000000
    ∷ pos 16000000000 ∷ []) ∷ value int (minus 1 ∷ []) ∷ value int (pos 4 ∷ []) ∷ []) ≡ value float (pos 4000000000
    ∷ [])
unfolding apply int_wrap
mxcompref_minus_1_4 = refl

mxcompassign_minus_1_4 : apply op.MxCompAssign matrix (value matrix (pos 1000000000 ∷ pos 2000000000 ∷ pos 3000000000
    ∷ pos 4000000000 ∷ pos 5000000000 ∷ pos 6000000000 ∷ pos 7000000000 ∷ pos 8000000000 ∷ pos 9000000000
    ∷ pos 10000000000 ∷ pos 11000000000 ∷ pos 12000000000 ∷ pos 13000000000 ∷ pos 14000000000 ∷ pos 15000000000
    ∷ pos 16000000000 ∷ []) ∷ value int (minus 1 ∷ []) ∷ value int (pos 4 ∷ []) ∷ value float (pos 7 ∷ [])
    ∷ []) ≡ value matrix (pos 1000000000 ∷ pos 2000000000 ∷ pos 3000000000 ∷ pos 7 ∷ pos 5000000000 ∷ pos 6000000000
    ∷ pos 7000000000 ∷ pos 8000000000 ∷ pos 9000000000 ∷ pos 10000000000 ∷ pos 11000000000 ∷ pos 12000000000
    ∷ pos 13000000000 ∷ pos 14000000000 ∷ pos 15000000000 ∷ pos 16000000000 ∷ [])
unfolding apply int_wrap
mxcompassign_minus_1_4 = refl

mxcompref_4_minus_1 : apply op.MxCompRef float (value matrix (pos 1000000000 ∷ pos 2000000000 ∷ pos 3000000000
    ∷ pos 4000000000 ∷ pos 5000000000 ∷ pos 6000000000 ∷ pos 7000000000 ∷ pos 8000000000 ∷ pos 9000000000
    ∷ pos 10000000000 ∷ pos 11000000000 ∷ pos 12000000000 ∷ pos 13000000000 ∷ pos 14000000000 ∷ pos 15000000000
    ∷ pos 16000000000 ∷ []) ∷ value int (pos 4 ∷ []) ∷ value int (minus 1 ∷ []) ∷ []) ≡ value float (pos 13000000000
    ∷ [])
unfolding apply int_wrap
mxcompref_4_minus_1 = refl

mxcompassign_4_minus_1 : apply op.MxCompAssign matrix (value matrix (pos 1000000000 ∷ pos 2000000000 ∷ pos 3000000000
    ∷ pos 4000000000 ∷ pos 5000000000 ∷ pos 6000000000 ∷ pos 7000000000 ∷ pos 8000000000 ∷ pos 9000000000
    ∷ pos 10000000000 ∷ pos 11000000000 ∷ pos 12000000000 ∷ pos 13000000000 ∷ pos 14000000000 ∷ pos 15000000000
    ∷ pos 16000000000 ∷ []) ∷ value int (pos 4 ∷ []) ∷ value int (minus 1 ∷ []) ∷ value float (pos 7 ∷ [])
    ∷ []) ≡ value matrix (pos 1000000000 ∷ pos 2000000000 ∷ pos 3000000000 ∷ pos 4000000000 ∷ pos 5000000000
    ∷ pos 6000000000 ∷ pos 7000000000 ∷ pos 8000000000 ∷ pos 9000000000 ∷ pos 10000000000 ∷ pos 11000000000
    ∷ pos 12000000000 ∷ pos 7 ∷ pos 14000000000 ∷ pos 15000000000 ∷ pos 16000000000 ∷ [])
unfolding apply int_wrap
mxcompassign_4_minus_1 = refl

mxcompref_2_1 : apply op.MxCompRef float (value matrix (pos 1000000000 ∷ pos 2000000000 ∷ pos 3000000000
    ∷ pos 4000000000 ∷ pos 5000000000 ∷ pos 6000000000 ∷ pos 7000000000 ∷ pos 8000000000 ∷ pos 9000000000
    ∷ pos 10000000000 ∷ pos 11000000000 ∷ pos 12000000000 ∷ pos 13000000000 ∷ pos 14000000000 ∷ pos 15000000000
    ∷ pos 16000000000 ∷ []) ∷ value int (pos 2 ∷ []) ∷ value int (pos 1 ∷ []) ∷ []) ≡ value float (pos 10000000000
    ∷ [])
unfolding apply int_wrap
mxcompref_2_1 = refl

mxcompassign_2_1 : apply op.MxCompAssign matrix (value matrix (pos 1000000000 ∷ pos 2000000000 ∷ pos 3000000000
    ∷ pos 4000000000 ∷ pos 5000000000 ∷ pos 6000000000 ∷ pos 7000000000 ∷ pos 8000000000 ∷ pos 9000000000
    ∷ pos 10000000000 ∷ pos 11000000000 ∷ pos 12000000000 ∷ pos 13000000000 ∷ pos 14000000000 ∷ pos 15000000000
    ∷ pos 16000000000 ∷ []) ∷ value int (pos 2 ∷ []) ∷ value int (pos 1 ∷ []) ∷ value float (pos 7 ∷ [])
    ∷ []) ≡ value matrix (pos 1000000000 ∷ pos 2000000000 ∷ pos 3000000000 ∷ pos 4000000000 ∷ pos 5000000000
    ∷ pos 6000000000 ∷ pos 7000000000 ∷ pos 8000000000 ∷ pos 9000000000 ∷ pos 7 ∷ pos 11000000000 ∷ pos 12000000000
    ∷ pos 13000000000 ∷ pos 14000000000 ∷ pos 15000000000 ∷ pos 16000000000 ∷ [])
unfolding apply int_wrap
mxcompassign_2_1 = refl

product_counted : apply op.Mul matrix (value matrix (pos 1000000000 ∷ pos 2000000000 ∷ pos 3000000000 ∷ pos 4000000000
    ∷ pos 5000000000 ∷ pos 6000000000 ∷ pos 7000000000 ∷ pos 8000000000 ∷ pos 9000000000 ∷ pos 10000000000
    ∷ pos 11000000000 ∷ pos 12000000000 ∷ pos 13000000000 ∷ pos 14000000000 ∷ pos 15000000000 ∷ pos 16000000000 ∷ [])
    ∷ value matrix (pos 1000000000 ∷ minus 2000000000 ∷ pos 500000000 ∷ pos 0 ∷ pos 0 ∷ pos 3000000000
    ∷ minus 1000000000 ∷ pos 1000000000 ∷ pos 5000000000 ∷ pos 1 ∷ minus 1 ∷ pos 2000000000 ∷ minus 1000000000
    ∷ pos 1000000000 ∷ pos 0 ∷ pos 4000000000 ∷ []) ∷ []) ≡ value matrix (pos 12000000000 ∷ pos 8000000003
    ∷ minus 1500000003 ∷ pos 24000000000 ∷ pos 32000000000 ∷ pos 16000000007 ∷ minus 3500000007 ∷ pos 52000000000
    ∷ pos 52000000000 ∷ pos 24000000011 ∷ minus 5500000011 ∷ pos 80000000000 ∷ pos 72000000000 ∷ pos 32000000015
    ∷ minus 7500000015 ∷ pos 108000000000 ∷ [])
unfolding apply int_wrap
product_counted = refl

product_turned : apply op.Mul matrix (value matrix (pos 1000000000 ∷ minus 2000000000 ∷ pos 500000000 ∷ pos 0 ∷ pos 0
    ∷ pos 3000000000 ∷ minus 1000000000 ∷ pos 1000000000 ∷ pos 5000000000 ∷ pos 1 ∷ minus 1 ∷ pos 2000000000
    ∷ minus 1000000000 ∷ pos 1000000000 ∷ pos 0 ∷ pos 4000000000 ∷ []) ∷ value matrix (pos 1000000000 ∷ pos 2000000000
    ∷ pos 3000000000 ∷ pos 4000000000 ∷ pos 5000000000 ∷ pos 6000000000 ∷ pos 7000000000 ∷ pos 8000000000
    ∷ pos 9000000000 ∷ pos 10000000000 ∷ pos 11000000000 ∷ pos 12000000000 ∷ pos 13000000000 ∷ pos 14000000000
    ∷ pos 15000000000 ∷ pos 16000000000 ∷ []) ∷ []) ≡ value matrix (minus 4500000000 ∷ minus 5000000000
    ∷ minus 5500000000 ∷ minus 6000000000 ∷ pos 19000000000 ∷ pos 22000000000 ∷ pos 25000000000 ∷ pos 28000000000
    ∷ pos 30999999996 ∷ pos 37999999996 ∷ pos 44999999996 ∷ pos 51999999996 ∷ pos 56000000000 ∷ pos 60000000000
    ∷ pos 64000000000 ∷ pos 68000000000 ∷ [])
unfolding apply int_wrap
product_turned = refl

product_saturated : apply op.Mul matrix (value matrix (pos 9223372036854775807 ∷ pos 9223372036854775807
    ∷ minus 9223372036854775807 ∷ pos 1000000000 ∷ pos 1000000000 ∷ pos 1000000000 ∷ pos 1000000000 ∷ pos 1000000000
    ∷ minus 9223372036854775807 ∷ pos 9223372036854775807 ∷ pos 9223372036854775807 ∷ pos 1000000000 ∷ pos 0 ∷ pos 0
    ∷ pos 0 ∷ pos 1000000000 ∷ []) ∷ value matrix (pos 1000000000 ∷ pos 0 ∷ pos 0 ∷ pos 0 ∷ pos 1000000000
    ∷ pos 1000000000 ∷ pos 0 ∷ pos 0 ∷ pos 1000000000 ∷ pos 0 ∷ pos 1000000000 ∷ pos 0 ∷ pos 1000000000 ∷ pos 0
    ∷ pos 0 ∷ pos 1000000000 ∷ []) ∷ []) ≡ value matrix (pos 1000000000 ∷ pos 9223372036854775807
    ∷ minus 9223372036854775807 ∷ pos 1000000000 ∷ pos 4000000000 ∷ pos 1000000000 ∷ pos 1000000000 ∷ pos 1000000000
    ∷ pos 9223372036854775807 ∷ pos 9223372036854775807 ∷ pos 9223372036854775807 ∷ pos 1000000000 ∷ pos 1000000000
    ∷ pos 0 ∷ pos 0 ∷ pos 1000000000 ∷ [])
unfolding apply int_wrap
product_saturated = refl

product_unit_first : apply op.Mul matrix (value matrix (pos 1000000000 ∷ pos 0 ∷ pos 0 ∷ pos 0 ∷ pos 0
    ∷ pos 1000000000 ∷ pos 0 ∷ pos 0 ∷ pos 0 ∷ pos 0 ∷ pos 1000000000 ∷ pos 0 ∷ pos 0 ∷ pos 0 ∷ pos 0 ∷ pos 1000000000
    ∷ []) ∷ value matrix (pos 1000000000 ∷ minus 2000000000 ∷ pos 500000000 ∷ pos 0 ∷ pos 0 ∷ pos 3000000000
    ∷ minus 1000000000 ∷ pos 1000000000 ∷ pos 5000000000 ∷ pos 1 ∷ minus 1 ∷ pos 2000000000 ∷ minus 1000000000
    ∷ pos 1000000000 ∷ pos 0 ∷ pos 4000000000 ∷ []) ∷ []) ≡ value matrix (pos 1000000000 ∷ minus 2000000000
    ∷ pos 500000000 ∷ pos 0 ∷ pos 0 ∷ pos 3000000000 ∷ minus 1000000000 ∷ pos 1000000000 ∷ pos 5000000000 ∷ pos 1
    ∷ minus 1 ∷ pos 2000000000 ∷ minus 1000000000 ∷ pos 1000000000 ∷ pos 0 ∷ pos 4000000000 ∷ [])
unfolding apply int_wrap
product_unit_first = refl

product_unit_second : apply op.Mul matrix (value matrix (pos 1000000000 ∷ minus 2000000000 ∷ pos 500000000 ∷ pos 0
    ∷ pos 0 ∷ pos 3000000000 ∷ minus 1000000000 ∷ pos 1000000000 ∷ pos 5000000000 ∷ pos 1 ∷ minus 1 ∷ pos 2000000000
    ∷ minus 1000000000 ∷ pos 1000000000 ∷ pos 0 ∷ pos 4000000000 ∷ []) ∷ value matrix (pos 1000000000 ∷ pos 0 ∷ pos 0
    ∷ pos 0 ∷ pos 0 ∷ pos 1000000000 ∷ pos 0 ∷ pos 0 ∷ pos 0 ∷ pos 0 ∷ pos 1000000000 ∷ pos 0 ∷ pos 0 ∷ pos 0 ∷ pos 0
    ∷ pos 1000000000 ∷ []) ∷ []) ≡ value matrix (pos 1000000000 ∷ minus 2000000000 ∷ pos 500000000 ∷ pos 0 ∷ pos 0
    ∷ pos 3000000000 ∷ minus 1000000000 ∷ pos 1000000000 ∷ pos 5000000000 ∷ pos 1 ∷ minus 1 ∷ pos 2000000000
    ∷ minus 1000000000 ∷ pos 1000000000 ∷ pos 0 ∷ pos 4000000000 ∷ [])
unfolding apply int_wrap
product_unit_second = refl

transposed : apply op.Transpose matrix (value matrix (pos 1000000000 ∷ pos 2000000000 ∷ pos 3000000000
    ∷ pos 4000000000 ∷ pos 5000000000 ∷ pos 6000000000 ∷ pos 7000000000 ∷ pos 8000000000 ∷ pos 9000000000
    ∷ pos 10000000000 ∷ pos 11000000000 ∷ pos 12000000000 ∷ pos 13000000000 ∷ pos 14000000000 ∷ pos 15000000000
    ∷ pos 16000000000 ∷ []) ∷ []) ≡ value matrix (pos 1000000000 ∷ pos 5000000000 ∷ pos 9000000000 ∷ pos 13000000000
    ∷ pos 2000000000 ∷ pos 6000000000 ∷ pos 10000000000 ∷ pos 14000000000 ∷ pos 3000000000 ∷ pos 7000000000
    ∷ pos 11000000000 ∷ pos 15000000000 ∷ pos 4000000000 ∷ pos 8000000000 ∷ pos 12000000000 ∷ pos 16000000000 ∷ [])
unfolding apply int_wrap
transposed = refl

transform_point_0 : apply op.Transform point (value matrix (pos 1000000000 ∷ minus 2000000000 ∷ pos 500000000 ∷ pos 0
    ∷ pos 0 ∷ pos 3000000000 ∷ minus 1000000000 ∷ pos 1000000000 ∷ pos 5000000000 ∷ pos 1 ∷ minus 1 ∷ pos 2000000000
    ∷ minus 1000000000 ∷ pos 1000000000 ∷ pos 0 ∷ pos 4000000000 ∷ []) ∷ value point (pos 1000000000 ∷ pos 2000000000
    ∷ pos 3000000000 ∷ []) ∷ []) ≡ value point (pos 15000000000 ∷ pos 5000000003 ∷ minus 1500000003 ∷ [])
unfolding apply int_wrap
transform_point_0 = refl

transform_vector_0 : apply op.Transform vector (value matrix (pos 1000000000 ∷ minus 2000000000 ∷ pos 500000000
    ∷ pos 0 ∷ pos 0 ∷ pos 3000000000 ∷ minus 1000000000 ∷ pos 1000000000 ∷ pos 5000000000 ∷ pos 1 ∷ minus 1
    ∷ pos 2000000000 ∷ minus 1000000000 ∷ pos 1000000000 ∷ pos 0 ∷ pos 4000000000 ∷ []) ∷ value vector (pos 1000000000
    ∷ pos 2000000000 ∷ pos 3000000000 ∷ []) ∷ []) ≡ value vector (pos 16000000000 ∷ pos 4000000003 ∷ minus 1500000003
    ∷ [])
unfolding apply int_wrap
transform_vector_0 = refl

transform_point_1 : apply op.Transform point (value matrix (pos 1000000000 ∷ minus 2000000000 ∷ pos 500000000 ∷ pos 0
    ∷ pos 0 ∷ pos 3000000000 ∷ minus 1000000000 ∷ pos 1000000000 ∷ pos 5000000000 ∷ pos 1 ∷ minus 1 ∷ pos 2000000000
    ∷ minus 1000000000 ∷ pos 1000000000 ∷ pos 0 ∷ pos 4000000000 ∷ []) ∷ value point (pos 9223372036854775807
    ∷ pos 9223372036854775807 ∷ minus 9223372036854775807 ∷ []) ∷ []) ≡ value point (minus 1000000000
    ∷ minus 8223372036 ∷ minus 4611686009204015868 ∷ [])
unfolding apply int_wrap
transform_point_1 = refl

transform_vector_1 : apply op.Transform vector (value matrix (pos 1000000000 ∷ minus 2000000000 ∷ pos 500000000
    ∷ pos 0 ∷ pos 0 ∷ pos 3000000000 ∷ minus 1000000000 ∷ pos 1000000000 ∷ pos 5000000000 ∷ pos 1 ∷ minus 1
    ∷ pos 2000000000 ∷ minus 1000000000 ∷ pos 1000000000 ∷ pos 0 ∷ pos 4000000000 ∷ [])
    ∷ value vector (pos 9223372036854775807 ∷ pos 9223372036854775807 ∷ minus 9223372036854775807 ∷ [])
    ∷ []) ≡ value vector (pos 0 ∷ minus 9223372036 ∷ minus 4611686009204015868 ∷ [])
unfolding apply int_wrap
transform_vector_1 = refl

transform_point_2 : apply op.Transform point (value matrix (pos 1000000000 ∷ minus 2000000000 ∷ pos 500000000 ∷ pos 0
    ∷ pos 0 ∷ pos 3000000000 ∷ minus 1000000000 ∷ pos 1000000000 ∷ pos 5000000000 ∷ pos 1 ∷ minus 1 ∷ pos 2000000000
    ∷ minus 1000000000 ∷ pos 1000000000 ∷ pos 0 ∷ pos 4000000000 ∷ []) ∷ value point (minus 9223372036854775807
    ∷ pos 9223372036854775807 ∷ pos 9223372036854775807 ∷ []) ∷ []) ≡ value point (minus 1000000000
    ∷ pos 9223372036854775807 ∷ minus 9223372036854775807 ∷ [])
unfolding apply int_wrap
transform_point_2 = refl

transform_vector_2 : apply op.Transform vector (value matrix (pos 1000000000 ∷ minus 2000000000 ∷ pos 500000000
    ∷ pos 0 ∷ pos 0 ∷ pos 3000000000 ∷ minus 1000000000 ∷ pos 1000000000 ∷ pos 5000000000 ∷ pos 1 ∷ minus 1
    ∷ pos 2000000000 ∷ minus 1000000000 ∷ pos 1000000000 ∷ pos 0 ∷ pos 4000000000 ∷ [])
    ∷ value vector (minus 9223372036854775807 ∷ pos 9223372036854775807 ∷ pos 9223372036854775807 ∷ [])
    ∷ []) ≡ value vector (pos 0 ∷ pos 9223372036854775807 ∷ minus 9223372036854775807 ∷ [])
unfolding apply int_wrap
transform_vector_2 = refl

transform_point_3 : apply op.Transform point (value matrix (pos 1000000000 ∷ minus 2000000000 ∷ pos 500000000 ∷ pos 0
    ∷ pos 0 ∷ pos 3000000000 ∷ minus 1000000000 ∷ pos 1000000000 ∷ pos 5000000000 ∷ pos 1 ∷ minus 1 ∷ pos 2000000000
    ∷ minus 1000000000 ∷ pos 1000000000 ∷ pos 0 ∷ pos 4000000000 ∷ []) ∷ value point (pos 1 ∷ minus 1 ∷ pos 1000000000
    ∷ []) ∷ []) ≡ value point (pos 4000000001 ∷ pos 999999996 ∷ pos 0 ∷ [])
unfolding apply int_wrap
transform_point_3 = refl

transform_vector_3 : apply op.Transform vector (value matrix (pos 1000000000 ∷ minus 2000000000 ∷ pos 500000000
    ∷ pos 0 ∷ pos 0 ∷ pos 3000000000 ∷ minus 1000000000 ∷ pos 1000000000 ∷ pos 5000000000 ∷ pos 1 ∷ minus 1
    ∷ pos 2000000000 ∷ minus 1000000000 ∷ pos 1000000000 ∷ pos 0 ∷ pos 4000000000 ∷ []) ∷ value vector (pos 1
    ∷ minus 1 ∷ pos 1000000000 ∷ []) ∷ []) ≡ value vector (pos 5000000001 ∷ minus 4 ∷ pos 0 ∷ [])
unfolding apply int_wrap
transform_vector_3 = refl

transform_saturated : apply op.Transform point (value matrix (pos 9223372036854775807 ∷ pos 9223372036854775807
    ∷ minus 9223372036854775807 ∷ pos 1000000000 ∷ pos 1000000000 ∷ pos 1000000000 ∷ pos 1000000000 ∷ pos 1000000000
    ∷ minus 9223372036854775807 ∷ pos 9223372036854775807 ∷ pos 9223372036854775807 ∷ pos 1000000000 ∷ pos 0 ∷ pos 0
    ∷ pos 0 ∷ pos 1000000000 ∷ []) ∷ value point (pos 1000000000 ∷ pos 1000000000 ∷ pos 1000000000 ∷ [])
    ∷ []) ≡ value point (pos 0 ∷ pos 9223372036854775807 ∷ pos 1000000000 ∷ [])
unfolding apply int_wrap
transform_saturated = refl

matrix_of_float : apply op.Matrix matrix (value float (pos 3000000000 ∷ []) ∷ []) ≡ value matrix (pos 3000000000
    ∷ pos 0 ∷ pos 0 ∷ pos 0 ∷ pos 0 ∷ pos 3000000000 ∷ pos 0 ∷ pos 0 ∷ pos 0 ∷ pos 0 ∷ pos 3000000000 ∷ pos 0 ∷ pos 0
    ∷ pos 0 ∷ pos 0 ∷ pos 3000000000 ∷ [])
unfolding apply int_wrap
matrix_of_float = refl

matrix_of_int : apply op.Matrix matrix (value int (pos 3 ∷ []) ∷ []) ≡ value matrix (pos 3000000000 ∷ pos 0 ∷ pos 0
    ∷ pos 0 ∷ pos 0 ∷ pos 3000000000 ∷ pos 0 ∷ pos 0 ∷ pos 0 ∷ pos 0 ∷ pos 3000000000 ∷ pos 0 ∷ pos 0 ∷ pos 0 ∷ pos 0
    ∷ pos 3000000000 ∷ [])
unfolding apply int_wrap
matrix_of_int = refl

triple_of_mixed : apply op.Triple point (value int (pos 1 ∷ []) ∷ value float (pos 500000000 ∷ [])
    ∷ value int (minus 2 ∷ []) ∷ []) ≡ value point (pos 1000000000 ∷ pos 500000000 ∷ minus 2000000000 ∷ [])
unfolding apply int_wrap
triple_of_mixed = refl

-- ---- copies and conversions

int_to_float : apply op.Assign float (value int (minus 3 ∷ []) ∷ []) ≡ value float (minus 3000000000 ∷ [])
unfolding apply int_wrap
int_to_float = refl

greatest_int_to_float : apply op.Assign float (value int (pos 2147483647 ∷ [])
    ∷ []) ≡ value float (pos 2147483647000000000 ∷ [])
unfolding apply int_wrap
greatest_int_to_float = refl

int_to_triple : apply op.Assign color (value int (pos 2 ∷ []) ∷ []) ≡ value color (pos 2000000000 ∷ pos 2000000000
    ∷ pos 2000000000 ∷ [])
unfolding apply int_wrap
int_to_triple = refl

float_to_triple : apply op.Assign normal (value float (pos 500000000 ∷ []) ∷ []) ≡ value normal (pos 500000000
    ∷ pos 500000000 ∷ pos 500000000 ∷ [])
unfolding apply int_wrap
float_to_triple = refl

triple_to_triple : apply op.Assign point (value color (pos 1000000000 ∷ pos 500000000 ∷ minus 1000000000 ∷ [])
    ∷ []) ≡ value point (pos 1000000000 ∷ pos 500000000 ∷ minus 1000000000 ∷ [])
unfolding apply int_wrap
triple_to_triple = refl
