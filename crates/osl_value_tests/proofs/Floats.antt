-- Operations on single floats, in units of 10^-9: at zero, at equality, beside whole numbers and halves, at both signs and at both ends of the range.
use Rattle.std.proofs.Common.{◌≡◌, ℕ, refl}
use Rattle.std.specs.Int.{int_wrap}
use Rattle.std.specs.Prelude.{ℤ, pos, List, [], ◌∷◌}
use Rattle.osl_value.specs.declared.op_name.OpName.TheVariants as op
use Rattle.osl_value.specs.Apply.{apply}
use Rattle.osl_value.specs.Numbers.{root_by, root_of}
use Rattle.osl_value_tests.proofs.Words.{minus, one, two, three, on_floats, tests_of_floats, ints, floats}

abbrev ones : List (List ℤ)
ones = one (pos 0) ∷ one (pos 1) ∷ one (minus 1) ∷ one (pos 1000000000) ∷ one (minus 1000000000) ∷ one (pos 500000000)
    ∷ one (minus 500000000) ∷ one (pos 499999999) ∷ one (minus 499999999) ∷ one (pos 1500000000)
    ∷ one (minus 1500000000) ∷ one (pos 2500000000) ∷ one (pos 999999999) ∷ one (minus 999999999)
    ∷ one (pos 9223372036854775807) ∷ one (minus 9223372036854775807) ∷ one (pos 3) ∷ one (pos 4000000000)
    ∷ one (pos 2000000000) ∷ one (pos 9223372036500000000) ∷ one (minus 9223372036500000000) ∷ []

abbrev pairs : List (List ℤ)
pairs = two (pos 0) (pos 0) ∷ two (pos 0) (pos 1000000000) ∷ two (pos 1000000000) (pos 0)
    ∷ two (pos 1000000000) (pos 1000000000) ∷ two (pos 1000000000) (pos 1000000001)
    ∷ two (pos 1000000001) (pos 1000000000) ∷ two (minus 1000000000) (minus 1000000000)
    ∷ two (minus 1000000001) (minus 1000000000) ∷ two (minus 1000000000) (minus 1000000001)
    ∷ two (minus 1000000000) (pos 1000000000) ∷ two (pos 1000000000) (minus 1000000000)
    ∷ two (pos 7000000000) (pos 3000000000) ∷ two (minus 7000000000) (pos 3000000000)
    ∷ two (pos 7000000000) (minus 3000000000) ∷ two (minus 7000000000) (minus 3000000000)
    ∷ two (pos 6000000000) (pos 3000000000) ∷ two (minus 6000000000) (pos 3000000000)
    ∷ two (pos 6000000000) (minus 3000000000) ∷ two (pos 9223372036854775807) (pos 1)
    ∷ two (minus 9223372036854775807) (minus 1) ∷ two (pos 9223372036854775807) (pos 9223372036854775807)
    ∷ two (minus 9223372036854775807) (minus 9223372036854775807)
    ∷ two (pos 9223372036854775807) (minus 9223372036854775807)
    ∷ two (minus 9223372036854775807) (pos 9223372036854775807) ∷ two (pos 1) (pos 1) ∷ two (minus 1) (pos 1)
    ∷ two (pos 1) (minus 1) ∷ two (pos 500000000) (pos 500000000) ∷ two (minus 500000000) (pos 500000000)
    ∷ two (pos 3) (pos 2000000000) ∷ two (minus 3) (pos 2000000000) ∷ two (pos 9223372036854775807) (pos 2000000000)
    ∷ two (pos 9223372036854775807) (pos 500000000) ∷ two (pos 1) (pos 9223372036854775807)
    ∷ two (pos 1000000000) (pos 3000000000) ∷ two (minus 1000000000) (pos 3000000000)
    ∷ two (pos 2000000000) (pos 3000000000) ∷ []

abbrev triples : List (List ℤ)
triples = three (pos 500000000) (pos 0) (pos 1000000000) ∷ three (pos 0) (pos 0) (pos 1000000000)
    ∷ three (pos 1000000000) (pos 0) (pos 1000000000) ∷ three (minus 1) (pos 0) (pos 1000000000)
    ∷ three (pos 1000000001) (pos 0) (pos 1000000000) ∷ three (pos 5000000000) (pos 9000000000) (pos 1000000000)
    ∷ three (pos 0) (pos 9000000000) (pos 1000000000) ∷ three (pos 10000000000) (pos 9000000000) (pos 1000000000)
    ∷ three (pos 1000000000) (pos 1000000000) (pos 1000000000)
    ∷ three (pos 9223372036854775807) (minus 9223372036854775807) (pos 9223372036854775807)
    ∷ three (minus 9223372036854775807) (minus 9223372036854775807) (pos 9223372036854775807)
    ∷ three (pos 0) (pos 1000000000) (pos 500000000) ∷ three (pos 0) (pos 1000000000) (pos 0)
    ∷ three (pos 0) (pos 1000000000) (pos 1000000000) ∷ three (pos 1000000000) (pos 0) (pos 250000000)
    ∷ three (minus 1000000000) (pos 1000000000) (pos 2000000000)
    ∷ three (pos 9223372036854775807) (minus 9223372036854775807) (minus 1000000000)
    ∷ three (pos 0) (pos 9223372036854775807) (pos 500000000) ∷ three (pos 0) (pos 1000000000) (pos 250000000)
    ∷ three (pos 1000000000) (pos 3000000000) (pos 2000000000)
    ∷ three (pos 1000000000) (pos 3000000000) (pos 1000000000)
    ∷ three (pos 1000000000) (pos 3000000000) (pos 3000000000)
    ∷ three (pos 1000000000) (pos 3000000000) (pos 2999999999)
    ∷ three (pos 3000000000) (pos 1000000000) (pos 2000000000)
    ∷ three (pos 3000000000) (pos 1000000000) (pos 2999999999)
    ∷ three (pos 1000000000) (pos 1000000000) (pos 999999999)
    ∷ three (minus 9223372036854775807) (pos 9223372036854775807) (pos 0) ∷ []

-- ---- of one float

neg_of_floats : on_floats op.Neg ones ≡ floats (pos 0 ∷ minus 1 ∷ pos 1 ∷ minus 1000000000 ∷ pos 1000000000
    ∷ minus 500000000 ∷ pos 500000000 ∷ minus 499999999 ∷ pos 499999999 ∷ minus 1500000000 ∷ pos 1500000000
    ∷ minus 2500000000 ∷ minus 999999999 ∷ pos 999999999 ∷ minus 9223372036854775807 ∷ pos 9223372036854775807
    ∷ minus 3 ∷ minus 4000000000 ∷ minus 2000000000 ∷ minus 9223372036500000000 ∷ pos 9223372036500000000 ∷ [])
unfolding apply int_wrap
neg_of_floats = refl

abs_of_floats : on_floats op.Abs ones ≡ floats (pos 0 ∷ pos 1 ∷ pos 1 ∷ pos 1000000000 ∷ pos 1000000000
    ∷ pos 500000000 ∷ pos 500000000 ∷ pos 499999999 ∷ pos 499999999 ∷ pos 1500000000 ∷ pos 1500000000 ∷ pos 2500000000
    ∷ pos 999999999 ∷ pos 999999999 ∷ pos 9223372036854775807 ∷ pos 9223372036854775807 ∷ pos 3 ∷ pos 4000000000
    ∷ pos 2000000000 ∷ pos 9223372036500000000 ∷ pos 9223372036500000000 ∷ [])
unfolding apply int_wrap
abs_of_floats = refl

sign_of_floats : on_floats op.Sign ones ≡ floats (pos 0 ∷ pos 1000000000 ∷ minus 1000000000 ∷ pos 1000000000
    ∷ minus 1000000000 ∷ pos 1000000000 ∷ minus 1000000000 ∷ pos 1000000000 ∷ minus 1000000000 ∷ pos 1000000000
    ∷ minus 1000000000 ∷ pos 1000000000 ∷ pos 1000000000 ∷ minus 1000000000 ∷ pos 1000000000 ∷ minus 1000000000
    ∷ pos 1000000000 ∷ pos 1000000000 ∷ pos 1000000000 ∷ pos 1000000000 ∷ minus 1000000000 ∷ [])
unfolding apply int_wrap
sign_of_floats = refl

floor_of_floats : on_floats op.Floor ones ≡ floats (pos 0 ∷ pos 0 ∷ minus 1000000000 ∷ pos 1000000000
    ∷ minus 1000000000 ∷ pos 0 ∷ minus 1000000000 ∷ pos 0 ∷ minus 1000000000 ∷ pos 1000000000 ∷ minus 2000000000
    ∷ pos 2000000000 ∷ pos 0 ∷ minus 1000000000 ∷ pos 9223372036000000000 ∷ minus 9223372036854775807 ∷ pos 0
    ∷ pos 4000000000 ∷ pos 2000000000 ∷ pos 9223372036000000000 ∷ minus 9223372036854775807 ∷ [])
unfolding apply int_wrap
floor_of_floats = refl

ceil_of_floats : on_floats op.Ceil ones ≡ floats (pos 0 ∷ pos 1000000000 ∷ pos 0 ∷ pos 1000000000 ∷ minus 1000000000
    ∷ pos 1000000000 ∷ pos 0 ∷ pos 1000000000 ∷ pos 0 ∷ pos 2000000000 ∷ minus 1000000000 ∷ pos 3000000000
    ∷ pos 1000000000 ∷ pos 0 ∷ pos 9223372036854775807 ∷ minus 9223372036000000000 ∷ pos 1000000000 ∷ pos 4000000000
    ∷ pos 2000000000 ∷ pos 9223372036854775807 ∷ minus 9223372036000000000 ∷ [])
unfolding apply int_wrap
ceil_of_floats = refl

round_of_floats : on_floats op.Round ones ≡ floats (pos 0 ∷ pos 0 ∷ pos 0 ∷ pos 1000000000 ∷ minus 1000000000
    ∷ pos 1000000000 ∷ minus 1000000000 ∷ pos 0 ∷ pos 0 ∷ pos 2000000000 ∷ minus 2000000000 ∷ pos 3000000000
    ∷ pos 1000000000 ∷ minus 1000000000 ∷ pos 9223372036854775807 ∷ minus 9223372036854775807 ∷ pos 0 ∷ pos 4000000000
    ∷ pos 2000000000 ∷ pos 9223372036854775807 ∷ minus 9223372036854775807 ∷ [])
unfolding apply int_wrap
round_of_floats = refl

trunc_of_floats : on_floats op.Trunc ones ≡ floats (pos 0 ∷ pos 0 ∷ pos 0 ∷ pos 1000000000 ∷ minus 1000000000 ∷ pos 0
    ∷ pos 0 ∷ pos 0 ∷ pos 0 ∷ pos 1000000000 ∷ minus 1000000000 ∷ pos 2000000000 ∷ pos 0 ∷ pos 0
    ∷ pos 9223372036000000000 ∷ minus 9223372036000000000 ∷ pos 0 ∷ pos 4000000000 ∷ pos 2000000000
    ∷ pos 9223372036000000000 ∷ minus 9223372036000000000 ∷ [])
unfolding apply int_wrap
trunc_of_floats = refl

sqrt_of_floats : on_floats op.Sqrt ones ≡ floats (pos 0 ∷ pos 31622 ∷ pos 0 ∷ pos 1000000000 ∷ pos 0 ∷ pos 707106781
    ∷ pos 0 ∷ pos 707106780 ∷ pos 0 ∷ pos 1224744871 ∷ pos 0 ∷ pos 1581138830 ∷ pos 999999999 ∷ pos 0
    ∷ pos 96038388349944 ∷ pos 0 ∷ pos 54772 ∷ pos 2000000000 ∷ pos 1414213562 ∷ pos 96038388348097 ∷ pos 0 ∷ [])
unfolding apply int_wrap root_by root_of
sqrt_of_floats = refl

inverse_sqrt_of_floats : on_floats op.InverseSqrt ones ≡ floats (pos 0 ∷ pos 31623553222440 ∷ pos 0 ∷ pos 1000000000
    ∷ pos 0 ∷ pos 1414213562 ∷ pos 0 ∷ pos 1414213564 ∷ pos 0 ∷ pos 816496581 ∷ pos 0 ∷ pos 632455532 ∷ pos 1000000001
    ∷ pos 0 ∷ pos 10412 ∷ pos 0 ∷ pos 18257503834075 ∷ pos 500000000 ∷ pos 707106781 ∷ pos 10412 ∷ pos 0 ∷ [])
unfolding apply int_wrap root_by root_of
inverse_sqrt_of_floats = refl

to_int_of_floats : tests_of_floats op.ToInt ones ≡ ints (pos 0 ∷ pos 0 ∷ pos 0 ∷ pos 1 ∷ minus 1 ∷ pos 0 ∷ pos 0
    ∷ pos 0 ∷ pos 0 ∷ pos 1 ∷ minus 1 ∷ pos 2 ∷ pos 0 ∷ pos 0 ∷ pos 2147483647 ∷ minus 2147483648 ∷ pos 0 ∷ pos 4
    ∷ pos 2 ∷ pos 2147483647 ∷ minus 2147483648 ∷ [])
unfolding apply int_wrap
to_int_of_floats = refl

not_of_floats : tests_of_floats op.Not ones ≡ ints (pos 1 ∷ pos 0 ∷ pos 0 ∷ pos 0 ∷ pos 0 ∷ pos 0 ∷ pos 0 ∷ pos 0
    ∷ pos 0 ∷ pos 0 ∷ pos 0 ∷ pos 0 ∷ pos 0 ∷ pos 0 ∷ pos 0 ∷ pos 0 ∷ pos 0 ∷ pos 0 ∷ pos 0 ∷ pos 0 ∷ pos 0 ∷ [])
unfolding apply int_wrap
not_of_floats = refl

-- ---- of two

add_of_floats : on_floats op.Add pairs ≡ floats (pos 0 ∷ pos 1000000000 ∷ pos 1000000000 ∷ pos 2000000000
    ∷ pos 2000000001 ∷ pos 2000000001 ∷ minus 2000000000 ∷ minus 2000000001 ∷ minus 2000000001 ∷ pos 0 ∷ pos 0
    ∷ pos 10000000000 ∷ minus 4000000000 ∷ pos 4000000000 ∷ minus 10000000000 ∷ pos 9000000000 ∷ minus 3000000000
    ∷ pos 3000000000 ∷ pos 9223372036854775807 ∷ minus 9223372036854775807 ∷ pos 9223372036854775807
    ∷ minus 9223372036854775807 ∷ pos 0 ∷ pos 0 ∷ pos 2 ∷ pos 0 ∷ pos 0 ∷ pos 1000000000 ∷ pos 0 ∷ pos 2000000003
    ∷ pos 1999999997 ∷ pos 9223372036854775807 ∷ pos 9223372036854775807 ∷ pos 9223372036854775807 ∷ pos 4000000000
    ∷ pos 2000000000 ∷ pos 5000000000 ∷ [])
unfolding apply int_wrap
add_of_floats = refl

sub_of_floats : on_floats op.Sub pairs ≡ floats (pos 0 ∷ minus 1000000000 ∷ pos 1000000000 ∷ pos 0 ∷ minus 1 ∷ pos 1
    ∷ pos 0 ∷ minus 1 ∷ pos 1 ∷ minus 2000000000 ∷ pos 2000000000 ∷ pos 4000000000 ∷ minus 10000000000
    ∷ pos 10000000000 ∷ minus 4000000000 ∷ pos 3000000000 ∷ minus 9000000000 ∷ pos 9000000000
    ∷ pos 9223372036854775806 ∷ minus 9223372036854775806 ∷ pos 0 ∷ pos 0 ∷ pos 9223372036854775807
    ∷ minus 9223372036854775807 ∷ pos 0 ∷ minus 2 ∷ pos 2 ∷ pos 0 ∷ minus 1000000000 ∷ minus 1999999997
    ∷ minus 2000000003 ∷ pos 9223372034854775807 ∷ pos 9223372036354775807 ∷ minus 9223372036854775806
    ∷ minus 2000000000 ∷ minus 4000000000 ∷ minus 1000000000 ∷ [])
unfolding apply int_wrap
sub_of_floats = refl

mul_of_floats : on_floats op.Mul pairs ≡ floats (pos 0 ∷ pos 0 ∷ pos 0 ∷ pos 1000000000 ∷ pos 1000000001
    ∷ pos 1000000001 ∷ pos 1000000000 ∷ pos 1000000001 ∷ pos 1000000001 ∷ minus 1000000000 ∷ minus 1000000000
    ∷ pos 21000000000 ∷ minus 21000000000 ∷ minus 21000000000 ∷ pos 21000000000 ∷ pos 18000000000 ∷ minus 18000000000
    ∷ minus 18000000000 ∷ pos 9223372036 ∷ pos 9223372036 ∷ pos 9223372036854775807 ∷ pos 9223372036854775807
    ∷ minus 9223372036854775807 ∷ minus 9223372036854775807 ∷ pos 0 ∷ pos 0 ∷ pos 0 ∷ pos 250000000 ∷ minus 250000000
    ∷ pos 6 ∷ minus 6 ∷ pos 9223372036854775807 ∷ pos 4611686018427387903 ∷ pos 9223372036 ∷ pos 3000000000
    ∷ minus 3000000000 ∷ pos 6000000000 ∷ [])
unfolding apply int_wrap
mul_of_floats = refl

div_of_floats : on_floats op.Div pairs ≡ floats (pos 0 ∷ pos 0 ∷ pos 0 ∷ pos 1000000000 ∷ pos 999999999
    ∷ pos 1000000001 ∷ pos 1000000000 ∷ pos 1000000001 ∷ pos 999999999 ∷ minus 1000000000 ∷ minus 1000000000
    ∷ pos 2333333333 ∷ minus 2333333333 ∷ minus 2333333333 ∷ pos 2333333333 ∷ pos 2000000000 ∷ minus 2000000000
    ∷ minus 2000000000 ∷ pos 9223372036854775807 ∷ pos 9223372036854775807 ∷ pos 1000000000 ∷ pos 1000000000
    ∷ minus 1000000000 ∷ minus 1000000000 ∷ pos 1000000000 ∷ minus 1000000000 ∷ minus 1000000000 ∷ pos 1000000000
    ∷ minus 1000000000 ∷ pos 1 ∷ minus 1 ∷ pos 4611686018427387903 ∷ pos 9223372036854775807 ∷ pos 0 ∷ pos 333333333
    ∷ minus 333333333 ∷ pos 666666666 ∷ [])
unfolding apply int_wrap
div_of_floats = refl

min_of_floats : on_floats op.Min pairs ≡ floats (pos 0 ∷ pos 0 ∷ pos 0 ∷ pos 1000000000 ∷ pos 1000000000
    ∷ pos 1000000000 ∷ minus 1000000000 ∷ minus 1000000001 ∷ minus 1000000001 ∷ minus 1000000000 ∷ minus 1000000000
    ∷ pos 3000000000 ∷ minus 7000000000 ∷ minus 3000000000 ∷ minus 7000000000 ∷ pos 3000000000 ∷ minus 6000000000
    ∷ minus 3000000000 ∷ pos 1 ∷ minus 9223372036854775807 ∷ pos 9223372036854775807 ∷ minus 9223372036854775807
    ∷ minus 9223372036854775807 ∷ minus 9223372036854775807 ∷ pos 1 ∷ minus 1 ∷ minus 1 ∷ pos 500000000
    ∷ minus 500000000 ∷ pos 3 ∷ minus 3 ∷ pos 2000000000 ∷ pos 500000000 ∷ pos 1 ∷ pos 1000000000 ∷ minus 1000000000
    ∷ pos 2000000000 ∷ [])
unfolding apply int_wrap
min_of_floats = refl

max_of_floats : on_floats op.Max pairs ≡ floats (pos 0 ∷ pos 1000000000 ∷ pos 1000000000 ∷ pos 1000000000
    ∷ pos 1000000001 ∷ pos 1000000001 ∷ minus 1000000000 ∷ minus 1000000000 ∷ minus 1000000000 ∷ pos 1000000000
    ∷ pos 1000000000 ∷ pos 7000000000 ∷ pos 3000000000 ∷ pos 7000000000 ∷ minus 3000000000 ∷ pos 6000000000
    ∷ pos 3000000000 ∷ pos 6000000000 ∷ pos 9223372036854775807 ∷ minus 1 ∷ pos 9223372036854775807
    ∷ minus 9223372036854775807 ∷ pos 9223372036854775807 ∷ pos 9223372036854775807 ∷ pos 1 ∷ pos 1 ∷ pos 1
    ∷ pos 500000000 ∷ pos 500000000 ∷ pos 2000000000 ∷ pos 2000000000 ∷ pos 9223372036854775807
    ∷ pos 9223372036854775807 ∷ pos 9223372036854775807 ∷ pos 3000000000 ∷ pos 3000000000 ∷ pos 3000000000 ∷ [])
unfolding apply int_wrap
max_of_floats = refl

fmod_of_floats : on_floats op.Fmod pairs ≡ floats (pos 0 ∷ pos 0 ∷ pos 0 ∷ pos 0 ∷ pos 1000000000 ∷ pos 1 ∷ pos 0
    ∷ minus 1 ∷ minus 1000000000 ∷ pos 0 ∷ pos 0 ∷ pos 1000000000 ∷ minus 1000000000 ∷ pos 1000000000
    ∷ minus 1000000000 ∷ pos 0 ∷ pos 0 ∷ pos 0 ∷ pos 0 ∷ pos 0 ∷ pos 0 ∷ pos 0 ∷ pos 0 ∷ pos 0 ∷ pos 0 ∷ pos 0 ∷ pos 0
    ∷ pos 0 ∷ pos 0 ∷ pos 3 ∷ minus 3 ∷ pos 854775807 ∷ pos 354775807 ∷ pos 1 ∷ pos 1000000000 ∷ minus 1000000000
    ∷ pos 2000000000 ∷ [])
unfolding apply int_wrap
fmod_of_floats = refl

mod_of_floats : on_floats op.Mod pairs ≡ floats (pos 0 ∷ pos 0 ∷ pos 0 ∷ pos 0 ∷ pos 1000000000 ∷ pos 1 ∷ pos 0
    ∷ minus 1 ∷ minus 1000000000 ∷ pos 0 ∷ pos 0 ∷ pos 1000000000 ∷ pos 2000000000 ∷ minus 2000000000
    ∷ minus 1000000000 ∷ pos 0 ∷ pos 0 ∷ pos 0 ∷ pos 0 ∷ pos 0 ∷ pos 0 ∷ pos 0 ∷ pos 0 ∷ pos 0 ∷ pos 0 ∷ pos 0 ∷ pos 0
    ∷ pos 0 ∷ pos 0 ∷ pos 3 ∷ pos 1999999997 ∷ pos 854775807 ∷ pos 354775807 ∷ pos 1 ∷ pos 1000000000 ∷ pos 2000000000
    ∷ pos 2000000000 ∷ [])
unfolding apply int_wrap
mod_of_floats = refl

step_of_floats : on_floats op.Step pairs ≡ floats (pos 1000000000 ∷ pos 1000000000 ∷ pos 0 ∷ pos 1000000000
    ∷ pos 1000000000 ∷ pos 0 ∷ pos 1000000000 ∷ pos 1000000000 ∷ pos 0 ∷ pos 1000000000 ∷ pos 0 ∷ pos 0
    ∷ pos 1000000000 ∷ pos 0 ∷ pos 1000000000 ∷ pos 0 ∷ pos 1000000000 ∷ pos 0 ∷ pos 0 ∷ pos 1000000000
    ∷ pos 1000000000 ∷ pos 1000000000 ∷ pos 0 ∷ pos 1000000000 ∷ pos 1000000000 ∷ pos 1000000000 ∷ pos 0
    ∷ pos 1000000000 ∷ pos 1000000000 ∷ pos 1000000000 ∷ pos 1000000000 ∷ pos 0 ∷ pos 0 ∷ pos 1000000000
    ∷ pos 1000000000 ∷ pos 1000000000 ∷ pos 1000000000 ∷ [])
unfolding apply int_wrap
step_of_floats = refl

eq_of_floats : tests_of_floats op.Eq pairs ≡ ints (pos 1 ∷ pos 0 ∷ pos 0 ∷ pos 1 ∷ pos 0 ∷ pos 0 ∷ pos 1 ∷ pos 0
    ∷ pos 0 ∷ pos 0 ∷ pos 0 ∷ pos 0 ∷ pos 0 ∷ pos 0 ∷ pos 0 ∷ pos 0 ∷ pos 0 ∷ pos 0 ∷ pos 0 ∷ pos 0 ∷ pos 1 ∷ pos 1
    ∷ pos 0 ∷ pos 0 ∷ pos 1 ∷ pos 0 ∷ pos 0 ∷ pos 1 ∷ pos 0 ∷ pos 0 ∷ pos 0 ∷ pos 0 ∷ pos 0 ∷ pos 0 ∷ pos 0 ∷ pos 0
    ∷ pos 0 ∷ [])
unfolding apply int_wrap
eq_of_floats = refl

neq_of_floats : tests_of_floats op.Neq pairs ≡ ints (pos 0 ∷ pos 1 ∷ pos 1 ∷ pos 0 ∷ pos 1 ∷ pos 1 ∷ pos 0 ∷ pos 1
    ∷ pos 1 ∷ pos 1 ∷ pos 1 ∷ pos 1 ∷ pos 1 ∷ pos 1 ∷ pos 1 ∷ pos 1 ∷ pos 1 ∷ pos 1 ∷ pos 1 ∷ pos 1 ∷ pos 0 ∷ pos 0
    ∷ pos 1 ∷ pos 1 ∷ pos 0 ∷ pos 1 ∷ pos 1 ∷ pos 0 ∷ pos 1 ∷ pos 1 ∷ pos 1 ∷ pos 1 ∷ pos 1 ∷ pos 1 ∷ pos 1 ∷ pos 1
    ∷ pos 1 ∷ [])
unfolding apply int_wrap
neq_of_floats = refl

lt_of_floats : tests_of_floats op.Lt pairs ≡ ints (pos 0 ∷ pos 1 ∷ pos 0 ∷ pos 0 ∷ pos 1 ∷ pos 0 ∷ pos 0 ∷ pos 1
    ∷ pos 0 ∷ pos 1 ∷ pos 0 ∷ pos 0 ∷ pos 1 ∷ pos 0 ∷ pos 1 ∷ pos 0 ∷ pos 1 ∷ pos 0 ∷ pos 0 ∷ pos 1 ∷ pos 0 ∷ pos 0
    ∷ pos 0 ∷ pos 1 ∷ pos 0 ∷ pos 1 ∷ pos 0 ∷ pos 0 ∷ pos 1 ∷ pos 1 ∷ pos 1 ∷ pos 0 ∷ pos 0 ∷ pos 1 ∷ pos 1 ∷ pos 1
    ∷ pos 1 ∷ [])
unfolding apply int_wrap
lt_of_floats = refl

gt_of_floats : tests_of_floats op.Gt pairs ≡ ints (pos 0 ∷ pos 0 ∷ pos 1 ∷ pos 0 ∷ pos 0 ∷ pos 1 ∷ pos 0 ∷ pos 0
    ∷ pos 1 ∷ pos 0 ∷ pos 1 ∷ pos 1 ∷ pos 0 ∷ pos 1 ∷ pos 0 ∷ pos 1 ∷ pos 0 ∷ pos 1 ∷ pos 1 ∷ pos 0 ∷ pos 0 ∷ pos 0
    ∷ pos 1 ∷ pos 0 ∷ pos 0 ∷ pos 0 ∷ pos 1 ∷ pos 0 ∷ pos 0 ∷ pos 0 ∷ pos 0 ∷ pos 1 ∷ pos 1 ∷ pos 0 ∷ pos 0 ∷ pos 0
    ∷ pos 0 ∷ [])
unfolding apply int_wrap
gt_of_floats = refl

le_of_floats : tests_of_floats op.Le pairs ≡ ints (pos 1 ∷ pos 1 ∷ pos 0 ∷ pos 1 ∷ pos 1 ∷ pos 0 ∷ pos 1 ∷ pos 1
    ∷ pos 0 ∷ pos 1 ∷ pos 0 ∷ pos 0 ∷ pos 1 ∷ pos 0 ∷ pos 1 ∷ pos 0 ∷ pos 1 ∷ pos 0 ∷ pos 0 ∷ pos 1 ∷ pos 1 ∷ pos 1
    ∷ pos 0 ∷ pos 1 ∷ pos 1 ∷ pos 1 ∷ pos 0 ∷ pos 1 ∷ pos 1 ∷ pos 1 ∷ pos 1 ∷ pos 0 ∷ pos 0 ∷ pos 1 ∷ pos 1 ∷ pos 1
    ∷ pos 1 ∷ [])
unfolding apply int_wrap
le_of_floats = refl

ge_of_floats : tests_of_floats op.Ge pairs ≡ ints (pos 1 ∷ pos 0 ∷ pos 1 ∷ pos 1 ∷ pos 0 ∷ pos 1 ∷ pos 1 ∷ pos 0
    ∷ pos 1 ∷ pos 0 ∷ pos 1 ∷ pos 1 ∷ pos 0 ∷ pos 1 ∷ pos 0 ∷ pos 1 ∷ pos 0 ∷ pos 1 ∷ pos 1 ∷ pos 0 ∷ pos 1 ∷ pos 1
    ∷ pos 1 ∷ pos 0 ∷ pos 1 ∷ pos 0 ∷ pos 1 ∷ pos 1 ∷ pos 0 ∷ pos 0 ∷ pos 0 ∷ pos 1 ∷ pos 1 ∷ pos 0 ∷ pos 0 ∷ pos 0
    ∷ pos 0 ∷ [])
unfolding apply int_wrap
ge_of_floats = refl

-- ---- of three

clamp_of_floats : on_floats op.Clamp triples ≡ floats (pos 500000000 ∷ pos 0 ∷ pos 1000000000 ∷ pos 0 ∷ pos 1000000000
    ∷ pos 1000000000 ∷ pos 1000000000 ∷ pos 1000000000 ∷ pos 1000000000 ∷ pos 9223372036854775807
    ∷ minus 9223372036854775807 ∷ pos 500000000 ∷ pos 0 ∷ pos 1000000000 ∷ pos 250000000 ∷ pos 1000000000
    ∷ minus 1000000000 ∷ pos 500000000 ∷ pos 250000000 ∷ pos 2000000000 ∷ pos 1000000000 ∷ pos 3000000000
    ∷ pos 2999999999 ∷ pos 2000000000 ∷ pos 2999999999 ∷ pos 999999999 ∷ pos 0 ∷ [])
unfolding apply int_wrap
clamp_of_floats = refl

mix_of_floats : on_floats op.Mix triples ≡ floats (pos 0 ∷ pos 0 ∷ pos 0 ∷ pos 0 ∷ pos 0 ∷ pos 9000000000
    ∷ pos 9000000000 ∷ pos 9000000000 ∷ pos 1000000000 ∷ minus 9223372036854775807 ∷ pos 0 ∷ pos 500000000 ∷ pos 0
    ∷ pos 1000000000 ∷ pos 750000000 ∷ pos 3000000000 ∷ pos 9223372036854775807 ∷ pos 4611686018427387903
    ∷ pos 250000000 ∷ pos 5000000000 ∷ pos 3000000000 ∷ pos 7000000000 ∷ pos 6999999998 ∷ minus 1000000000
    ∷ minus 2999999998 ∷ pos 1000000000 ∷ minus 9223372036854775807 ∷ [])
unfolding apply int_wrap
mix_of_floats = refl

smooth_step_of_floats : on_floats op.SmoothStep triples ≡ floats (pos 1000000000 ∷ pos 1000000000 ∷ pos 1000000000
    ∷ pos 1000000000 ∷ pos 0 ∷ pos 0 ∷ pos 34293550 ∷ pos 0 ∷ pos 1000000000 ∷ pos 1000000000 ∷ pos 1000000000
    ∷ pos 500000000 ∷ pos 0 ∷ pos 1000000000 ∷ pos 0 ∷ pos 1000000000 ∷ pos 0 ∷ pos 0 ∷ pos 156250000 ∷ pos 500000000
    ∷ pos 0 ∷ pos 1000000000 ∷ pos 999999999 ∷ pos 0 ∷ pos 0 ∷ pos 0 ∷ pos 1000000000 ∷ [])
unfolding apply int_wrap
smooth_step_of_floats = refl
