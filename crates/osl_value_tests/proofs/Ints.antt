-- Operations on ints, at zero, at equality, at both signs and at both ends of 32 bits.
use Rattle.std.proofs.Common.{◌≡◌, ℕ, refl}
use Rattle.std.specs.Int.{int_wrap}
use Rattle.std.specs.Prelude.{ℤ, pos, List, [], ◌∷◌}
use Rattle.osl_value.specs.declared.op_name.OpName.TheVariants as op
use Rattle.osl_value.specs.Apply.{apply}
use Rattle.osl_value_tests.proofs.Words.{minus, one, two, three, on_ints, ints}

abbrev ones : List (List ℤ)
ones = one (pos 0) ∷ one (pos 1) ∷ one (minus 1) ∷ one (pos 2147483647) ∷ one (minus 2147483648) ∷ one (pos 5)
    ∷ one (minus 5) ∷ one (pos 65535) ∷ []

abbrev pairs : List (List ℤ)
pairs = two (pos 0) (pos 0) ∷ two (pos 0) (pos 1) ∷ two (pos 1) (pos 0) ∷ two (pos 5) (pos 5) ∷ two (pos 5) (pos 6)
    ∷ two (pos 6) (pos 5) ∷ two (minus 5) (minus 5) ∷ two (minus 6) (minus 5) ∷ two (minus 5) (minus 6)
    ∷ two (minus 5) (pos 5) ∷ two (pos 5) (minus 5) ∷ two (pos 7) (pos 3) ∷ two (minus 7) (pos 3)
    ∷ two (pos 7) (minus 3) ∷ two (minus 7) (minus 3) ∷ two (pos 2147483647) (pos 1)
    ∷ two (minus 2147483648) (minus 1) ∷ two (minus 2147483648) (pos 1) ∷ two (pos 2147483647) (pos 2147483647)
    ∷ two (minus 2147483648) (minus 2147483648) ∷ two (pos 2147483647) (minus 2147483648)
    ∷ two (minus 2147483648) (pos 2147483647) ∷ two (pos 1) (pos 31) ∷ two (pos 1) (pos 32) ∷ two (minus 1) (pos 33)
    ∷ two (pos 12) (pos 10) ∷ two (minus 8) (pos 1) ∷ two (minus 8) (minus 1) ∷ two (pos 65536) (pos 65536)
    ∷ two (pos 0) (minus 2147483648) ∷ []

abbrev triples : List (List ℤ)
triples = three (pos 5) (pos 1) (pos 9) ∷ three (pos 0) (pos 1) (pos 9) ∷ three (pos 10) (pos 1) (pos 9)
    ∷ three (pos 1) (pos 1) (pos 9) ∷ three (pos 9) (pos 1) (pos 9) ∷ three (pos 5) (pos 9) (pos 1)
    ∷ three (pos 0) (pos 9) (pos 1) ∷ three (pos 10) (pos 9) (pos 1) ∷ three (minus 5) (minus 9) (minus 1)
    ∷ three (pos 5) (pos 5) (pos 5) ∷ three (minus 2147483648) (minus 2147483648) (pos 2147483647)
    ∷ three (pos 2147483647) (minus 2147483648) (pos 2147483647) ∷ three (pos 0) (minus 2147483648) (minus 1) ∷ []

-- ---- of one int

neg_of_ints : on_ints op.Neg ones ≡ ints (pos 0 ∷ minus 1 ∷ pos 1 ∷ minus 2147483647 ∷ minus 2147483648 ∷ minus 5
    ∷ pos 5 ∷ minus 65535 ∷ [])
unfolding apply int_wrap
neg_of_ints = refl

compl_of_ints : on_ints op.Compl ones ≡ ints (minus 1 ∷ minus 2 ∷ pos 0 ∷ minus 2147483648 ∷ pos 2147483647 ∷ minus 6
    ∷ pos 4 ∷ minus 65536 ∷ [])
unfolding apply int_wrap
compl_of_ints = refl

abs_of_ints : on_ints op.Abs ones ≡ ints (pos 0 ∷ pos 1 ∷ pos 1 ∷ pos 2147483647 ∷ minus 2147483648 ∷ pos 5 ∷ pos 5
    ∷ pos 65535 ∷ [])
unfolding apply int_wrap
abs_of_ints = refl

not_of_ints : on_ints op.Not ones ≡ ints (pos 1 ∷ pos 0 ∷ pos 0 ∷ pos 0 ∷ pos 0 ∷ pos 0 ∷ pos 0 ∷ pos 0 ∷ [])
unfolding apply int_wrap
not_of_ints = refl

-- ---- of two

add_of_ints : on_ints op.Add pairs ≡ ints (pos 0 ∷ pos 1 ∷ pos 1 ∷ pos 10 ∷ pos 11 ∷ pos 11 ∷ minus 10 ∷ minus 11
    ∷ minus 11 ∷ pos 0 ∷ pos 0 ∷ pos 10 ∷ minus 4 ∷ pos 4 ∷ minus 10 ∷ minus 2147483648 ∷ pos 2147483647
    ∷ minus 2147483647 ∷ minus 2 ∷ pos 0 ∷ minus 1 ∷ minus 1 ∷ pos 32 ∷ pos 33 ∷ pos 32 ∷ pos 22 ∷ minus 7 ∷ minus 9
    ∷ pos 131072 ∷ minus 2147483648 ∷ [])
unfolding apply int_wrap
add_of_ints = refl

sub_of_ints : on_ints op.Sub pairs ≡ ints (pos 0 ∷ minus 1 ∷ pos 1 ∷ pos 0 ∷ minus 1 ∷ pos 1 ∷ pos 0 ∷ minus 1 ∷ pos 1
    ∷ minus 10 ∷ pos 10 ∷ pos 4 ∷ minus 10 ∷ pos 10 ∷ minus 4 ∷ pos 2147483646 ∷ minus 2147483647 ∷ pos 2147483647
    ∷ pos 0 ∷ pos 0 ∷ minus 1 ∷ pos 1 ∷ minus 30 ∷ minus 31 ∷ minus 34 ∷ pos 2 ∷ minus 9 ∷ minus 7 ∷ pos 0
    ∷ minus 2147483648 ∷ [])
unfolding apply int_wrap
sub_of_ints = refl

mul_of_ints : on_ints op.Mul pairs ≡ ints (pos 0 ∷ pos 0 ∷ pos 0 ∷ pos 25 ∷ pos 30 ∷ pos 30 ∷ pos 25 ∷ pos 30 ∷ pos 30
    ∷ minus 25 ∷ minus 25 ∷ pos 21 ∷ minus 21 ∷ minus 21 ∷ pos 21 ∷ pos 2147483647 ∷ minus 2147483648
    ∷ minus 2147483648 ∷ pos 1 ∷ pos 0 ∷ minus 2147483648 ∷ minus 2147483648 ∷ pos 31 ∷ pos 32 ∷ minus 33 ∷ pos 120
    ∷ minus 8 ∷ pos 8 ∷ pos 0 ∷ pos 0 ∷ [])
unfolding apply int_wrap
mul_of_ints = refl

div_of_ints : on_ints op.Div pairs ≡ ints (pos 0 ∷ pos 0 ∷ pos 0 ∷ pos 1 ∷ pos 0 ∷ pos 1 ∷ pos 1 ∷ pos 1 ∷ pos 0
    ∷ minus 1 ∷ minus 1 ∷ pos 2 ∷ minus 2 ∷ minus 2 ∷ pos 2 ∷ pos 2147483647 ∷ minus 2147483648 ∷ minus 2147483648
    ∷ pos 1 ∷ pos 1 ∷ pos 0 ∷ minus 1 ∷ pos 0 ∷ pos 0 ∷ pos 0 ∷ pos 1 ∷ minus 8 ∷ pos 8 ∷ pos 1 ∷ pos 0 ∷ [])
unfolding apply int_wrap
div_of_ints = refl

i_rem_of_ints : on_ints op.IRem pairs ≡ ints (pos 0 ∷ pos 0 ∷ pos 0 ∷ pos 0 ∷ pos 5 ∷ pos 1 ∷ pos 0 ∷ minus 1
    ∷ minus 5 ∷ pos 0 ∷ pos 0 ∷ pos 1 ∷ minus 1 ∷ pos 1 ∷ minus 1 ∷ pos 0 ∷ pos 0 ∷ pos 0 ∷ pos 0 ∷ pos 0
    ∷ pos 2147483647 ∷ minus 1 ∷ pos 1 ∷ pos 1 ∷ minus 1 ∷ pos 2 ∷ pos 0 ∷ pos 0 ∷ pos 0 ∷ pos 0 ∷ [])
unfolding apply int_wrap
i_rem_of_ints = refl

bit_and_of_ints : on_ints op.BitAnd pairs ≡ ints (pos 0 ∷ pos 0 ∷ pos 0 ∷ pos 5 ∷ pos 4 ∷ pos 4 ∷ minus 5 ∷ minus 6
    ∷ minus 6 ∷ pos 1 ∷ pos 1 ∷ pos 3 ∷ pos 1 ∷ pos 5 ∷ minus 7 ∷ pos 1 ∷ minus 2147483648 ∷ pos 0 ∷ pos 2147483647
    ∷ minus 2147483648 ∷ pos 0 ∷ pos 0 ∷ pos 1 ∷ pos 0 ∷ pos 33 ∷ pos 8 ∷ pos 0 ∷ minus 8 ∷ pos 65536 ∷ pos 0 ∷ [])
unfolding apply int_wrap
bit_and_of_ints = refl

bit_or_of_ints : on_ints op.BitOr pairs ≡ ints (pos 0 ∷ pos 1 ∷ pos 1 ∷ pos 5 ∷ pos 7 ∷ pos 7 ∷ minus 5 ∷ minus 5
    ∷ minus 5 ∷ minus 1 ∷ minus 1 ∷ pos 7 ∷ minus 5 ∷ minus 1 ∷ minus 3 ∷ pos 2147483647 ∷ minus 1 ∷ minus 2147483647
    ∷ pos 2147483647 ∷ minus 2147483648 ∷ minus 1 ∷ minus 1 ∷ pos 31 ∷ pos 33 ∷ minus 1 ∷ pos 14 ∷ minus 7 ∷ minus 1
    ∷ pos 65536 ∷ minus 2147483648 ∷ [])
unfolding apply int_wrap
bit_or_of_ints = refl

xor_of_ints : on_ints op.Xor pairs ≡ ints (pos 0 ∷ pos 1 ∷ pos 1 ∷ pos 0 ∷ pos 3 ∷ pos 3 ∷ pos 0 ∷ pos 1 ∷ pos 1
    ∷ minus 2 ∷ minus 2 ∷ pos 4 ∷ minus 6 ∷ minus 6 ∷ pos 4 ∷ pos 2147483646 ∷ pos 2147483647 ∷ minus 2147483647
    ∷ pos 0 ∷ pos 0 ∷ minus 1 ∷ minus 1 ∷ pos 30 ∷ pos 33 ∷ minus 34 ∷ pos 6 ∷ minus 7 ∷ pos 7 ∷ pos 0
    ∷ minus 2147483648 ∷ [])
unfolding apply int_wrap
xor_of_ints = refl

shl_of_ints : on_ints op.Shl pairs ≡ ints (pos 0 ∷ pos 0 ∷ pos 1 ∷ pos 160 ∷ pos 320 ∷ pos 192 ∷ minus 671088640
    ∷ minus 805306368 ∷ minus 335544320 ∷ minus 160 ∷ pos 671088640 ∷ pos 56 ∷ minus 56 ∷ minus 536870912
    ∷ pos 536870912 ∷ minus 2 ∷ pos 0 ∷ pos 0 ∷ minus 2147483648 ∷ minus 2147483648 ∷ pos 2147483647 ∷ pos 0
    ∷ minus 2147483648 ∷ pos 1 ∷ minus 2 ∷ pos 12288 ∷ minus 16 ∷ pos 0 ∷ pos 65536 ∷ pos 0 ∷ [])
unfolding apply int_wrap
shl_of_ints = refl

shr_of_ints : on_ints op.Shr pairs ≡ ints (pos 0 ∷ pos 0 ∷ pos 1 ∷ pos 0 ∷ pos 0 ∷ pos 0 ∷ minus 1 ∷ minus 1 ∷ minus 1
    ∷ minus 1 ∷ pos 0 ∷ pos 0 ∷ minus 1 ∷ pos 0 ∷ minus 1 ∷ pos 1073741823 ∷ minus 1 ∷ minus 1073741824 ∷ pos 0
    ∷ minus 2147483648 ∷ pos 2147483647 ∷ minus 1 ∷ pos 0 ∷ pos 1 ∷ minus 1 ∷ pos 0 ∷ minus 4 ∷ minus 1 ∷ pos 65536
    ∷ pos 0 ∷ [])
unfolding apply int_wrap
shr_of_ints = refl

min_of_ints : on_ints op.Min pairs ≡ ints (pos 0 ∷ pos 0 ∷ pos 0 ∷ pos 5 ∷ pos 5 ∷ pos 5 ∷ minus 5 ∷ minus 6 ∷ minus 6
    ∷ minus 5 ∷ minus 5 ∷ pos 3 ∷ minus 7 ∷ minus 3 ∷ minus 7 ∷ pos 1 ∷ minus 2147483648 ∷ minus 2147483648
    ∷ pos 2147483647 ∷ minus 2147483648 ∷ minus 2147483648 ∷ minus 2147483648 ∷ pos 1 ∷ pos 1 ∷ minus 1 ∷ pos 10
    ∷ minus 8 ∷ minus 8 ∷ pos 65536 ∷ minus 2147483648 ∷ [])
unfolding apply int_wrap
min_of_ints = refl

max_of_ints : on_ints op.Max pairs ≡ ints (pos 0 ∷ pos 1 ∷ pos 1 ∷ pos 5 ∷ pos 6 ∷ pos 6 ∷ minus 5 ∷ minus 5 ∷ minus 5
    ∷ pos 5 ∷ pos 5 ∷ pos 7 ∷ pos 3 ∷ pos 7 ∷ minus 3 ∷ pos 2147483647 ∷ minus 1 ∷ pos 1 ∷ pos 2147483647
    ∷ minus 2147483648 ∷ pos 2147483647 ∷ pos 2147483647 ∷ pos 31 ∷ pos 32 ∷ pos 33 ∷ pos 12 ∷ pos 1 ∷ minus 1
    ∷ pos 65536 ∷ pos 0 ∷ [])
unfolding apply int_wrap
max_of_ints = refl

eq_of_ints : on_ints op.Eq pairs ≡ ints (pos 1 ∷ pos 0 ∷ pos 0 ∷ pos 1 ∷ pos 0 ∷ pos 0 ∷ pos 1 ∷ pos 0 ∷ pos 0 ∷ pos 0
    ∷ pos 0 ∷ pos 0 ∷ pos 0 ∷ pos 0 ∷ pos 0 ∷ pos 0 ∷ pos 0 ∷ pos 0 ∷ pos 1 ∷ pos 1 ∷ pos 0 ∷ pos 0 ∷ pos 0 ∷ pos 0
    ∷ pos 0 ∷ pos 0 ∷ pos 0 ∷ pos 0 ∷ pos 1 ∷ pos 0 ∷ [])
unfolding apply int_wrap
eq_of_ints = refl

neq_of_ints : on_ints op.Neq pairs ≡ ints (pos 0 ∷ pos 1 ∷ pos 1 ∷ pos 0 ∷ pos 1 ∷ pos 1 ∷ pos 0 ∷ pos 1 ∷ pos 1
    ∷ pos 1 ∷ pos 1 ∷ pos 1 ∷ pos 1 ∷ pos 1 ∷ pos 1 ∷ pos 1 ∷ pos 1 ∷ pos 1 ∷ pos 0 ∷ pos 0 ∷ pos 1 ∷ pos 1 ∷ pos 1
    ∷ pos 1 ∷ pos 1 ∷ pos 1 ∷ pos 1 ∷ pos 1 ∷ pos 0 ∷ pos 1 ∷ [])
unfolding apply int_wrap
neq_of_ints = refl

lt_of_ints : on_ints op.Lt pairs ≡ ints (pos 0 ∷ pos 1 ∷ pos 0 ∷ pos 0 ∷ pos 1 ∷ pos 0 ∷ pos 0 ∷ pos 1 ∷ pos 0 ∷ pos 1
    ∷ pos 0 ∷ pos 0 ∷ pos 1 ∷ pos 0 ∷ pos 1 ∷ pos 0 ∷ pos 1 ∷ pos 1 ∷ pos 0 ∷ pos 0 ∷ pos 0 ∷ pos 1 ∷ pos 1 ∷ pos 1
    ∷ pos 1 ∷ pos 0 ∷ pos 1 ∷ pos 1 ∷ pos 0 ∷ pos 0 ∷ [])
unfolding apply int_wrap
lt_of_ints = refl

gt_of_ints : on_ints op.Gt pairs ≡ ints (pos 0 ∷ pos 0 ∷ pos 1 ∷ pos 0 ∷ pos 0 ∷ pos 1 ∷ pos 0 ∷ pos 0 ∷ pos 1 ∷ pos 0
    ∷ pos 1 ∷ pos 1 ∷ pos 0 ∷ pos 1 ∷ pos 0 ∷ pos 1 ∷ pos 0 ∷ pos 0 ∷ pos 0 ∷ pos 0 ∷ pos 1 ∷ pos 0 ∷ pos 0 ∷ pos 0
    ∷ pos 0 ∷ pos 1 ∷ pos 0 ∷ pos 0 ∷ pos 0 ∷ pos 1 ∷ [])
unfolding apply int_wrap
gt_of_ints = refl

le_of_ints : on_ints op.Le pairs ≡ ints (pos 1 ∷ pos 1 ∷ pos 0 ∷ pos 1 ∷ pos 1 ∷ pos 0 ∷ pos 1 ∷ pos 1 ∷ pos 0 ∷ pos 1
    ∷ pos 0 ∷ pos 0 ∷ pos 1 ∷ pos 0 ∷ pos 1 ∷ pos 0 ∷ pos 1 ∷ pos 1 ∷ pos 1 ∷ pos 1 ∷ pos 0 ∷ pos 1 ∷ pos 1 ∷ pos 1
    ∷ pos 1 ∷ pos 0 ∷ pos 1 ∷ pos 1 ∷ pos 1 ∷ pos 0 ∷ [])
unfolding apply int_wrap
le_of_ints = refl

ge_of_ints : on_ints op.Ge pairs ≡ ints (pos 1 ∷ pos 0 ∷ pos 1 ∷ pos 1 ∷ pos 0 ∷ pos 1 ∷ pos 1 ∷ pos 0 ∷ pos 1 ∷ pos 0
    ∷ pos 1 ∷ pos 1 ∷ pos 0 ∷ pos 1 ∷ pos 0 ∷ pos 1 ∷ pos 0 ∷ pos 0 ∷ pos 1 ∷ pos 1 ∷ pos 1 ∷ pos 0 ∷ pos 0 ∷ pos 0
    ∷ pos 0 ∷ pos 1 ∷ pos 0 ∷ pos 0 ∷ pos 1 ∷ pos 1 ∷ [])
unfolding apply int_wrap
ge_of_ints = refl

-- ---- of three

clamp_of_ints : on_ints op.Clamp triples ≡ ints (pos 5 ∷ pos 1 ∷ pos 9 ∷ pos 1 ∷ pos 9 ∷ pos 1 ∷ pos 1 ∷ pos 1
    ∷ minus 5 ∷ pos 5 ∷ minus 2147483648 ∷ pos 2147483647 ∷ minus 1 ∷ [])
unfolding apply int_wrap
clamp_of_ints = refl
