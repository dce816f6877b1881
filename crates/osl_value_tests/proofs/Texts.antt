-- Operations on strings: bytes above 127, prefixes, starts below 0 and past the end, and the cut at 512 bytes.
use Rattle.std.proofs.Common.{◌≡◌, ℕ, refl}
use Rattle.std.specs.Int.{int_wrap}
use Rattle.std.specs.Prelude.{ℤ, pos, List, [], ◌∷◌, replicate, ◌++◌}
use Rattle.osl_value.specs.declared.op_name.OpName.TheVariants as op
use Rattle.osl_value.specs.Apply.{apply}
use Rattle.osl_value_tests.proofs.Words.{minus, int, string, value, a_text, an_int}

eq_0 : apply op.Eq int (a_text ([]) ∷ a_text ([]) ∷ []) ≡ an_int (pos 1)
unfolding apply int_wrap
eq_0 = refl

neq_0 : apply op.Neq int (a_text ([]) ∷ a_text ([]) ∷ []) ≡ an_int (pos 0)
unfolding apply int_wrap
neq_0 = refl

starts_with_0 : apply op.StartsWith int (a_text ([]) ∷ a_text ([]) ∷ []) ≡ an_int (pos 1)
unfolding apply int_wrap
starts_with_0 = refl

ends_with_0 : apply op.EndsWith int (a_text ([]) ∷ a_text ([]) ∷ []) ≡ an_int (pos 1)
unfolding apply int_wrap
ends_with_0 = refl

concat_0 : apply op.Concat string (a_text ([]) ∷ a_text ([]) ∷ []) ≡ a_text ([])
unfolding apply int_wrap
concat_0 = refl

strlen_0 : apply op.StrLen int (a_text ([]) ∷ []) ≡ an_int (pos 0)
unfolding apply int_wrap
strlen_0 = refl

eq_1 : apply op.Eq int (a_text (97 ∷ 98 ∷ []) ∷ a_text (97 ∷ 98 ∷ []) ∷ []) ≡ an_int (pos 1)
unfolding apply int_wrap
eq_1 = refl

neq_1 : apply op.Neq int (a_text (97 ∷ 98 ∷ []) ∷ a_text (97 ∷ 98 ∷ []) ∷ []) ≡ an_int (pos 0)
unfolding apply int_wrap
neq_1 = refl

starts_with_1 : apply op.StartsWith int (a_text (97 ∷ 98 ∷ []) ∷ a_text (97 ∷ 98 ∷ []) ∷ []) ≡ an_int (pos 1)
unfolding apply int_wrap
starts_with_1 = refl

ends_with_1 : apply op.EndsWith int (a_text (97 ∷ 98 ∷ []) ∷ a_text (97 ∷ 98 ∷ []) ∷ []) ≡ an_int (pos 1)
unfolding apply int_wrap
ends_with_1 = refl

concat_1 : apply op.Concat string (a_text (97 ∷ 98 ∷ []) ∷ a_text (97 ∷ 98 ∷ []) ∷ []) ≡ a_text (97 ∷ 98 ∷ 97 ∷ 98 ∷ [])
unfolding apply int_wrap
concat_1 = refl

strlen_1 : apply op.StrLen int (a_text (97 ∷ 98 ∷ []) ∷ []) ≡ an_int (pos 2)
unfolding apply int_wrap
strlen_1 = refl

eq_2 : apply op.Eq int (a_text (97 ∷ 98 ∷ []) ∷ a_text (97 ∷ 98 ∷ 99 ∷ []) ∷ []) ≡ an_int (pos 0)
unfolding apply int_wrap
eq_2 = refl

neq_2 : apply op.Neq int (a_text (97 ∷ 98 ∷ []) ∷ a_text (97 ∷ 98 ∷ 99 ∷ []) ∷ []) ≡ an_int (pos 1)
unfolding apply int_wrap
neq_2 = refl

starts_with_2 : apply op.StartsWith int (a_text (97 ∷ 98 ∷ []) ∷ a_text (97 ∷ 98 ∷ 99 ∷ []) ∷ []) ≡ an_int (pos 0)
unfolding apply int_wrap
starts_with_2 = refl

ends_with_2 : apply op.EndsWith int (a_text (97 ∷ 98 ∷ []) ∷ a_text (97 ∷ 98 ∷ 99 ∷ []) ∷ []) ≡ an_int (pos 0)
unfolding apply int_wrap
ends_with_2 = refl

concat_2 : apply op.Concat string (a_text (97 ∷ 98 ∷ []) ∷ a_text (97 ∷ 98 ∷ 99 ∷ []) ∷ []) ≡ a_text (97 ∷ 98 ∷ 97
    ∷ 98 ∷ 99 ∷ [])
unfolding apply int_wrap
concat_2 = refl

strlen_2 : apply op.StrLen int (a_text (97 ∷ 98 ∷ []) ∷ []) ≡ an_int (pos 2)
unfolding apply int_wrap
strlen_2 = refl

eq_3 : apply op.Eq int (a_text (97 ∷ 98 ∷ 99 ∷ []) ∷ a_text (97 ∷ 98 ∷ []) ∷ []) ≡ an_int (pos 0)
unfolding apply int_wrap
eq_3 = refl

neq_3 : apply op.Neq int (a_text (97 ∷ 98 ∷ 99 ∷ []) ∷ a_text (97 ∷ 98 ∷ []) ∷ []) ≡ an_int (pos 1)
unfolding apply int_wrap
neq_3 = refl

starts_with_3 : apply op.StartsWith int (a_text (97 ∷ 98 ∷ 99 ∷ []) ∷ a_text (97 ∷ 98 ∷ []) ∷ []) ≡ an_int (pos 1)
unfolding apply int_wrap
starts_with_3 = refl

ends_with_3 : apply op.EndsWith int (a_text (97 ∷ 98 ∷ 99 ∷ []) ∷ a_text (97 ∷ 98 ∷ []) ∷ []) ≡ an_int (pos 0)
unfolding apply int_wrap
ends_with_3 = refl

concat_3 : apply op.Concat string (a_text (97 ∷ 98 ∷ 99 ∷ []) ∷ a_text (97 ∷ 98 ∷ []) ∷ []) ≡ a_text (97 ∷ 98 ∷ 99
    ∷ 97 ∷ 98 ∷ [])
unfolding apply int_wrap
concat_3 = refl

strlen_3 : apply op.StrLen int (a_text (97 ∷ 98 ∷ 99 ∷ []) ∷ []) ≡ an_int (pos 3)
unfolding apply int_wrap
strlen_3 = refl

eq_4 : apply op.Eq int (a_text (97 ∷ 98 ∷ []) ∷ a_text (98 ∷ []) ∷ []) ≡ an_int (pos 0)
unfolding apply int_wrap
eq_4 = refl

neq_4 : apply op.Neq int (a_text (97 ∷ 98 ∷ []) ∷ a_text (98 ∷ []) ∷ []) ≡ an_int (pos 1)
unfolding apply int_wrap
neq_4 = refl

starts_with_4 : apply op.StartsWith int (a_text (97 ∷ 98 ∷ []) ∷ a_text (98 ∷ []) ∷ []) ≡ an_int (pos 0)
unfolding apply int_wrap
starts_with_4 = refl

ends_with_4 : apply op.EndsWith int (a_text (97 ∷ 98 ∷ []) ∷ a_text (98 ∷ []) ∷ []) ≡ an_int (pos 1)
unfolding apply int_wrap
ends_with_4 = refl

concat_4 : apply op.Concat string (a_text (97 ∷ 98 ∷ []) ∷ a_text (98 ∷ []) ∷ []) ≡ a_text (97 ∷ 98 ∷ 98 ∷ [])
unfolding apply int_wrap
concat_4 = refl

strlen_4 : apply op.StrLen int (a_text (97 ∷ 98 ∷ []) ∷ []) ≡ an_int (pos 2)
unfolding apply int_wrap
strlen_4 = refl

eq_5 : apply op.Eq int (a_text (97 ∷ []) ∷ a_text (65 ∷ []) ∷ []) ≡ an_int (pos 0)
unfolding apply int_wrap
eq_5 = refl

neq_5 : apply op.Neq int (a_text (97 ∷ []) ∷ a_text (65 ∷ []) ∷ []) ≡ an_int (pos 1)
unfolding apply int_wrap
neq_5 = refl

starts_with_5 : apply op.StartsWith int (a_text (97 ∷ []) ∷ a_text (65 ∷ []) ∷ []) ≡ an_int (pos 0)
unfolding apply int_wrap
starts_with_5 = refl

ends_with_5 : apply op.EndsWith int (a_text (97 ∷ []) ∷ a_text (65 ∷ []) ∷ []) ≡ an_int (pos 0)
unfolding apply int_wrap
ends_with_5 = refl

concat_5 : apply op.Concat string (a_text (97 ∷ []) ∷ a_text (65 ∷ []) ∷ []) ≡ a_text (97 ∷ 65 ∷ [])
unfolding apply int_wrap
concat_5 = refl

strlen_5 : apply op.StrLen int (a_text (97 ∷ []) ∷ []) ≡ an_int (pos 1)
unfolding apply int_wrap
strlen_5 = refl

eq_6 : apply op.Eq int (a_text ([]) ∷ a_text (97 ∷ []) ∷ []) ≡ an_int (pos 0)
unfolding apply int_wrap
eq_6 = refl

neq_6 : apply op.Neq int (a_text ([]) ∷ a_text (97 ∷ []) ∷ []) ≡ an_int (pos 1)
unfolding apply int_wrap
neq_6 = refl

starts_with_6 : apply op.StartsWith int (a_text ([]) ∷ a_text (97 ∷ []) ∷ []) ≡ an_int (pos 0)
unfolding apply int_wrap
starts_with_6 = refl

ends_with_6 : apply op.EndsWith int (a_text ([]) ∷ a_text (97 ∷ []) ∷ []) ≡ an_int (pos 0)
unfolding apply int_wrap
ends_with_6 = refl

concat_6 : apply op.Concat string (a_text ([]) ∷ a_text (97 ∷ []) ∷ []) ≡ a_text (97 ∷ [])
unfolding apply int_wrap
concat_6 = refl

strlen_6 : apply op.StrLen int (a_text ([]) ∷ []) ≡ an_int (pos 0)
unfolding apply int_wrap
strlen_6 = refl

eq_7 : apply op.Eq int (a_text (97 ∷ []) ∷ a_text ([]) ∷ []) ≡ an_int (pos 0)
unfolding apply int_wrap
eq_7 = refl

neq_7 : apply op.Neq int (a_text (97 ∷ []) ∷ a_text ([]) ∷ []) ≡ an_int (pos 1)
unfolding apply int_wrap
neq_7 = refl

starts_with_7 : apply op.StartsWith int (a_text (97 ∷ []) ∷ a_text ([]) ∷ []) ≡ an_int (pos 1)
unfolding apply int_wrap
starts_with_7 = refl

ends_with_7 : apply op.EndsWith int (a_text (97 ∷ []) ∷ a_text ([]) ∷ []) ≡ an_int (pos 1)
unfolding apply int_wrap
ends_with_7 = refl

concat_7 : apply op.Concat string (a_text (97 ∷ []) ∷ a_text ([]) ∷ []) ≡ a_text (97 ∷ [])
unfolding apply int_wrap
concat_7 = refl

strlen_7 : apply op.StrLen int (a_text (97 ∷ []) ∷ []) ≡ an_int (pos 1)
unfolding apply int_wrap
strlen_7 = refl

eq_8 : apply op.Eq int (a_text (120 ∷ 97 ∷ 98 ∷ []) ∷ a_text (97 ∷ 98 ∷ []) ∷ []) ≡ an_int (pos 0)
unfolding apply int_wrap
eq_8 = refl

neq_8 : apply op.Neq int (a_text (120 ∷ 97 ∷ 98 ∷ []) ∷ a_text (97 ∷ 98 ∷ []) ∷ []) ≡ an_int (pos 1)
unfolding apply int_wrap
neq_8 = refl

starts_with_8 : apply op.StartsWith int (a_text (120 ∷ 97 ∷ 98 ∷ []) ∷ a_text (97 ∷ 98 ∷ []) ∷ []) ≡ an_int (pos 0)
unfolding apply int_wrap
starts_with_8 = refl

ends_with_8 : apply op.EndsWith int (a_text (120 ∷ 97 ∷ 98 ∷ []) ∷ a_text (97 ∷ 98 ∷ []) ∷ []) ≡ an_int (pos 1)
unfolding apply int_wrap
ends_with_8 = refl

concat_8 : apply op.Concat string (a_text (120 ∷ 97 ∷ 98 ∷ []) ∷ a_text (97 ∷ 98 ∷ []) ∷ []) ≡ a_text (120 ∷ 97 ∷ 98
    ∷ 97 ∷ 98 ∷ [])
unfolding apply int_wrap
concat_8 = refl

strlen_8 : apply op.StrLen int (a_text (120 ∷ 97 ∷ 98 ∷ []) ∷ []) ≡ an_int (pos 3)
unfolding apply int_wrap
strlen_8 = refl

eq_9 : apply op.Eq int (a_text (255 ∷ []) ∷ a_text (255 ∷ []) ∷ []) ≡ an_int (pos 1)
unfolding apply int_wrap
eq_9 = refl

neq_9 : apply op.Neq int (a_text (255 ∷ []) ∷ a_text (255 ∷ []) ∷ []) ≡ an_int (pos 0)
unfolding apply int_wrap
neq_9 = refl

starts_with_9 : apply op.StartsWith int (a_text (255 ∷ []) ∷ a_text (255 ∷ []) ∷ []) ≡ an_int (pos 1)
unfolding apply int_wrap
starts_with_9 = refl

ends_with_9 : apply op.EndsWith int (a_text (255 ∷ []) ∷ a_text (255 ∷ []) ∷ []) ≡ an_int (pos 1)
unfolding apply int_wrap
ends_with_9 = refl

concat_9 : apply op.Concat string (a_text (255 ∷ []) ∷ a_text (255 ∷ []) ∷ []) ≡ a_text (255 ∷ 255 ∷ [])
unfolding apply int_wrap
concat_9 = refl

strlen_9 : apply op.StrLen int (a_text (255 ∷ []) ∷ []) ≡ an_int (pos 1)
unfolding apply int_wrap
strlen_9 = refl

eq_10 : apply op.Eq int (a_text (0 ∷ []) ∷ a_text ([]) ∷ []) ≡ an_int (pos 0)
unfolding apply int_wrap
eq_10 = refl

neq_10 : apply op.Neq int (a_text (0 ∷ []) ∷ a_text ([]) ∷ []) ≡ an_int (pos 1)
unfolding apply int_wrap
neq_10 = refl

starts_with_10 : apply op.StartsWith int (a_text (0 ∷ []) ∷ a_text ([]) ∷ []) ≡ an_int (pos 1)
unfolding apply int_wrap
starts_with_10 = refl

ends_with_10 : apply op.EndsWith int (a_text (0 ∷ []) ∷ a_text ([]) ∷ []) ≡ an_int (pos 1)
unfolding apply int_wrap
ends_with_10 = refl

concat_10 : apply op.Concat string (a_text (0 ∷ []) ∷ a_text ([]) ∷ []) ≡ a_text (0 ∷ [])
unfolding apply int_wrap
concat_10 = refl

strlen_10 : apply op.StrLen int (a_text (0 ∷ []) ∷ []) ≡ an_int (pos 1)
unfolding apply int_wrap
strlen_10 = refl

substr_0_5 : apply op.SubStr string (a_text (104 ∷ 101 ∷ 108 ∷ 108 ∷ 111 ∷ []) ∷ an_int (pos 0) ∷ an_int (pos 5)
    ∷ []) ≡ a_text (104 ∷ 101 ∷ 108 ∷ 108 ∷ 111 ∷ [])
unfolding apply int_wrap
substr_0_5 = refl

substr_0_0 : apply op.SubStr string (a_text (104 ∷ 101 ∷ 108 ∷ 108 ∷ 111 ∷ []) ∷ an_int (pos 0) ∷ an_int (pos 0)
    ∷ []) ≡ a_text ([])
unfolding apply int_wrap
substr_0_0 = refl

substr_1_3 : apply op.SubStr string (a_text (104 ∷ 101 ∷ 108 ∷ 108 ∷ 111 ∷ []) ∷ an_int (pos 1) ∷ an_int (pos 3)
    ∷ []) ≡ a_text (101 ∷ 108 ∷ 108 ∷ [])
unfolding apply int_wrap
substr_1_3 = refl

substr_1_minus_1 : apply op.SubStr string (a_text (104 ∷ 101 ∷ 108 ∷ 108 ∷ 111 ∷ []) ∷ an_int (pos 1)
    ∷ an_int (minus 1) ∷ []) ≡ a_text ([])
unfolding apply int_wrap
substr_1_minus_1 = refl

substr_minus_1_1 : apply op.SubStr string (a_text (104 ∷ 101 ∷ 108 ∷ 108 ∷ 111 ∷ []) ∷ an_int (minus 1)
    ∷ an_int (pos 1) ∷ []) ≡ a_text (111 ∷ [])
unfolding apply int_wrap
substr_minus_1_1 = refl

substr_minus_2_9 : apply op.SubStr string (a_text (104 ∷ 101 ∷ 108 ∷ 108 ∷ 111 ∷ []) ∷ an_int (minus 2)
    ∷ an_int (pos 9) ∷ []) ≡ a_text (108 ∷ 111 ∷ [])
unfolding apply int_wrap
substr_minus_2_9 = refl

substr_minus_5_2 : apply op.SubStr string (a_text (104 ∷ 101 ∷ 108 ∷ 108 ∷ 111 ∷ []) ∷ an_int (minus 5)
    ∷ an_int (pos 2) ∷ []) ≡ a_text (104 ∷ 101 ∷ [])
unfolding apply int_wrap
substr_minus_5_2 = refl

substr_minus_6_2 : apply op.SubStr string (a_text (104 ∷ 101 ∷ 108 ∷ 108 ∷ 111 ∷ []) ∷ an_int (minus 6)
    ∷ an_int (pos 2) ∷ []) ≡ a_text (104 ∷ 101 ∷ [])
unfolding apply int_wrap
substr_minus_6_2 = refl

substr_minus_9_9 : apply op.SubStr string (a_text (104 ∷ 101 ∷ 108 ∷ 108 ∷ 111 ∷ []) ∷ an_int (minus 9)
    ∷ an_int (pos 9) ∷ []) ≡ a_text (104 ∷ 101 ∷ 108 ∷ 108 ∷ 111 ∷ [])
unfolding apply int_wrap
substr_minus_9_9 = refl

substr_5_1 : apply op.SubStr string (a_text (104 ∷ 101 ∷ 108 ∷ 108 ∷ 111 ∷ []) ∷ an_int (pos 5) ∷ an_int (pos 1)
    ∷ []) ≡ a_text ([])
unfolding apply int_wrap
substr_5_1 = refl

substr_6_1 : apply op.SubStr string (a_text (104 ∷ 101 ∷ 108 ∷ 108 ∷ 111 ∷ []) ∷ an_int (pos 6) ∷ an_int (pos 1)
    ∷ []) ≡ a_text ([])
unfolding apply int_wrap
substr_6_1 = refl

substr_4_9 : apply op.SubStr string (a_text (104 ∷ 101 ∷ 108 ∷ 108 ∷ 111 ∷ []) ∷ an_int (pos 4) ∷ an_int (pos 9)
    ∷ []) ≡ a_text (111 ∷ [])
unfolding apply int_wrap
substr_4_9 = refl

substr_0_2147483647 : apply op.SubStr string (a_text (104 ∷ 101 ∷ 108 ∷ 108 ∷ 111 ∷ []) ∷ an_int (pos 0)
    ∷ an_int (pos 2147483647) ∷ []) ≡ a_text (104 ∷ 101 ∷ 108 ∷ 108 ∷ 111 ∷ [])
unfolding apply int_wrap
substr_0_2147483647 = refl

substr_minus_2147483648_2 : apply op.SubStr string (a_text (104 ∷ 101 ∷ 108 ∷ 108 ∷ 111 ∷ [])
    ∷ an_int (minus 2147483648) ∷ an_int (pos 2) ∷ []) ≡ a_text (104 ∷ 101 ∷ [])
unfolding apply int_wrap
substr_minus_2147483648_2 = refl

substr_2147483647_2 : apply op.SubStr string (a_text (104 ∷ 101 ∷ 108 ∷ 108 ∷ 111 ∷ []) ∷ an_int (pos 2147483647)
    ∷ an_int (pos 2) ∷ []) ≡ a_text ([])
unfolding apply int_wrap
substr_2147483647_2 = refl

substr_2_minus_2147483648 : apply op.SubStr string (a_text (104 ∷ 101 ∷ 108 ∷ 108 ∷ 111 ∷ []) ∷ an_int (pos 2)
    ∷ an_int (minus 2147483648) ∷ []) ≡ a_text ([])
unfolding apply int_wrap
substr_2_minus_2147483648 = refl

getchar_minus_1 : apply op.GetChar int (a_text (104 ∷ 0 ∷ 255 ∷ 128 ∷ []) ∷ an_int (minus 1) ∷ []) ≡ an_int (pos 0)
unfolding apply int_wrap
getchar_minus_1 = refl

getchar_0 : apply op.GetChar int (a_text (104 ∷ 0 ∷ 255 ∷ 128 ∷ []) ∷ an_int (pos 0) ∷ []) ≡ an_int (pos 104)
unfolding apply int_wrap
getchar_0 = refl

getchar_1 : apply op.GetChar int (a_text (104 ∷ 0 ∷ 255 ∷ 128 ∷ []) ∷ an_int (pos 1) ∷ []) ≡ an_int (pos 0)
unfolding apply int_wrap
getchar_1 = refl

getchar_2 : apply op.GetChar int (a_text (104 ∷ 0 ∷ 255 ∷ 128 ∷ []) ∷ an_int (pos 2) ∷ []) ≡ an_int (pos 255)
unfolding apply int_wrap
getchar_2 = refl

getchar_3 : apply op.GetChar int (a_text (104 ∷ 0 ∷ 255 ∷ 128 ∷ []) ∷ an_int (pos 3) ∷ []) ≡ an_int (pos 128)
unfolding apply int_wrap
getchar_3 = refl

getchar_4 : apply op.GetChar int (a_text (104 ∷ 0 ∷ 255 ∷ 128 ∷ []) ∷ an_int (pos 4) ∷ []) ≡ an_int (pos 0)
unfolding apply int_wrap
getchar_4 = refl

getchar_2147483647 : apply op.GetChar int (a_text (104 ∷ 0 ∷ 255 ∷ 128 ∷ []) ∷ an_int (pos 2147483647)
    ∷ []) ≡ an_int (pos 0)
unfolding apply int_wrap
getchar_2147483647 = refl

getchar_minus_2147483648 : apply op.GetChar int (a_text (104 ∷ 0 ∷ 255 ∷ 128 ∷ []) ∷ an_int (minus 2147483648)
    ∷ []) ≡ an_int (pos 0)
unfolding apply int_wrap
getchar_minus_2147483648 = refl

cut_511_1 : apply op.Concat string (a_text (replicate 511 97) ∷ a_text (replicate 1 98)
    ∷ []) ≡ a_text (replicate 511 97 ++ replicate 1 98)
unfolding apply int_wrap
cut_511_1 = refl

cut_511_2 : apply op.Concat string (a_text (replicate 511 97) ∷ a_text (replicate 2 98)
    ∷ []) ≡ a_text (replicate 511 97 ++ replicate 1 98)
unfolding apply int_wrap
cut_511_2 = refl

cut_512_1 : apply op.Concat string (a_text (replicate 512 97) ∷ a_text (replicate 1 98)
    ∷ []) ≡ a_text (replicate 512 97 ++ replicate 0 98)
unfolding apply int_wrap
cut_512_1 = refl

cut_300_300 : apply op.Concat string (a_text (replicate 300 97) ∷ a_text (replicate 300 98)
    ∷ []) ≡ a_text (replicate 300 97 ++ replicate 212 98)
unfolding apply int_wrap
cut_300_300 = refl
