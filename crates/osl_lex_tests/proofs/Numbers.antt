-- Which texts are numbers, and what they are worth: points and exponents in each place, halves of a unit, both ends of the ranges, suffixes.
use Rattle.std.proofs.Common.{◌≡◌, ℕ, refl}
use Rattle.std.specs.Prelude.{ℤ, pos, neg_ℤ, [], ◌∷◌, map, codes, None, Some}
use Rattle.osl_decimal.specs.Decimal.{mantissa, whole, decimals, exponent, exponent_digits, is_decimal, raising, lowering, numerator, denominator, decimal_units, fx_of, int_of}
use Rattle.osl_tree.specs.declared.token.TokenKind.TheVariants as kinds
use Rattle.osl_lex.specs.Value.{hex_of, float_of, number_of}

abbrev minus : ℕ → ℤ
minus n = neg_ℤ (pos n)

-- ---- floats, with a sign

floats : map fx_of ((codes "1.5") ∷ (codes "1.") ∷ (codes ".5") ∷ (codes "0.0") ∷ (codes "00.50") ∷ (codes "1e5")
    ∷ (codes "1E5") ∷ (codes "1.e5") ∷ (codes "1.5e2") ∷ (codes "1.5e+2") ∷ (codes "1.5e-2") ∷ (codes ".5e1")
    ∷ (codes "0e9") ∷ (codes "0.0000000005") ∷ (codes "0.00000000049999") ∷ (codes "0.0000000015")
    ∷ (codes "0.00000000149") ∷ (codes "1e-9") ∷ (codes "1e-10") ∷ (codes "4e-10") ∷ (codes "5e-10")
    ∷ (codes "9223372036.854775807") ∷ (codes "9223372036.8547758074") ∷ (codes "0.1") ∷ (codes "123456789.987654321")
    ∷ []) ≡ (Some (pos 1500000000) ∷ Some (pos 1000000000) ∷ Some (pos 500000000) ∷ Some (pos 0)
    ∷ Some (pos 500000000) ∷ Some (pos 100000000000000) ∷ Some (pos 100000000000000) ∷ Some (pos 100000000000000)
    ∷ Some (pos 150000000000) ∷ Some (pos 150000000000) ∷ Some (pos 15000000) ∷ Some (pos 5000000000) ∷ Some (pos 0)
    ∷ Some (pos 1) ∷ Some (pos 0) ∷ Some (pos 2) ∷ Some (pos 1) ∷ Some (pos 1) ∷ Some (pos 0) ∷ Some (pos 0)
    ∷ Some (pos 1) ∷ Some (pos 9223372036854775807) ∷ Some (pos 9223372036854775807) ∷ Some (pos 100000000)
    ∷ Some (pos 123456789987654321) ∷ [])
unfolding fx_of is_decimal decimal_units numerator denominator raising lowering mantissa whole decimals exponent exponent_digits
floats = refl

below_zero : map fx_of ((codes "-1.5") ∷ (codes "-1.") ∷ (codes "-.5") ∷ (codes "-0.0") ∷ (codes "-00.50")
    ∷ (codes "-1e5") ∷ (codes "-1E5") ∷ (codes "-1.e5") ∷ (codes "-9223372036.854775807")
    ∷ (codes "-9223372036.8547758074") ∷ (codes "-0.1") ∷ (codes "-123456789.987654321")
    ∷ []) ≡ (Some (minus 1500000000) ∷ Some (minus 1000000000) ∷ Some (minus 500000000) ∷ Some (minus 0)
    ∷ Some (minus 500000000) ∷ Some (minus 100000000000000) ∷ Some (minus 100000000000000)
    ∷ Some (minus 100000000000000) ∷ Some (minus 9223372036854775807) ∷ Some (minus 9223372036854775807)
    ∷ Some (minus 100000000) ∷ Some (minus 123456789987654321) ∷ [])
unfolding fx_of is_decimal decimal_units numerator denominator raising lowering mantissa whole decimals exponent exponent_digits
below_zero = refl

out_of_range : map fx_of ((codes "9223372036.8547758075") ∷ (codes "9223372037.0") ∷ (codes "1e10")
    ∷ (codes "-9223372036.8547758075") ∷ (codes "-9223372037.0") ∷ (codes "-1e10") ∷ []) ≡ (None ∷ None ∷ None ∷ None
    ∷ None ∷ None ∷ [])
unfolding fx_of is_decimal decimal_units numerator denominator raising lowering mantissa whole decimals exponent exponent_digits
out_of_range = refl

no_floats : map fx_of ((codes "") ∷ (codes ".") ∷ (codes "e5") ∷ (codes ".e5") ∷ (codes "1e") ∷ (codes "1e+")
    ∷ (codes "1e-") ∷ (codes "1.2.3") ∷ (codes "1e5.") ∷ (codes "1e5e5") ∷ (codes "+1.0") ∷ (codes "1e 5")
    ∷ (codes "1_0") ∷ (codes "0x1.") ∷ (codes "1f") ∷ (codes "-") ∷ (codes "--1.0") ∷ []) ≡ (None ∷ None ∷ None ∷ None
    ∷ None ∷ None ∷ None ∷ None ∷ None ∷ None ∷ None ∷ None ∷ None ∷ None ∷ None ∷ None ∷ None ∷ [])
unfolding fx_of is_decimal decimal_units numerator denominator raising lowering mantissa whole decimals exponent exponent_digits
no_floats = refl

-- ---- ints, with a sign

ints : map int_of ((codes "0") ∷ (codes "7") ∷ (codes "007") ∷ (codes "2147483647") ∷ (codes "-1")
    ∷ (codes "-2147483648") ∷ (codes "2147483648") ∷ (codes "-2147483649") ∷ (codes "") ∷ (codes "-") ∷ (codes "+1")
    ∷ (codes "1.") ∷ (codes "0x1") ∷ (codes "1 ") ∷ (codes "99999999999999999999") ∷ []) ≡ (Some (pos 0)
    ∷ Some (pos 7) ∷ Some (pos 7) ∷ Some (pos 2147483647) ∷ Some (minus 1) ∷ Some (minus 2147483648) ∷ None ∷ None
    ∷ None ∷ None ∷ None ∷ None ∷ None ∷ None ∷ None ∷ [])
unfolding int_of
ints = refl

-- ---- numbers of a source

numbers : map number_of ((codes "0x0") ∷ (codes "0X1f") ∷ (codes "0xFf") ∷ (codes "0x7fffffff") ∷ (codes "0x80000000")
    ∷ (codes "0xffffffff") ∷ (codes "0XFFFFFFFE") ∷ (codes "0x00000000ff") ∷ (codes "0x") ∷ (codes "0X")
    ∷ (codes "0x100000000") ∷ (codes "0xg") ∷ (codes "0x1.") ∷ (codes "0x1f.") ∷ (codes "1f") ∷ (codes "1F")
    ∷ (codes "2147483648") ∷ (codes "1.0ff") ∷ (codes "1.0fF") ∷ (codes "f") ∷ (codes "1e") ∷ (codes "1.e")
    ∷ (codes "0b1") ∷ (codes "12e5g") ∷ (codes "0") ∷ (codes "012") ∷ (codes "2147483647") ∷ (codes "1.5")
    ∷ (codes "1.") ∷ (codes "1.f") ∷ (codes ".5") ∷ (codes "1.5f") ∷ (codes "1.5F") ∷ (codes "1e3") ∷ (codes "1e3f")
    ∷ (codes "1E3F") ∷ (codes "1.e5") ∷ (codes ".5e-1f") ∷ (codes "9223372036.854775807") ∷ (codes "0.0000000005")
    ∷ []) ≡ (Some (kinds.Int (pos 0)) ∷ Some (kinds.Int (pos 31)) ∷ Some (kinds.Int (pos 255))
    ∷ Some (kinds.Int (pos 2147483647)) ∷ Some (kinds.Int (minus 2147483648)) ∷ Some (kinds.Int (minus 1))
    ∷ Some (kinds.Int (minus 2)) ∷ Some (kinds.Int (pos 255)) ∷ None ∷ None ∷ None ∷ None ∷ None ∷ None ∷ None ∷ None
    ∷ None ∷ None ∷ None ∷ None ∷ None ∷ None ∷ None ∷ None ∷ Some (kinds.Int (pos 0)) ∷ Some (kinds.Int (pos 12))
    ∷ Some (kinds.Int (pos 2147483647)) ∷ Some (kinds.Float (pos 1500000000)) ∷ Some (kinds.Float (pos 1000000000))
    ∷ Some (kinds.Float (pos 1000000000)) ∷ Some (kinds.Float (pos 500000000)) ∷ Some (kinds.Float (pos 1500000000))
    ∷ Some (kinds.Float (pos 1500000000)) ∷ Some (kinds.Float (pos 1000000000000))
    ∷ Some (kinds.Float (pos 1000000000000)) ∷ Some (kinds.Float (pos 1000000000000))
    ∷ Some (kinds.Float (pos 100000000000000)) ∷ Some (kinds.Float (pos 50000000))
    ∷ Some (kinds.Float (pos 9223372036854775807)) ∷ Some (kinds.Float (pos 1)) ∷ [])
unfolding number_of hex_of int_of float_of fx_of is_decimal decimal_units numerator denominator raising lowering mantissa whole decimals exponent exponent_digits
numbers = refl
