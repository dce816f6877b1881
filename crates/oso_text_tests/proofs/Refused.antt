-- Texts that are refused, with the kind and the line of their first fault.
use Rattle.std.proofs.Common.{◌≡◌, refl}
use Rattle.std.specs.Fmt.{digits}
use Rattle.std.specs.Int.{int_wrap}
use Rattle.std.specs.Prelude.{[], ◌∷◌, ◌++◌, codes, map, Some}
use Rattle.osl_value.specs.Apply.{is_allowed}
use Rattle.osl_decimal.specs.Canonical.{fraction_text, magnitude_text}
use Rattle.osl_decimal.specs.Decimal.{int_of, fx_of, is_decimal, decimal_units, numerator, denominator, raising, lowering, mantissa, whole, decimals, exponent, exponent_digits}
use Rattle.osl_valuetext.specs.Literals.{value_at, numbers_at, strings_at, text_at, string_at, values_at, decimal_at, fx_at, int_at}
use Rattle.osl_valuetext.specs.Splitting.{words}
use Rattle.osl_valuetext.specs.Types.{type_at, length_at}
use Rattle.oso_code.specs.Steps.{step_of}
use Rattle.oso_read.specs.Data.{datum_of, meta_at, meta_type_at}
use Rattle.oso_read.specs.Faults.{fault}
use Rattle.oso_read.specs.Hints.{saying, is_hint}
use Rattle.oso_read.specs.OpLine.{code_at, is_end, op_at, op_words}
use Rattle.oso_read.specs.Reading as r
use Rattle.oso_read.specs.Reading.{reading}
use Rattle.oso_read.specs.SymbolLine.{head_at, head_words, symbol_at, symbol_words, class_at, typed_words, metas_at, named_at, start_at}
use Rattle.oso_read.specs.Text.{told_from}
use Rattle.oso_read.specs.declared.error.OsoKind.TheVariants as kinds
use Rattle.oso_text_tests.proofs.Words.{after, found}

-- ---- the first two lines

row_1 : map (λ text. found (reading text))
    ([]
    ∷ (codes "\n# no\n")
    ∷ (codes "OpenShadingLanguage 1.0\n")
    ∷ (codes "\nOpenShadingLanguage 1.00 %meta{int,a,1}\n")
    ∷ (codes "OpenShadingLanguage 1.00 1\n")
    ∷ (codes "OpenShadingLanguage 1.00 %a\n") ∷ [])
    ≡ (Some (fault kinds.Header 1) ∷ Some (fault kinds.Header 3) ∷ Some (fault kinds.Header 1) ∷ Some (fault kinds.Header 2) ∷ Some (fault kinds.Header 1) ∷ Some (fault kinds.Header 1) ∷ [])
unfolding reading r.opened r.headed r.named_from r.declared_from r.symbol_added r.filled_from r.code_read r.op_read r.op_named r.op_of r.range_fault r.closed r.ended told_from words saying is_hint head_at head_words symbol_at symbol_words class_at typed_words metas_at named_at start_at meta_at meta_type_at datum_of op_at op_words code_at is_end type_at length_at value_at numbers_at strings_at text_at string_at values_at decimal_at fx_at int_at int_of fx_of is_decimal decimal_units numerator denominator raising lowering mantissa whole decimals exponent exponent_digits fraction_text magnitude_text digits int_wrap step_of is_allowed
row_1 = refl

row_2 : map (λ text. found (reading text))
    ((codes "OpenShadingLanguage 1.00\n")
    ∷ (codes "OpenShadingLanguage 1.00")
    ∷ (codes "OpenShadingLanguage 1.00" ++ (13 ∷ []))
    ∷ (codes "OpenShadingLanguage 1.00\nlight s\n")
    ∷ (codes "OpenShadingLanguage 1.00\nshader 1s\n")
    ∷ (codes "OpenShadingLanguage 1.00\nshader\n") ∷ [])
    ≡ (Some (fault kinds.Header 2) ∷ Some (fault kinds.Header 2) ∷ Some (fault kinds.Header 1) ∷ Some (fault kinds.Header 2) ∷ Some (fault kinds.Header 2) ∷ Some (fault kinds.Header 2) ∷ [])
unfolding reading r.opened r.headed r.named_from r.declared_from r.symbol_added r.filled_from r.code_read r.op_read r.op_named r.op_of r.range_fault r.closed r.ended told_from words saying is_hint head_at head_words symbol_at symbol_words class_at typed_words metas_at named_at start_at meta_at meta_type_at datum_of op_at op_words code_at is_end type_at length_at value_at numbers_at strings_at text_at string_at values_at decimal_at fx_at int_at int_of fx_of is_decimal decimal_units numerator denominator raising lowering mantissa whole decimals exponent exponent_digits fraction_text magnitude_text digits int_wrap step_of is_allowed
row_2 = refl

row_3 : map (λ text. found (reading text))
    ((codes "OpenShadingLanguage 1.00\nshader s %meta{int,a}\n")
    ∷ (codes "OpenShadingLanguage 1.00\nshader s %meta{ int,a,1}\n")
    ∷ (codes "OpenShadingLanguage 1.00\nshader s t\n") ∷ [])
    ≡ (Some (fault kinds.Header 2) ∷ Some (fault kinds.Header 2) ∷ Some (fault kinds.Header 2) ∷ [])
unfolding reading r.opened r.headed r.named_from r.declared_from r.symbol_added r.filled_from r.code_read r.op_read r.op_named r.op_of r.range_fault r.closed r.ended told_from words saying is_hint head_at head_words symbol_at symbol_words class_at typed_words metas_at named_at start_at meta_at meta_type_at datum_of op_at op_words code_at is_end type_at length_at value_at numbers_at strings_at text_at string_at values_at decimal_at fx_at int_at int_of fx_of is_decimal decimal_units numerator denominator raising lowering mantissa whole decimals exponent exponent_digits fraction_text magnitude_text digits int_wrap step_of is_allowed
row_3 = refl

-- ---- words out of the grammar

row_4 : map (λ text. found (reading text))
    ((codes "OpenShadingLanguage 1.00\nshader plain\noparam float r 7.0\ncode ___main___\nend\n")
    ∷ (codes "OpenShadingLanguage 1.00\nshader plain\nop")
    ∷ (codes "OpenShadingLanguage 1.00\nshader plain\n")
    ∷ (codes "OpenShadingLanguage 1.00\nshader plain\noparam float r 7\ncode ___main___\n")
    ∷ (codes "OpenShadingLanguage 1.00\nshader plain\noparam float r 7\ncode ___main___\nend")
    ∷ after (codes "end\n") ∷ [])
    ≡ (Some (fault kinds.Line 3) ∷ Some (fault kinds.Line 3) ∷ Some (fault kinds.Line 3) ∷ Some (fault kinds.Line 5) ∷ Some (fault kinds.Line 6) ∷ Some (fault kinds.Line 3) ∷ [])
unfolding reading r.opened r.headed r.named_from r.declared_from r.symbol_added r.filled_from r.code_read r.op_read r.op_named r.op_of r.range_fault r.closed r.ended told_from words saying is_hint head_at head_words symbol_at symbol_words class_at typed_words metas_at named_at start_at meta_at meta_type_at datum_of op_at op_words code_at is_end type_at length_at value_at numbers_at strings_at text_at string_at values_at decimal_at fx_at int_at int_of fx_of is_decimal decimal_units numerator denominator raising lowering mantissa whole decimals exponent exponent_digits fraction_text magnitude_text digits int_wrap step_of is_allowed
row_4 = refl

row_5 : map (λ text. found (reading text))
    (after (codes "param float a 0\ncode a\nend\n")
    ∷ after (codes "code ___main___\nend x\n")
    ∷ after (codes "code ___main___\nend %meta{int,a,1}\n")
    ∷ after (codes "code ___main___\nend\nexit\n")
    ∷ after (codes "code ___main___ x\nend\n")
    ∷ after (codes "code\nend\n") ∷ [])
    ≡ (Some (fault kinds.Line 5) ∷ Some (fault kinds.Line 4) ∷ Some (fault kinds.Line 4) ∷ Some (fault kinds.Line 5) ∷ Some (fault kinds.Line 3) ∷ Some (fault kinds.Line 3) ∷ [])
unfolding reading r.opened r.headed r.named_from r.declared_from r.symbol_added r.filled_from r.code_read r.op_read r.op_named r.op_of r.range_fault r.closed r.ended told_from words saying is_hint head_at head_words symbol_at symbol_words class_at typed_words metas_at named_at start_at meta_at meta_type_at datum_of op_at op_words code_at is_end type_at length_at value_at numbers_at strings_at text_at string_at values_at decimal_at fx_at int_at int_of fx_of is_decimal decimal_units numerator denominator raising lowering mantissa whole decimals exponent exponent_digits fraction_text magnitude_text digits int_wrap step_of is_allowed
row_5 = refl

row_6 : map (λ text. found (reading text))
    (after (codes "param float a 07\n")
    ∷ after (codes "param float a +7\n")
    ∷ after (codes "param float a .5\n")
    ∷ after (codes "param float a -0\n")
    ∷ after (codes "param float a 1e1\n")
    ∷ after (codes "param float a 9223372036.854775808\n") ∷ [])
    ≡ (Some (fault kinds.Line 3) ∷ Some (fault kinds.Line 3) ∷ Some (fault kinds.Line 3) ∷ Some (fault kinds.Line 3) ∷ Some (fault kinds.Line 3) ∷ Some (fault kinds.Line 3) ∷ [])
unfolding reading r.opened r.headed r.named_from r.declared_from r.symbol_added r.filled_from r.code_read r.op_read r.op_named r.op_of r.range_fault r.closed r.ended told_from words saying is_hint head_at head_words symbol_at symbol_words class_at typed_words metas_at named_at start_at meta_at meta_type_at datum_of op_at op_words code_at is_end type_at length_at value_at numbers_at strings_at text_at string_at values_at decimal_at fx_at int_at int_of fx_of is_decimal decimal_units numerator denominator raising lowering mantissa whole decimals exponent exponent_digits fraction_text magnitude_text digits int_wrap step_of is_allowed
row_6 = refl

row_7 : map (λ text. found (reading text))
    (after (codes "const int a 2147483648\n")
    ∷ after (codes "param float a\n")
    ∷ after (codes "param float a 1 2\n")
    ∷ after (codes "param float a 1%x{}\n")
    ∷ after (codes "param float a %x{} 1\n")
    ∷ after (codes "param float a 1 %x{{}}\n") ∷ [])
    ≡ (Some (fault kinds.Line 3) ∷ Some (fault kinds.Line 3) ∷ Some (fault kinds.Line 3) ∷ Some (fault kinds.Line 3) ∷ Some (fault kinds.Line 3) ∷ Some (fault kinds.Line 3) ∷ [])
unfolding reading r.opened r.headed r.named_from r.declared_from r.symbol_added r.filled_from r.code_read r.op_read r.op_named r.op_of r.range_fault r.closed r.ended told_from words saying is_hint head_at head_words symbol_at symbol_words class_at typed_words metas_at named_at start_at meta_at meta_type_at datum_of op_at op_words code_at is_end type_at length_at value_at numbers_at strings_at text_at string_at values_at decimal_at fx_at int_at int_of fx_of is_decimal decimal_units numerator denominator raising lowering mantissa whole decimals exponent exponent_digits fraction_text magnitude_text digits int_wrap step_of is_allowed
row_7 = refl

row_8 : map (λ text. found (reading text))
    (after (codes "param float[03] a 1 2 3\n")
    ∷ after (codes "local float[0] a\n")
    ∷ after (codes "local float[1025] a\n")
    ∷ after (codes "local float[2 ] a\n")
    ∷ after (codes "local closure a\n")
    ∷ after (codes "local closure color[2] a\n") ∷ [])
    ≡ (Some (fault kinds.Line 3) ∷ Some (fault kinds.Line 3) ∷ Some (fault kinds.Line 3) ∷ Some (fault kinds.Line 3) ∷ Some (fault kinds.Line 3) ∷ Some (fault kinds.Line 3) ∷ [])
unfolding reading r.opened r.headed r.named_from r.declared_from r.symbol_added r.filled_from r.code_read r.op_read r.op_named r.op_of r.range_fault r.closed r.ended told_from words saying is_hint head_at head_words symbol_at symbol_words class_at typed_words metas_at named_at start_at meta_at meta_type_at datum_of op_at op_words code_at is_end type_at length_at value_at numbers_at strings_at text_at string_at values_at decimal_at fx_at int_at int_of fx_of is_decimal decimal_units numerator denominator raising lowering mantissa whole decimals exponent exponent_digits fraction_text magnitude_text digits int_wrap step_of is_allowed
row_8 = refl

row_9 : map (λ text. found (reading text))
    (after (codes "local float a 1\n")
    ∷ after (codes "local float a %meta{int,b,1}\n")
    ∷ after (codes "const closure color a\n")
    ∷ after (codes "const string a \"b\n")
    ∷ after (codes "const string a \"\\101\"\n")
    ∷ after (codes "const string a \"\\011\"\n") ∷ [])
    ≡ (Some (fault kinds.Line 3) ∷ Some (fault kinds.Line 3) ∷ Some (fault kinds.Line 3) ∷ Some (fault kinds.Line 3) ∷ Some (fault kinds.Line 3) ∷ Some (fault kinds.Line 3) ∷ [])
unfolding reading r.opened r.headed r.named_from r.declared_from r.symbol_added r.filled_from r.code_read r.op_read r.op_named r.op_of r.range_fault r.closed r.ended told_from words saying is_hint head_at head_words symbol_at symbol_words class_at typed_words metas_at named_at start_at meta_at meta_type_at datum_of op_at op_words code_at is_end type_at length_at value_at numbers_at strings_at text_at string_at values_at decimal_at fx_at int_at int_of fx_of is_decimal decimal_units numerator denominator raising lowering mantissa whole decimals exponent exponent_digits fraction_text magnitude_text digits int_wrap step_of is_allowed
row_9 = refl

row_10 : map (λ text. found (reading text))
    (after (codes "const string a \"\\400\"\n")
    ∷ after (codes "const string a \"\\x\"\n")
    ∷ after (codes "const string a \"" ++ (255 ∷ []) ++ codes "\"\n")
    ∷ after (codes "const string a \"\"b\"\"\n")
    ∷ after (codes "local float a" ++ (13 ∷ 13 ∷ []) ++ codes "\n")
    ∷ after (codes "const int c 1\ncode ___main___\nif c 6 -6\nend\n") ∷ [])
    ≡ (Some (fault kinds.Line 3) ∷ Some (fault kinds.Line 3) ∷ Some (fault kinds.Line 3) ∷ Some (fault kinds.Line 3) ∷ Some (fault kinds.Line 3) ∷ Some (fault kinds.Line 5) ∷ [])
unfolding reading r.opened r.headed r.named_from r.declared_from r.symbol_added r.filled_from r.code_read r.op_read r.op_named r.op_of r.range_fault r.closed r.ended told_from words saying is_hint head_at head_words symbol_at symbol_words class_at typed_words metas_at named_at start_at meta_at meta_type_at datum_of op_at op_words code_at is_end type_at length_at value_at numbers_at strings_at text_at string_at values_at decimal_at fx_at int_at int_of fx_of is_decimal decimal_units numerator denominator raising lowering mantissa whole decimals exponent exponent_digits fraction_text magnitude_text digits int_wrap step_of is_allowed
row_10 = refl

row_11 : map (λ text. found (reading text))
    (after (codes "const int c 1\ncode ___main___\nif c 1 4294967296\nend\n")
    ∷ after (codes "const int c 1\ncode ___main___\nif c 1 c\nend\n")
    ∷ after (codes "const int c 1\ncode ___main___\nexit %meta{int,a,1}\nend\n") ∷ [])
    ≡ (Some (fault kinds.Line 5) ∷ Some (fault kinds.Line 5) ∷ Some (fault kinds.Line 5) ∷ [])
unfolding reading r.opened r.headed r.named_from r.declared_from r.symbol_added r.filled_from r.code_read r.op_read r.op_named r.op_of r.range_fault r.closed r.ended told_from words saying is_hint head_at head_words symbol_at symbol_words class_at typed_words metas_at named_at start_at meta_at meta_type_at datum_of op_at op_words code_at is_end type_at length_at value_at numbers_at strings_at text_at string_at values_at decimal_at fx_at int_at int_of fx_of is_decimal decimal_units numerator denominator raising lowering mantissa whole decimals exponent exponent_digits fraction_text magnitude_text digits int_wrap step_of is_allowed
row_11 = refl

-- ---- metadata where none stands, and escapes that are none

row_12 : map (λ text. found (reading text))
    (after (codes "global point P %meta{int,a,1}\n")
    ∷ after (codes "const int a 1 %meta{int,a,1}\n")
    ∷ after (codes "temp int a %meta{int,a,1}\n")
    ∷ after (codes "code ___main___ %meta{int,a,1}\nend\n")
    ∷ after (codes "const string a \"\\134\"\n")
    ∷ after (codes "const string a \"\\01\"\n") ∷ [])
    ≡ (Some (fault kinds.Line 3) ∷ Some (fault kinds.Line 3) ∷ Some (fault kinds.Line 3) ∷ Some (fault kinds.Line 3) ∷ Some (fault kinds.Line 3) ∷ Some (fault kinds.Line 3) ∷ [])
unfolding reading r.opened r.headed r.named_from r.declared_from r.symbol_added r.filled_from r.code_read r.op_read r.op_named r.op_of r.range_fault r.closed r.ended told_from words saying is_hint head_at head_words symbol_at symbol_words class_at typed_words metas_at named_at start_at meta_at meta_type_at datum_of op_at op_words code_at is_end type_at length_at value_at numbers_at strings_at text_at string_at values_at decimal_at fx_at int_at int_of fx_of is_decimal decimal_units numerator denominator raising lowering mantissa whole decimals exponent exponent_digits fraction_text magnitude_text digits int_wrap step_of is_allowed
row_12 = refl

row_13 : map (λ text. found (reading text))
    (after (codes "const string a \"\\\"\n") ∷ [])
    ≡ (Some (fault kinds.Line 3) ∷ [])
unfolding reading r.opened r.headed r.named_from r.declared_from r.symbol_added r.filled_from r.code_read r.op_read r.op_named r.op_of r.range_fault r.closed r.ended told_from words saying is_hint head_at head_words symbol_at symbol_words class_at typed_words metas_at named_at start_at meta_at meta_type_at datum_of op_at op_words code_at is_end type_at length_at value_at numbers_at strings_at text_at string_at values_at decimal_at fx_at int_at int_of fx_of is_decimal decimal_units numerator denominator raising lowering mantissa whole decimals exponent exponent_digits fraction_text magnitude_text digits int_wrap step_of is_allowed
row_13 = refl

-- ---- symbols

row_14 : map (λ text. found (reading text))
    (after (codes "local float a\ntemp int a\n")
    ∷ after (codes "param float ___main___ 0\n")
    ∷ after (codes "local float a\nparam float b 0\n")
    ∷ after (codes "global float P\n")
    ∷ after (codes "global float time\n")
    ∷ after (codes "local float a\nlocal float a\nlocal float 1\n") ∷ [])
    ≡ (Some (fault kinds.Symbol 4) ∷ Some (fault kinds.Symbol 3) ∷ Some (fault kinds.Symbol 4) ∷ Some (fault kinds.Symbol 3) ∷ Some (fault kinds.Symbol 3) ∷ Some (fault kinds.Symbol 4) ∷ [])
unfolding reading r.opened r.headed r.named_from r.declared_from r.symbol_added r.filled_from r.code_read r.op_read r.op_named r.op_of r.range_fault r.closed r.ended told_from words saying is_hint head_at head_words symbol_at symbol_words class_at typed_words metas_at named_at start_at meta_at meta_type_at datum_of op_at op_words code_at is_end type_at length_at value_at numbers_at strings_at text_at string_at values_at decimal_at fx_at int_at int_of fx_of is_decimal decimal_units numerator denominator raising lowering mantissa whole decimals exponent exponent_digits fraction_text magnitude_text digits int_wrap step_of is_allowed
row_14 = refl

-- ---- ops and sections

row_15 : map (λ text. found (reading text))
    (after (codes "local float a\ncode ___main___\nnoise a a\nend\n")
    ∷ after (codes "local float a\ncode ___main___\nassign a b\nend\n")
    ∷ after (codes "local float a\ncode ___main___\nassign a 1\nend\n")
    ∷ after (codes "local float a\ncode ___main___\nassign a\nend\n")
    ∷ after (codes "const float a 1\ncode ___main___\nassign a a\nend\n")
    ∷ after (codes "param float a 0\nparam float b 0\ncode a\nassign a b\ncode ___main___\nend\n") ∷ [])
    ≡ (Some (fault kinds.Op 5) ∷ Some (fault kinds.Op 5) ∷ Some (fault kinds.Op 5) ∷ Some (fault kinds.Op 5) ∷ Some (fault kinds.Op 5) ∷ Some (fault kinds.Op 6) ∷ [])
unfolding reading r.opened r.headed r.named_from r.declared_from r.symbol_added r.filled_from r.code_read r.op_read r.op_named r.op_of r.range_fault r.closed r.ended told_from words saying is_hint head_at head_words symbol_at symbol_words class_at typed_words metas_at named_at start_at meta_at meta_type_at datum_of op_at op_words code_at is_end type_at length_at value_at numbers_at strings_at text_at string_at values_at decimal_at fx_at int_at int_of fx_of is_decimal decimal_units numerator denominator raising lowering mantissa whole decimals exponent exponent_digits fraction_text magnitude_text digits int_wrap step_of is_allowed
row_15 = refl

row_16 : map (λ text. found (reading text))
    (after (codes "param float a 0\nparam float b 0\ncode b\ncode a\ncode ___main___\nend\n")
    ∷ after (codes "param float a 0\ncode ___main___\ncode a\nend\n")
    ∷ after (codes "param float a 1\ncode a\ncode ___main___\nend\n")
    ∷ after (codes "local float a\ncode a\ncode ___main___\nend\n") ∷ [])
    ≡ (Some (fault kinds.Op 6) ∷ Some (fault kinds.Op 5) ∷ Some (fault kinds.Op 4) ∷ Some (fault kinds.Op 4) ∷ [])
unfolding reading r.opened r.headed r.named_from r.declared_from r.symbol_added r.filled_from r.code_read r.op_read r.op_named r.op_of r.range_fault r.closed r.ended told_from words saying is_hint head_at head_words symbol_at symbol_words class_at typed_words metas_at named_at start_at meta_at meta_type_at datum_of op_at op_words code_at is_end type_at length_at value_at numbers_at strings_at text_at string_at values_at decimal_at fx_at int_at int_of fx_of is_decimal decimal_units numerator denominator raising lowering mantissa whole decimals exponent exponent_digits fraction_text magnitude_text digits int_wrap step_of is_allowed
row_16 = refl

-- ---- the first line at fault, and the first kind of one line

row_17 : map (λ text. found (reading text))
    (after (codes "global float P\nlocal float 1\n")
    ∷ after (codes "local float a 1\nlocal float a\nlocal float a\n")
    ∷ after (codes "local float[1024] a\nlocal matrix[1024] b\nlocal matrix[1024] c\nlocal matrix[1024] d\nlocal matrix[1024] e\ncode ___main___\nend\n")
    ∷ after (codes "local matrix[1024] a\nlocal matrix[1024] b\nlocal matrix[1024] c\nlocal matrix[1024] d\nlocal float a\n")
    ∷ after (codes "const int c 1\ncode ___main___\nif c 0 0\nnoise c\nend\n") ∷ [])
    ≡ (Some (fault kinds.Symbol 3) ∷ Some (fault kinds.Line 3) ∷ Some (fault kinds.Limit 7) ∷ Some (fault kinds.Symbol 7) ∷ Some (fault kinds.Op 6) ∷ [])
unfolding reading r.opened r.headed r.named_from r.declared_from r.symbol_added r.filled_from r.code_read r.op_read r.op_named r.op_of r.range_fault r.closed r.ended told_from words saying is_hint head_at head_words symbol_at symbol_words class_at typed_words metas_at named_at start_at meta_at meta_type_at datum_of op_at op_words code_at is_end type_at length_at value_at numbers_at strings_at text_at string_at values_at decimal_at fx_at int_at int_of fx_of is_decimal decimal_units numerator denominator raising lowering mantissa whole decimals exponent exponent_digits fraction_text magnitude_text digits int_wrap step_of is_allowed
row_17 = refl

-- ---- jumps, where there is nothing else

row_18 : map (λ text. found (reading text))
    (after (codes "const int c 1\ncode ___main___\nif c 1 2\nend\n")
    ∷ after (codes "const int c 1\ncode ___main___\nif c 1 0\nexit\nend\n")
    ∷ after (codes "code ___main___\nfunctioncall 1\nbreak\nend\n") ∷ [])
    ≡ (Some (fault kinds.Jump 5) ∷ Some (fault kinds.Jump 5) ∷ Some (fault kinds.Jump 5) ∷ [])
unfolding reading r.opened r.headed r.named_from r.declared_from r.symbol_added r.filled_from r.code_read r.op_read r.op_named r.op_of r.range_fault r.closed r.ended told_from words saying is_hint head_at head_words symbol_at symbol_words class_at typed_words metas_at named_at start_at meta_at meta_type_at datum_of op_at op_words code_at is_end type_at length_at value_at numbers_at strings_at text_at string_at values_at decimal_at fx_at int_at int_of fx_of is_decimal decimal_units numerator denominator raising lowering mantissa whole decimals exponent exponent_digits fraction_text magnitude_text digits int_wrap step_of is_allowed
row_18 = refl

-- ---- what is wrong first on a line, and edges of words

row_19 : map (λ text. found (reading text))
    (after (codes "local float a\nlocal float a 1\n")
    ∷ after (codes "param float ___main___ 7.0\n")
    ∷ after (codes "param float a 0\ncode ___main___\nnoise a -1\nend\n")
    ∷ after (codes "local float a\nconst string s \"\"\ncode ___main___\nassign a s\nend\n")
    ∷ after (codes "const int c 1\ncode ___main___\nif c 1\nend\n")
    ∷ after (codes "local int a\nconst int c 1\ncode ___main___\nassign a c 3\nend\n") ∷ [])
    ≡ (Some (fault kinds.Line 4) ∷ Some (fault kinds.Line 3) ∷ Some (fault kinds.Line 5) ∷ Some (fault kinds.Op 6) ∷ Some (fault kinds.Op 5) ∷ Some (fault kinds.Op 6) ∷ [])
unfolding reading r.opened r.headed r.named_from r.declared_from r.symbol_added r.filled_from r.code_read r.op_read r.op_named r.op_of r.range_fault r.closed r.ended told_from words saying is_hint head_at head_words symbol_at symbol_words class_at typed_words metas_at named_at start_at meta_at meta_type_at datum_of op_at op_words code_at is_end type_at length_at value_at numbers_at strings_at text_at string_at values_at decimal_at fx_at int_at int_of fx_of is_decimal decimal_units numerator denominator raising lowering mantissa whole decimals exponent exponent_digits fraction_text magnitude_text digits int_wrap step_of is_allowed
row_19 = refl

row_20 : map (λ text. found (reading text))
    (after (codes "const int c 1\ncode ___main___\nif c 01 2\nend\n")
    ∷ after (codes "const int c 1\ncode ___main___\nif c 1 4294967296\nend\n")
    ∷ after (codes "const int c 1\ncode ___main___\nif c 1 4294967295\nend\n")
    ∷ after (codes "const string s \"\\176\"\n")
    ∷ after (codes "const string s \"" ++ (127 ∷ []) ++ codes "\"\n")
    ∷ after (codes "const int a -0\n") ∷ [])
    ≡ (Some (fault kinds.Line 5) ∷ Some (fault kinds.Line 5) ∷ Some (fault kinds.Jump 5) ∷ Some (fault kinds.Line 3) ∷ Some (fault kinds.Line 3) ∷ Some (fault kinds.Line 3) ∷ [])
unfolding reading r.opened r.headed r.named_from r.declared_from r.symbol_added r.filled_from r.code_read r.op_read r.op_named r.op_of r.range_fault r.closed r.ended told_from words saying is_hint head_at head_words symbol_at symbol_words class_at typed_words metas_at named_at start_at meta_at meta_type_at datum_of op_at op_words code_at is_end type_at length_at value_at numbers_at strings_at text_at string_at values_at decimal_at fx_at int_at int_of fx_of is_decimal decimal_units numerator denominator raising lowering mantissa whole decimals exponent exponent_digits fraction_text magnitude_text digits int_wrap step_of is_allowed
row_20 = refl

row_21 : map (λ text. found (reading text))
    (after (codes "%x{}\ncode ___main___\nend\n")
    ∷ after (codes "code ___main___\nend" ++ (13 ∷ []))
    ∷ (codes "%x{}\nOpenShadingLanguage 1.00\nshader s\n") ∷ [])
    ≡ (Some (fault kinds.Line 3) ∷ Some (fault kinds.Line 4) ∷ Some (fault kinds.Header 1) ∷ [])
unfolding reading r.opened r.headed r.named_from r.declared_from r.symbol_added r.filled_from r.code_read r.op_read r.op_named r.op_of r.range_fault r.closed r.ended told_from words saying is_hint head_at head_words symbol_at symbol_words class_at typed_words metas_at named_at start_at meta_at meta_type_at datum_of op_at op_words code_at is_end type_at length_at value_at numbers_at strings_at text_at string_at values_at decimal_at fx_at int_at int_of fx_of is_decimal decimal_units numerator denominator raising lowering mantissa whole decimals exponent exponent_digits fraction_text magnitude_text digits int_wrap step_of is_allowed
row_21 = refl
