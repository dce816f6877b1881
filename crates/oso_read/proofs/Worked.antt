-- A shader of one parameter, its text, and texts that are near it.
use Rattle.std.proofs.Common.{codes, ◌≡◌, ℕ, pos, List, [], ◌∷◌, ◌++◌, take, Some, None, Ok, Err, map, refl}
use Rattle.std.specs.Fmt.{digits}
use Rattle.osl_decimal.specs.Decimal.{fx_of, is_decimal, whole, mantissa, decimals, exponent, exponent_digits, raising, lowering, numerator, denominator, decimal_units}
use Rattle.osl_decimal.specs.Canonical.{magnitude_text, fraction_text}
use Rattle.osl_value.specs.declared.types.Base.TheVariants.{Float}
use Rattle.osl_value.specs.Types.{only}
use Rattle.oso_code.specs.declared.raw.Raw.{Raw}
use Rattle.osl_value.specs.declared.shader_kind.ShaderKind.TheVariants.{Shader}
use Rattle.oso_code.specs.declared.symbol.Class.TheVariants.{Oparam}
use Rattle.oso_code.specs.Valid.{first_flaw}
use Rattle.oso_write.specs.Lines.{lines_of}
use Rattle.oso_read.specs.declared.error.OsoKind.TheVariants.{Line}
use Rattle.oso_read.specs.Faults.{fault}
use Rattle.osl_valuetext.specs.Splitting.{words}
use Rattle.oso_read.specs.Text.{told, told_from}
use Rattle.oso_read.specs.Hints.{is_hint, saying, said}
use Rattle.osl_valuetext.specs.Literals.{int_at, fx_at, decimal_at, string_at, text_at, numbers_at, strings_at, values_at, value_at}
use Rattle.osl_valuetext.specs.Types.{length_at, type_at}
use Rattle.oso_read.specs.Data.{meta_type_at, datum_of, meta_at}
use Rattle.oso_read.specs.SymbolLine.{head_words, head_at, typed_words, start_at, metas_at, named_at, class_at, symbol_words, symbol_at}
use Rattle.oso_read.specs.OpLine.{op_words, op_at, code_at, is_end}
use Rattle.oso_read.specs.Reading.{headed, named_from, opened, symbol_added, declared_from, code_read, op_named, op_of, op_read, filled_from, range_fault, ended, closed, reading}

-- `shader plain` with the output parameter `r`, which is 7
plain : Raw
plain =
    record {
      kind = Shader;
      name = codes "plain";
      metas = [];
      symbols = record { class = Oparam; ty = only Float; name = codes "r"; value = Some (record { ty = only Float; nums = pos 7000000000 ∷ []; texts = [] }); metas = [] } ∷ [];
      sections = record { param = None; start = 0; end = 0 } ∷ [];
      ops = [];
    }

lines_with : List ℕ → List ℕ
lines_with value =
    codes "OpenShadingLanguage 1.00" ++ 10 ∷ codes "shader plain" ++ 10 ∷ codes "oparam float r " ++ value ++ 10 ∷ codes "code ___main___" ++ 10 ∷ codes "end" ++ 10 ∷ []

plain_is_valid : first_flaw plain ≡ None
unfolding plain first_flaw
plain_is_valid = refl

plain_is_read : reading (lines_with (codes "7")) ≡ Ok plain
unfolding plain lines_with words told_from is_hint saying int_at fx_at decimal_at string_at text_at numbers_at strings_at values_at length_at type_at meta_type_at datum_of meta_at head_words head_at typed_words value_at start_at metas_at named_at class_at symbol_words symbol_at op_words op_at code_at is_end headed named_from opened symbol_added declared_from code_read op_named op_of op_read filled_from range_fault ended closed reading fx_of is_decimal whole mantissa decimals exponent exponent_digits raising lowering numerator denominator decimal_units magnitude_text fraction_text digits
plain_is_read = refl

hint_is_passed_over : reading (lines_with (codes "7 %foo{1}")) ≡ Ok plain
unfolding plain lines_with words told_from is_hint saying int_at fx_at decimal_at string_at text_at numbers_at strings_at values_at length_at type_at meta_type_at datum_of meta_at head_words head_at typed_words value_at start_at metas_at named_at class_at symbol_words symbol_at op_words op_at code_at is_end headed named_from opened symbol_added declared_from code_read op_named op_of op_read filled_from range_fault ended closed reading fx_of is_decimal whole mantissa decimals exponent exponent_digits raising lowering numerator denominator decimal_units magnitude_text fraction_text digits
hint_is_passed_over = refl

other_spelling_is_refused : reading (lines_with (codes "7.0")) ≡ Err (fault Line 3)
unfolding plain lines_with words told_from is_hint saying int_at fx_at decimal_at string_at text_at numbers_at strings_at values_at length_at type_at meta_type_at datum_of meta_at head_words head_at typed_words value_at start_at metas_at named_at class_at symbol_words symbol_at op_words op_at code_at is_end headed named_from opened symbol_added declared_from code_read op_named op_of op_read filled_from range_fault ended closed reading fx_of is_decimal whole mantissa decimals exponent exponent_digits raising lowering numerator denominator decimal_units magnitude_text fraction_text digits
other_spelling_is_refused = refl

plain_is_said : map (λ l. said l.line) (told (lines_with (codes "7"))) ≡ map Some (lines_of plain)
unfolding plain lines_with words told_from is_hint saying magnitude_text fraction_text digits
plain_is_said = refl

-- the first 40 bytes end in `op`
cut_is_refused : reading (take 40 (lines_with (codes "7"))) ≡ Err (fault Line 3)
unfolding plain lines_with words told_from is_hint saying int_at fx_at decimal_at string_at text_at numbers_at strings_at values_at length_at type_at meta_type_at datum_of meta_at head_words head_at typed_words value_at start_at metas_at named_at class_at symbol_words symbol_at op_words op_at code_at is_end headed named_from opened symbol_added declared_from code_read op_named op_of op_read filled_from range_fault ended closed reading fx_of is_decimal whole mantissa decimals exponent exponent_digits raising lowering numerator denominator decimal_units magnitude_text fraction_text digits
cut_is_refused = refl

-- `end` without its line feed
open_end_is_refused : reading (take 74 (lines_with (codes "7"))) ≡ Err (fault Line 6)
unfolding plain lines_with words told_from is_hint saying int_at fx_at decimal_at string_at text_at numbers_at strings_at values_at length_at type_at meta_type_at datum_of meta_at head_words head_at typed_words value_at start_at metas_at named_at class_at symbol_words symbol_at op_words op_at code_at is_end headed named_from opened symbol_added declared_from code_read op_named op_of op_read filled_from range_fault ended closed reading fx_of is_decimal whole mantissa decimals exponent exponent_digits raising lowering numerator denominator decimal_units magnitude_text fraction_text digits
open_end_is_refused = refl
