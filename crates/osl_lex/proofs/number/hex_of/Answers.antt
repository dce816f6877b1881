use Rattle.std.proofs.Common.{◌≡◌, ◌+◌, ◌<◌, length, true, Some, sym, ap, subst, ◌∙◌, arith, rules, to_z, w32, FitsSigned}
use Rattle.std.specs.Char.{digit_value, is_ascii_hexdigit}
use Rattle.std.specs.List.{list_all}
use Rattle.std.specs.Str.Parse.{digits_value}
use Rattle.std.proofs.lemmas.Int.{to_z-of_z}
use Rattle.std.proofs.lemmas.List.{take_all}
use Rattle.osl_lex.proofs.Hex.{value_more, each_more, hex_of-large, hex_of-whole}
use Rattle.osl_lex.proofs.number.hex_of.Goals as goal

pub returns-in_err-checked_mul : goal.returns-in_err-checked_mul
returns-in_err-checked_mul c =
    let digits = c.args.digits.now in
    let i = c.loop-digit.digit-index in
    let low : i < length digits = omega arith in
    c.from_residual-in_err-checked_mul.ensures
    ∙ sym (hex_of-large digits (i + 1) (omega (arith, value_more digits i low, c.loop-digit.invariant.value, c.in_err-checked_mul.ensures)))

pub loop-digit-preserved : goal.loop-digit-preserved
loop-digit-preserved c =
    let digits = c.args.digits.now in
    let i = c.loop-digit.digit-index in
    let low : i < length digits = omega arith in
    let digit = c.in_ok-value.ensures.value in
    let read = ap digit_value c.from.ensures in
    record {
      each = each_more digits i low c.loop-digit.invariant.each (omega (arith, digit.0, read));
      value = omega (arith, value_more digits i low, digit.1, read, c.in_ok-bits.ensures, c.in_ok-checked_mul.ensures);
      low = omega (arith, c.in_ok-bits.ensures);
    }

pub returns : goal.returns
returns c =
    let digits = c.args.digits.now in
    let whole = take_all c.loop-digit.digit-index digits (omega arith) in
    let each = subst (λ xs. list_all is_ascii_hexdigit xs ≡ true) whole c.loop-digit.invariant.each in
    let value = c.loop-digit.invariant.value ∙ ap (digits_value 16) whole in
    let fits : FitsSigned w32 c.cast_signed.result = search rules in
    ap Some (to_z-of_z w32 c.cast_signed.result fits ∙ c.cast_signed.ensures ∙ ap (to_z w32) value)
    ∙ sym (hex_of-whole digits (search rules) each (omega (arith, value, c.loop-digit.invariant.low)))
