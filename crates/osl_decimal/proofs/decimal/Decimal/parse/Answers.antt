use Rattle.std.proofs.Common.{sym, ap, ◌∙◌}
use Rattle.osl_decimal.specs.Decimal.{has_minus, is_numeral}
use Rattle.osl_decimal.proofs.Forms.{whole_is, decimals_is, numeral_is, exponent_digits_is, exponent_digits-none, sign-none, is_decimal-no_digits, is_decimal-plain, is_decimal-exponent}
use Rattle.osl_decimal.proofs.decimal.Decimal.parse.Goals as goal

pub returns-then-not-are_numeral-clause-some : goal.returns-then-not-are_numeral-clause-some
returns-then-not-are_numeral-clause-some c =
    let text = c.args.text.now in
    let same = numeral_is text _ _ _ c.split_exponent.ensures.before c.split_point.ensures.before c.split_point.ensures.after in
    sym (is_decimal-no_digits text (sym same ∙ sym c.are_numeral.ensures ∙ c.if-not-are_numeral.true))

pub returns-in_default-clause-some : goal.returns-in_default-clause-some
returns-in_default-clause-some c =
    let text = c.args.text.now in
    let same = numeral_is text _ _ _ c.split_exponent.ensures.before c.split_point.ensures.before c.split_point.ensures.after in
    sym (is_decimal-plain text (sym same ∙ sym c.are_numeral.ensures ∙ c.if-not-are_numeral.false) (rw c.in_default.is at c.split_exponent.ensures.after))

pub returns-in_default-clause-parts : goal.returns-in_default-clause-parts
returns-in_default-clause-parts c =
    let text = c.args.text.now in
    let none = rw c.in_default.is at c.split_exponent.ensures.after in
    record {
      whole_is = c.split_point.ensures.before ∙ whole_is text _ c.split_exponent.ensures.before;
      decimals_is = c.split_point.ensures.after ∙ decimals_is text _ c.split_exponent.ensures.before;
      divides_is = sym (sign-none text none);
      exponent_is = sym (exponent_digits-none text none);
    }

pub returns-then-not-is_numeral-clause-some : goal.returns-then-not-is_numeral-clause-some
returns-then-not-is_numeral-clause-some c =
    let text = c.args.text.now in
    let same = numeral_is text _ _ _ c.split_exponent.ensures.before c.split_point.ensures.before c.split_point.ensures.after in
    let some = rw c.in-Some.is at c.split_exponent.ensures.after in
    let digits = c.split_sign-divides.ensures.digits ∙ exponent_digits_is text _ some.1 in
    sym (is_decimal-exponent text (sym same ∙ sym c.are_numeral.ensures ∙ c.if-not-are_numeral.false) some.0 ∙ ap is_numeral (sym digits) ∙ sym c.is_numeral.ensures ∙ c.if-not-is_numeral.true)

pub returns-clause-some : goal.returns-clause-some
returns-clause-some c =
    let text = c.args.text.now in
    let same = numeral_is text _ _ _ c.split_exponent.ensures.before c.split_point.ensures.before c.split_point.ensures.after in
    let some = rw c.in-Some.is at c.split_exponent.ensures.after in
    let digits = c.split_sign-divides.ensures.digits ∙ exponent_digits_is text _ some.1 in
    sym (is_decimal-exponent text (sym same ∙ sym c.are_numeral.ensures ∙ c.if-not-are_numeral.false) some.0 ∙ ap is_numeral (sym digits) ∙ sym c.is_numeral.ensures ∙ c.if-not-is_numeral.false)

pub returns-clause-parts : goal.returns-clause-parts
returns-clause-parts c =
    let text = c.args.text.now in
    let some = rw c.in-Some.is at c.split_exponent.ensures.after in
    record {
      whole_is = c.split_point.ensures.before ∙ whole_is text _ c.split_exponent.ensures.before;
      decimals_is = c.split_point.ensures.after ∙ decimals_is text _ c.split_exponent.ensures.before;
      divides_is = c.split_sign-divides.ensures.minus ∙ ap has_minus some.1;
      exponent_is = c.split_sign-divides.ensures.digits ∙ exponent_digits_is text _ some.1;
    }
