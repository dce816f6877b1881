use Rattle.std.proofs.Common.{arith}
use Rattle.osl_decimal.proofs.Numerals.{digit_in_range, digit_value_is, value_after_more}
use Rattle.osl_valuetext.proofs.number.digits_value.Goals as goal

pub loop-digit-preserved : goal.loop-digit-preserved
loop-digit-preserved c =
    let digits = c.args.digits.now in
    let place = c.loop-digit.digit-index in
    let more = value_after_more 0 digits place (omega arith) in
    let digit = digit_value_is _ (digit_in_range digits place c.requires (omega arith)) in
    omega (arith, more, digit)
