use Rattle.std.proofs.Common.{◌≡◌, ◌∙◌, ap, sym, arith, Some}
use Rattle.std.specs.Str.Parse.{digits_value, without_leading_plus}
use Rattle.osl_words.proofs.Numbers.{number_in-some, number_in-none}
use Rattle.osl_words.proofs.arguments.number_in.Goals as goal

pub returns-then-number-most : goal.returns-then-number-most
returns-then-number-most c =
    let is : c.in-Ok.number ≡ digits_value 10 (without_leading_plus c.args.text.now) = c.in-Ok.ensures.value.0.1 in
    ap Some is ∙ sym (number_in-some c.args.least c.args.most c.args.text.now (c.in-Ok.ensures.value.0.0.0, omega (arith, c.in-Ok.ensures.value.0.0.1), omega arith, omega arith))

pub returns-in-Err : goal.returns-in-Err
returns-in-Err c = sym (number_in-none c.args.least c.args.most c.args.text.now (λ a. c.in-Err.ensures.value.0 (a.0, omega (arith, a.3, c.ranges.most))))
