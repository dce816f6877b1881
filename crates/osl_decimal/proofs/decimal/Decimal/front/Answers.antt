use Rattle.std.proofs.Common.{◌-◌, ◌^◌, min, take, ap, ◌∙◌}
use Rattle.std.specs.Str.Parse.{digits_value, digits_value_after}
use Rattle.osl_decimal.proofs.Numerals.{digits-take, stopped_start, value-take_parts}
use Rattle.osl_decimal.proofs.decimal.Decimal.front.Goals as goal

pub append_digits-number-requires : goal.append_digits-number-requires
append_digits-number-requires c =
    digits-take c.min-of_whole.result c.args.self.now.whole.now c.args.self.now.whole_digits

pub append_digits-requires : goal.append_digits-requires
append_digits-requires c =
    digits-take (c.args.count - c.min-of_whole.result) c.args.self.now.decimals.now c.args.self.now.decimal_digits

pub returns : goal.returns
returns c =
    let whole = c.args.self.now.whole.now in
    let decimals = c.args.self.now.decimals.now in
    let count = c.args.count in
    let top = 2 ^ 64 - 1 in
    let rest = take (count - c.min-of_whole.result) decimals in
    c.append_digits.ensures
    ∙ ap (λ n. min (digits_value_after 10 n rest) top) c.append_digits-number.ensures
    ∙ stopped_start top (digits_value 10 (take c.min-of_whole.result whole)) rest
    ∙ ap (λ i. min (digits_value_after 10 (digits_value 10 (take i whole)) (take (count - i) decimals)) top) c.min-of_whole.ensures
    ∙ ap (λ v. min v top) (value-take_parts whole decimals count c.requires)
