use Rattle.std.proofs.Common.{◌∙◌}
use Rattle.osl_decimal.proofs.Numerals.{stopped_power}
use Rattle.osl_decimal.proofs.digits.power_of_ten.Goals as goal

pub returns : goal.returns
returns c =
    c.unwrap_or.ensures ∙ stopped_power c.args.exponent _ (rw c.min.ensures at c.checked_pow.ensures)
