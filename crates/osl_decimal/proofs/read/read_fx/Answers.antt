use Rattle.std.proofs.Common.{◌≡◌, ◌<◌, ◌≤◌, true, false, Some, rules, arith, sym, ap, ◌∙◌}
use Rattle.std.proofs.lemmas.Int.{to_z-of_z}
use Rattle.std.specs.Int.{w64}
use Rattle.osl_value.specs.Numbers.{fmax, saturated}
use Rattle.osl_decimal.specs.Decimal.{has_minus, without_minus, is_decimal, decimal_units, signed}
use Rattle.osl_decimal.proofs.Numbers.{fx_of-no_decimal, fx_of-large, fx_of-number, saturated-signed}
use Rattle.osl_decimal.proofs.read.read_fx.Goals as goal

pub returns-in_err-parse : goal.returns-in_err-parse
returns-in_err-parse c =
    let refused : is_decimal (without_minus c.args.text.now) ≡ false = ap is_decimal (sym c.split_minus-minus.ensures.rest) ∙ sym c.in_err-parse.ensures.some in
    c.from_residual.ensures ∙ sym (fx_of-no_decimal c.args.text.now refused)

pub returns-then-units-gt-LARGEST : goal.returns-then-units-gt-LARGEST
returns-then-units-gt-LARGEST c =
    let units = c.units-units.ensures c.split_minus-minus.result.1.now c.in_ok-parse.ensures.parts in
    let large : fmax < decimal_units (without_minus c.args.text.now) = omega (arith, units, ap decimal_units c.split_minus-minus.ensures.rest) in
    sym (fx_of-large c.args.text.now large)

pub returns : goal.returns
returns c =
    let text = c.args.text.now in
    let rest = c.split_minus-minus.ensures.rest in
    let units = c.units-units.ensures c.split_minus-minus.result.1.now c.in_ok-parse.ensures.parts in
    let exact : c.units-units.result ≡ decimal_units (without_minus text) = omega (arith, units, ap decimal_units rest) in
    let decimal : is_decimal (without_minus text) ≡ true = ap is_decimal (sym rest) ∙ sym c.in_ok-parse.ensures.some in
    let number : c.signed.result ≡ signed (has_minus text) (decimal_units (without_minus text)) = c.signed.ensures ∙ ap (λ minus. signed minus c.units-units.result) c.split_minus-minus.ensures.minus ∙ ap (signed (has_minus text)) exact in
    let small : decimal_units (without_minus text) ≤ fmax = omega arith in
    ap Some (c.from_units.ensures ∙ ap saturated (to_z-of_z w64 c.signed.result (search rules) ∙ number) ∙ saturated-signed (has_minus text) _ small)
    ∙ sym (fx_of-number text decimal small)
