use Rattle.std.proofs.Common.{◌+◌, drop, length-drop, rules, arith, sym, ap, ◌∙◌}
use Rattle.std.proofs.lemmas.List.{take_all}
use Rattle.osl_decimal.specs.Decimal.{begins_exponent, mantissa, exponent}
use Rattle.osl_decimal.proofs.Splits.{found_at, found_none, some_passes, all_fail}
use Rattle.osl_decimal.proofs.decimal.split_exponent.Goals as goal

pub returns-in-Some-clause-before : goal.returns-in-Some-clause-before
unfolding mantissa
returns-in-Some-clause-before c = search rules

pub returns-in-Some-clause-after : goal.returns-in-Some-clause-after
unfolding exponent
returns-in-Some-clause-after c =
    let text = c.args.text.now in
    let at = found_at begins_exponent text c.in-Some.at (sym c.exponent_place.ensures ∙ c.in-Some.is) in (
      some_passes begins_exponent text (omega (arith, at.0, at.1)),
      take_all _ (drop (c.in-Some.at + 1) text) (omega (arith, length-drop (c.in-Some.at + 1) text))
          ∙ ap (λ i. drop (i + 1) text) (sym at.0),
    )

pub returns-in-None-clause-before : goal.returns-in-None-clause-before
unfolding mantissa
returns-in-None-clause-before c =
    let text = c.args.text.now in
    sym (take_all _ text (found_none begins_exponent text (sym c.exponent_place.ensures ∙ c.in-None.is)))

pub returns-in-None-clause-after : goal.returns-in-None-clause-after
returns-in-None-clause-after c =
    let text = c.args.text.now in
    all_fail begins_exponent text (found_none begins_exponent text (sym c.exponent_place.ensures ∙ c.in-None.is))
