use Rattle.std.proofs.Common.{◌≡◌, ◌/◌, ◌∷◌, ◌++◌, drop, pos, nat_abs, sym, ap, ◌∙◌, arith, rules}
use Rattle.std.proofs.lemmas.Int.{to_z-of_z}
use Rattle.std.specs.Fmt.{decimal}
use Rattle.std.specs.Int.{w64}
use Rattle.std.specs.Prelude.{int_lt}
use Rattle.osl_value.specs.Numbers.{scale}
use Rattle.osl_decimal.specs.Canonical.{magnitude_text}
use Rattle.osl_decimal.proofs.Texts.{length-whole-le, magnitude_text_is, fx_text-minus, fx_text-plain}
use Rattle.osl_decimal.proofs.write.FxText.of.Goals as goal
use Rattle.osl_decimal.proofs.write.FxText.of.Goals.{then-units-lt0, else-units-lt0}

pub write_digits-start-requires : goal.write_digits-start-requires
write_digits-start-requires c =
    let x_is = to_z-of_z w64 c.units-units.result (search rules) ∙ c.units-units.ensures.value in
    let magnitude = c.unsigned_abs-magnitude.ensures.value ∙ ap nat_abs x_is in
    let few = length-whole-le c.unsigned_abs-magnitude.result (omega (arith, magnitude)) in
    (omega arith, omega arith)

pub put_before-start-requires-clause-some : goal.put_before-start-requires-clause-some
put_before-start-requires-clause-some c =
    let x_is = to_z-of_z w64 c.units-units.result (search rules) ∙ c.units-units.ensures.value in
    let magnitude = c.unsigned_abs-magnitude.ensures.value ∙ ap nat_abs x_is in
    let few = length-whole-le c.unsigned_abs-magnitude.result (omega (arith, magnitude)) in
    omega arith

pub returns : goal.returns
returns c =
    let x_is = to_z-of_z w64 c.units-units.result (search rules) ∙ c.units-units.ensures.value in
    let whole = c.unsigned_abs-magnitude.result / scale in
    let text : drop c.write_digits-start.result c.write_digits-start.new.buf ≡ magnitude_text (nat_abs c.args.x) =
    c.write_digits-start.ensures.written
    ∙ ap (λ rest. decimal whole ++ rest) c.write_fraction-point.ensures.written
    ∙ magnitude_text_is c.unsigned_abs-magnitude.result
    ∙ ap magnitude_text (c.unsigned_abs-magnitude.ensures.value ∙ ap nat_abs x_is) in
    elim c.if-units-lt0.branch [
      | then-units-lt0 w ↦
          rw (w.start-is, w.bytes-is)
          (w.put_before-start.ensures.written
          ∙ ap (λ rest. 45 ∷ rest) text
          ∙ sym (fx_text-minus c.args.x (ap (λ x. int_lt x (pos 0)) (sym x_is) ∙ w.if-units-lt0.true)))
      | else-units-lt0 w ↦
          rw (w.start-is, w.bytes-is)
          (text ∙ sym (fx_text-plain c.args.x (ap (λ x. int_lt x (pos 0)) (sym x_is) ∙ w.if-units-lt0.false)))
    ]
