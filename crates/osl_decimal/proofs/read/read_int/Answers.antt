use Rattle.std.proofs.Common.{◌≡◌, ◌<◌, ◌≤◌, ℤ, true, false, Some, arith, sym, subst, ap, ◌∙◌, rules}
use Rattle.std.proofs.lemmas.Int.{to_z-of_z}
use Rattle.std.specs.Int.{w32, w64}
use Rattle.std.specs.Int.RustNames.{FitsSigned}
use Rattle.std.specs.Str.Parse.{digits_value}
use Rattle.osl_decimal.specs.Decimal.{has_minus, without_minus, is_numeral, int_limit, signed}
use Rattle.osl_decimal.proofs.Numbers.{int_of-no_numeral, int_of-large, int_of-number, int_limit-le, signed-fits}
use Rattle.osl_decimal.proofs.read.read_int.Goals as goal
use mir.Val.{of_z, to_z}

pub returns-then-not-is_numeral : goal.returns-then-not-is_numeral
returns-then-not-is_numeral c =
    let refused : is_numeral (without_minus c.args.text.now) ≡ false = ap is_numeral (sym c.split_minus-minus.ensures.rest) ∙ sym c.is_numeral.ensures ∙ c.if-not-is_numeral.true in
    sym (int_of-no_numeral c.args.text.now refused)

pub returns-then-number-int_limit : goal.returns-then-number-int_limit
returns-then-number-int_limit c =
    let value = ap (digits_value 10) c.split_minus-minus.ensures.rest in
    let limit = ap int_limit c.split_minus-minus.ensures.minus in
    let large : int_limit (has_minus c.args.text.now) < digits_value 10 (without_minus c.args.text.now) = omega (arith, value, limit) in
    sym (int_of-large c.args.text.now large)

pub returns : goal.returns
returns c =
    let text = c.args.text.now in
    let minus = c.split_minus-minus.ensures.minus in
    let rest = c.split_minus-minus.ensures.rest in
    let value = ap (digits_value 10) rest in
    let limit = ap int_limit minus in
    let bound = int_limit-le (has_minus text) in
    let exact : c.append_digits-number.result ≡ digits_value 10 (without_minus text) = omega (arith, value, limit, bound) in
    let numeral : is_numeral (without_minus text) ≡ true = ap is_numeral (sym rest) ∙ sym c.is_numeral.ensures ∙ c.if-not-is_numeral.false in
    let small : digits_value 10 (without_minus text) ≤ int_limit (has_minus text) = omega (arith, value, limit, bound) in
    let number : c.signed.result ≡ signed (has_minus text) (digits_value 10 (without_minus text)) = c.signed.ensures ∙ ap (λ m. signed m c.append_digits-number.result) minus ∙ ap (signed (has_minus text)) exact in
    let fits : FitsSigned w32 c.signed.result = let P : ℤ → Type 0 = FitsSigned w32 in subst P (sym number) (signed-fits (has_minus text) _ small) in
    ap Some (ap (λ z. to_z w32 (of_z w32 z)) (to_z-of_z w64 c.signed.result (search rules)) ∙ to_z-of_z w32 c.signed.result fits ∙ number)
    ∙ sym (int_of-number text numeral small)
