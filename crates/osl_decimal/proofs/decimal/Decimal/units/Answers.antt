use Rattle.std.proofs.Common.{◌≡◌, ◌++◌, ◌+◌, ◌-◌, ◌*◌, ◌^◌, min, Bool, true, false, cond, leb, length, length-append, take, refl, ap, ◌∙◌, arith}
use Rattle.std.proofs.lemmas.List.{take_all}
use Rattle.std.specs.Str.Parse.{digits_value}
use Rattle.osl_decimal.proofs.Numerals.{stopped_product}
use Rattle.osl_decimal.proofs.Units.{parts-away, parts-down, parts-up}
use Rattle.osl_decimal.proofs.decimal.Decimal.units.Goals as goal
use mir.Val.{bool_byte}

byte_is : (b : Bool) → bool_byte b ≡ cond b 1 0
byte_is true = refl
byte_is false = refl

pub returns-in_default : goal.returns-in_default
returns-in_default c text parts =
    let none = parts-away text c.args.self.now parts c.in_default.ensures.none.0 c.in_default.ensures.none.1 in
    omega (arith, none)

pub returns-then-kept-count : goal.returns-then-kept-count
returns-then-kept-count c text parts =
    let down = parts-down text c.args.self.now c.in-Some.kept parts c.in-Some.ensures.some c.if-kept-count.true in
    let up = c.from.ensures ∙ byte_is _ ∙ ap (λ digit. cond (leb 53 digit) 1 0) c.digit-rounds_up.ensures in
    omega (arith, down, up)

pub returns-else-kept-count : goal.returns-else-kept-count
returns-else-kept-count c text parts =
    let digits = c.args.self.now.whole.now ++ c.args.self.now.decimals.now in
    let count = length c.args.self.now.whole.now + length c.args.self.now.decimals.now in
    let top = 2 ^ 64 - 1 in
    let all : take count digits ≡ digits = take_all count digits (omega (arith, length-append c.args.self.now.whole.now c.args.self.now.decimals.now)) in
    let front : c.front-else-kept-count.result ≡ min (digits_value 10 digits) top = c.front-else-kept-count.ensures ∙ ap (λ xs. min (digits_value 10 xs) top) all in
    c.saturating_mul.ensures
    ∙ ap (λ n. min (n * c.power_of_ten.result) top) front
    ∙ ap (λ n. min (min (digits_value 10 digits) top * n) top) c.power_of_ten.ensures
    ∙ stopped_product top (digits_value 10 digits) (10 ^ (c.in-Some.kept - count))
    ∙ parts-up text c.args.self.now c.in-Some.kept parts c.in-Some.ensures.some c.if-kept-count.false
