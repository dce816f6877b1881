use Rattle.std.proofs.Common.{◌≡◌, Bool, true, None, Some, Option, cond, sym, ap, ◌∙◌, rules}
use Rattle.std.specs.Prelude.{option_map}
use Rattle.osl_value.specs.Plain.{Plain}
use Rattle.osl_valuetext.specs.Literals.{Values, is_plain_type, value_of, values_at, value_at, text_at}
use Rattle.osl_valuetext.specs.Scan.{spoken}
use Rattle.osl_valuetext.proofs.Plains.{values_are_plain}
use Rattle.osl_valuetext.proofs.values.read_value.Goals as goal

pub returns-in-Some : goal.returns-in-Some
unfolding value_at
returns-in-Some c =
    let ty = c.args.ty in
    let has : is_plain_type ty ≡ true = search rules in
    ap (λ (b : Bool). cond b (option_map (value_of ty) (values_at c.args.spelling text_at ty (spoken c.args.words.now))) None) has
    ∙ ap (λ (v : Option Values). option_map (value_of ty) v) c.in_ok-nums.ensures ∙ ap (λ (v : Plain). Some v) (sym c.in-Some.ensures.value)

pub returns-in-None : goal.returns-in-None
returns-in-None c =
    let ty = c.args.ty in
    let has : is_plain_type ty ≡ true = search rules in
    let fits = c.in-None.ensures.fits.1 (values_are_plain c.args.spelling ty (spoken c.args.words.now) _ has c.in_ok-nums.ensures) in
    absurd cc
