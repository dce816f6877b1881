use Rattle.std.proofs.Common.{◌≡◌, sym, ap, subst, ◌∙◌, arith, rules, set, w32}
use Rattle.std.proofs.lemmas.Int.{to_z-of_z}
use Rattle.osl_value.specs.declared.types.Base.TheVariants.{Int, Str}
use Rattle.osl_value.specs.AnyValue.{Of, with_element}
use Rattle.osl_value.proofs.SameTypes.{same_base-true}
use Rattle.osl_apply.specs.Elements.{element_value, suits}
use Rattle.osl_apply.proofs.ArrayParts.{counts, nums_by, texts_by, int_written, text_written}
use Rattle.osl_apply.proofs.elements.write_element.Goals as goal

pub returns-in-Int : goal.returns-in-Int
returns-in-Int c =
    let v = c.args.array.now in
    let k = c.args.k in
    let base = same_base-true v.ty.base Int (subst (λ e. suits v.ty.base e ≡ _) c.in-Int.is c.requires.element) in
    let n = nums_by v Int (counts v c.ty-ty.ensures.fits c.requires.array) base in
    let below = c.requires.place in
    ap Of c.set_int.ensures
    ∙ ap (λ x. Of (record v { nums = set v.nums k x })) (to_z-of_z w32 c.in-Int.n (search rules))
    ∙ int_written v k c.in-Int.n base (omega (arith, n, below))
    ∙ ap (λ e. with_element (Of v) k (element_value v.ty.base e)) (sym c.in-Int.is)

pub returns-in-Str : goal.returns-in-Str
returns-in-Str c =
    let v = c.args.array.now in
    let k = c.args.k in
    let base = same_base-true v.ty.base Str (subst (λ e. suits v.ty.base e ≡ _) c.in-Str.is c.requires.element) in
    let n = texts_by v Str (counts v c.ty-ty.ensures.fits c.requires.array) base in
    let below = c.requires.place in
    ap Of c.set_text.ensures
    ∙ text_written v k c.in-Str.text base (omega (arith, n, below))
    ∙ ap (λ e. with_element (Of v) k (element_value v.ty.base e)) (sym c.in-Str.is)
