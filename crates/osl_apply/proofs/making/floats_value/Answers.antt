use Rattle.std.proofs.Common.{length, sym, ap, ◌∙◌, arith}
use Rattle.osl_value.specs.declared.types.Ty.{Ty}
use Rattle.osl_value.specs.AnyValue.{Of, with_items_at}
use Rattle.osl_value.specs.Plain.{Plain, zero_of}
use Rattle.osl_value.specs.Types.{number_count}
use Rattle.osl_apply.proofs.ArrayParts.{floats_whole, float_base, zero_length}
use Rattle.osl_apply.proofs.making.floats_value.Goals as goal

pub write_floats-requires-clause-floats : goal.write_floats-requires-clause-floats
write_floats-requires-clause-floats c = λ e. float_base c.args.base c.requires.floats (sym (ap (λ v. v.ty.base) c.in_ok-value.ensures ∙ ap (λ (t : Ty). t.base) c.only.ensures) ∙ e)

pub write_floats-requires-clause-within : goal.write_floats-requires-clause-within
write_floats-requires-clause-within c =
    let n = ap (λ v. length v.nums) c.in_ok-value.ensures ∙ zero_length c.only.result in
    let m = c.requires.count in
    let e = ap (λ t. number_count t) c.only.ensures in
    omega (arith, n, m, e)

pub returns : goal.returns
returns c =
    let xs = c.args.floats.now in
    let value_is = c.in_ok-value.ensures ∙ ap zero_of c.only.ensures in
    ap Of c.write_floats.ensures
    ∙ ap (λ (v : Plain). Of (record v { nums = with_items_at (length xs) 0 xs v.nums })) value_is
    ∙ floats_whole c.args.base xs c.requires.floats c.requires.count
