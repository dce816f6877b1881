use Rattle.std.proofs.Common.{◌∙◌, sym, arith}
use Rattle.osl_value.specs.AnyValue.{items_at}
use Rattle.osl_apply.proofs.Values.{same_items, item_of, length_items}
use Rattle.osl_apply.proofs.plain.matrix_at.Goals as goal

pub returns : goal.returns
returns c =
    same_items 16 c.loop-k.matrix (items_at 16 c.args.from c.args.value.now.nums) c.loop-k.invariant.count (length_items c.args.value.now.nums 16 c.args.from c.requires.within)
    (λ j below. c.loop-k.invariant.filled j (omega arith) ∙ sym (item_of c.args.value.now.nums 16 c.args.from j below))
