use Rattle.osl_strops.proofs.Sums.{sum_is, product_is}
use Rattle.osl_strops.proofs.matrices.turned.Goals as goal

pub returns : goal.returns
returns c =
    let first = product_is _ _ _ _ _ c.mul-first.ensures c.component.ensures c.element.ensures in
    let second = product_is _ _ _ _ _ c.mul-second.ensures c.component-2.ensures c.element-2.ensures in
    let third = product_is _ _ _ _ _ c.mul-third.ensures c.component-3.ensures c.element-3.ensures in
    sum_is _ _ _ _ _ c.add-2.ensures (sum_is _ _ _ _ _ c.add.ensures first second) third
