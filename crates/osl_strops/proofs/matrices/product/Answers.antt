use Rattle.osl_strops.proofs.Sums.{sum_is, product_is}
use Rattle.osl_strops.proofs.matrices.product.Goals as goal

pub returns : goal.returns
returns c =
    let first = product_is _ _ _ _ _ c.mul-first.ensures c.element.ensures c.element-2.ensures in
    let second = product_is _ _ _ _ _ c.mul-second.ensures c.element-3.ensures c.element-4.ensures in
    let third = product_is _ _ _ _ _ c.mul-third.ensures c.element-5.ensures c.element-6.ensures in
    let fourth = product_is _ _ _ _ _ c.mul-fourth.ensures c.element-7.ensures c.element-8.ensures in
    sum_is _ _ _ _ _ c.add-3.ensures (sum_is _ _ _ _ _ c.add-2.ensures (sum_is _ _ _ _ _ c.add.ensures first second) third) fourth
