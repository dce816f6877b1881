use Rattle.std.proofs.Common.{sym, ◌∙◌}
use Rattle.std.proofs.lemmas.Bool.{cond-true, cond-false}
use Rattle.osl_strops.proofs.Sums.{sum_is}
use Rattle.osl_strops.proofs.matrices.transformed.Goals as goal

pub returns-then-is_point : goal.returns-then-is_point
returns-then-is_point c =
    sum_is _ _ _ _ _ c.add.ensures c.turned-turned.ensures c.element.ensures ∙ sym (cond-true _ _ _ c.if-is_point.true)

pub returns-else-is_point : goal.returns-else-is_point
returns-else-is_point c = c.turned-turned.ensures ∙ sym (cond-false _ _ _ c.if-is_point.false)
