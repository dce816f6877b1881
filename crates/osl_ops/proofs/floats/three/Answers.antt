use Rattle.std.proofs.Common.{[], ◌∷◌, refl, ◌∙◌, arith}
use Rattle.osl_value.specs.Geometry.{number_at}
use Rattle.osl_value.specs.Numbers.{value_at}
use Rattle.osl_value.specs.Table.{table}
use Rattle.osl_ops.proofs.Components.{written_more, written_all, none_written}
use Rattle.osl_ops.proofs.floats.three.Goals as goal

pub loop-k-init : goal.loop-k-init
loop-k-init c = none_written _ _ _ _ refl

pub loop-k-preserved : goal.loop-k-preserved
loop-k-preserved c =
    let value = c.of_three.ensures ∙ (λ i. value_at (table c.args.op).floats (number_at (c.component.ensures i ∷ c.component-in-loop-k.ensures i ∷ c.component-in-loop-k-2.ensures i ∷ []))) in
    written_more (table c.args.op).floats (c.args.a.now ∷ c.args.b.now ∷ c.args.c.now ∷ []) _ _ _ _ c.loop-k.invariant (omega arith) value

pub returns : goal.returns
returns c = written_all _ _ _ _ _ c.loop-k.invariant (omega arith)
