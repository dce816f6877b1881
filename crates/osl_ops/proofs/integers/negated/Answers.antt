use Rattle.std.proofs.Common.{neg_ℤ, ap, ◌∙◌}
use Rattle.std.specs.Int.{w32, int_wrapping_neg}
use Rattle.std.proofs.lemmas.Int.{to_z-of_z, wrapping_neg_is}
use Rattle.osl_ops.proofs.Wrapping.{read_back}
use Rattle.osl_ops.proofs.integers.negated.Goals as goal

pub returns : goal.returns
returns c =
    let same = to_z-of_z w32 c.args.a c.ranges.a in
    read_back _ (neg_ℤ c.args.a) (c.wrapping_neg.ensures ∙ ap (int_wrapping_neg w32) same ∙ wrapping_neg_is w32 c.args.a c.ranges.a)
