use Rattle.std.proofs.Common.{false, replicate, ap, ◌∙◌}
use Rattle.osl_bits.specs.Row.{union}
use Rattle.osl_flow.proofs.Begin.{union_none}
use Rattle.osl_flow.proofs.liveness.copy_row.Goals as goal

pub returns : goal.returns
returns c =
    c.union_with.ensures.bits ∙ ap (λ copy. union copy c.args.row.now) (c.in_ok-copy.ensures ∙ ap (λ n. replicate n false) c.length.ensures) ∙ union_none c.args.row.now
