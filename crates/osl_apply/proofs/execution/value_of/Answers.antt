use Rattle.std.proofs.Common.{arith}
use Rattle.osl_apply.specs.Operands.{held_all}
use Rattle.osl_apply.proofs.Counts.{at_most_three}
use Rattle.osl_apply.proofs.Holding.{length_held}
use Rattle.osl_apply.proofs.execution.value_of.Goals as goal

pub unreachable-requires : goal.unreachable-requires
unreachable-requires c =
    let few = at_most_three c.args.name c.args.ty (held_all c.args.slots.now c.args.sources.now) c.requires.no_matrix c.requires.takes in
    let n = length_held c.args.slots.now c.args.sources.now in
    let many = c.in_default.len_at_least in
    omega (arith, few, n, many)
