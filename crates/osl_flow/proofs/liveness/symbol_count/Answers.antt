use Rattle.std.proofs.Common.{arith}
use Rattle.osl_flow.proofs.Sections.{valid_at_most}
use Rattle.osl_flow.proofs.liveness.symbol_count.Goals as goal

pub overflow_cast-result : goal.overflow_cast-result
overflow_cast-result c = let h = (valid_at_most c.args.code.now c.requires).symbols in omega (arith, h)
