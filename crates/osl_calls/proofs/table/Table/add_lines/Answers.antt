use Rattle.std.proofs.Common.{arith}
use Rattle.osl_calls.specs.Table.{held}
use Rattle.osl_calls.proofs.Tables.{no_lines, more_lines}
use Rattle.osl_calls.proofs.table.Table.add_lines.Goals as goal

pub loop-line-init : goal.loop-line-init
loop-line-init c = λ name. no_lines name (held c.args.self.now name)

pub loop-line-preserved : goal.loop-line-preserved
loop-line-preserved c = λ name.
    more_lines name c.args.lines.now c.loop-line.line-index _ (held c.args.self.now name) (held c.loop-line.self name) (held c.add_line.new.self name) (omega arith) (c.loop-line.invariant name) (c.in_ok-add_line.ensures name)
