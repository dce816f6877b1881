use Rattle.osl_calls.proofs.Tables.{has_lines, none_declared}
use Rattle.osl_calls.proofs.functions.Functions.new.Goals as goal

pub invariant_of-result : goal.invariant_of-result
invariant_of-result c = has_lines c.new-table.result c.add_lines.new.self c.new-table.ensures (λ name. c.in_ok-add_lines.ensures name)

pub returns : goal.returns
returns c = none_declared c.new-table.result c.add_lines.new.self c.new-table.ensures (λ name. c.in_ok-add_lines.ensures name)
