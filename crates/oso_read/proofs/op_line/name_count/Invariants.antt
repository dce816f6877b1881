use Rattle.std.proofs.Common.{◌≡◌, ◌+◌, drop}
use Rattle.std.specs.List.{prefix_len}
use Rattle.oso_code.specs.Names.{is_name}
use Rattle.osl_valuetext.specs.Scan.{spoken}
use Rattle.oso_read.proofs.op_line.name_count.Given as goal

abbrev pub invariant-loop-at : goal.invariant-loop-at
invariant-loop-at l = l.at + prefix_len is_name (spoken (drop l.at l.words)) ≡ prefix_len is_name (spoken l.words)
