use Rattle.std.proofs.Common.{◌≡◌, drop}
use Rattle.osl_lex.specs.Scan.{run_end}
use Rattle.osl_lex.proofs.scan.number_len.Given as goal

abbrev pub invariant-loop-at : goal.invariant-loop-at
invariant-loop-at l = run_end l.hex l.at l.before (drop l.at l.bytes) ≡ run_end l.hex 0 0 l.bytes
