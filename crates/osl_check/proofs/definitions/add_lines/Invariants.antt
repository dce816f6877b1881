use Rattle.std.proofs.Common.{◌≡◌, drop}
use Rattle.osl_typed.specs.FileTyping.{lines_added}
use Rattle.osl_check.proofs.definitions.add_lines.Given as goal

abbrev pub invariant-loop-line : goal.invariant-loop-line
invariant-loop-line l = lines_added l.structures (drop l.line-index l.lines) l.fields ≡ lines_added l.structures l.lines l.initial.fields
