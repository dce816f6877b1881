use Rattle.std.proofs.Common.{◌≡◌, ℕ, List, ◌++◌, take, map}
use Rattle.osl_calls.specs.Lines.{line_of, named_in}
use Rattle.osl_calls.specs.Table.{held}
use Rattle.osl_calls.proofs.table.Table.add_lines.Given as goal

abbrev pub invariant-loop-line : goal.invariant-loop-line
invariant-loop-line l =
    (name : List ℕ) → held l.self name ≡ held l.initial.self name ++ named_in (map line_of (take l.line-index l.lines)) name
