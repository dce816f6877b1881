use Rattle.std.proofs.Common.{◌≡◌, ℕ, List, [], ◌∷◌, ◌++◌, take, map}
use Rattle.osl_calls.specs.Lines.{signature_of, named_in}
use Rattle.osl_calls.specs.Table.{held}
use Rattle.osl_calls.proofs.Tables.{line_with}
use Rattle.osl_calls.proofs.table.Table.add_line.Given as goal

abbrev pub invariant-loop-takes : goal.invariant-loop-takes
invariant-loop-takes l =
    (name : List ℕ) → held l.self name ≡ held l.initial.self name ++ named_in (line_with (l.line.0).now l.line.1 (map signature_of (take l.takes-index (l.line.2).now)) ∷ []) name
