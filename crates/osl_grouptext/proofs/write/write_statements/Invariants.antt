use Rattle.std.proofs.Common.{◌≡◌, ◌++◌, take}
use Rattle.std.specs.List.{flat_map}
use Rattle.osl_grouptext.specs.Canon.{statement_text}
use Rattle.osl_grouptext.proofs.write.write_statements.Given as goal

abbrev pub invariant-loop-statement : goal.invariant-loop-statement
invariant-loop-statement l = l.out.items ≡ l.fn.out.items ++ flat_map statement_text (take l.statement-index l.list)
