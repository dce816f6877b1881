use Rattle.std.proofs.Common.{sym, ◌∙◌, lit<}
use Rattle.std.proofs.lemmas.Bool.{false≢true}
use Rattle.osl_part_tests.proofs.execution.on_vectors.Goals as goal

pub execute-requires-clause-places : goal.execute-requires-clause-places
execute-requires-clause-places c = (lit< tt, (lit< tt, tt))

pub execute-requires-clause-takes : goal.execute-requires-clause-takes
execute-requires-clause-takes c = c.requires.takes

pub execute-requires-clause-updates : goal.execute-requires-clause-updates
execute-requires-clause-updates c = λ e. absurd (false≢true (sym c.requires.reads ∙ e))
