use Rattle.oso_tests.proofs.runs.ended.Given as goal

abbrev pub ghosts-counted-L-Ledger : goal.ghosts-counted-L-Ledger
ghosts-counted-L-Ledger a = record { name = a.layers.name; parts = a.layers.parts }

abbrev pub ghosts-counted-M-Ledger : goal.ghosts-counted-M-Ledger
ghosts-counted-M-Ledger a = record { name = a.ops.name; parts = a.ops.parts }
