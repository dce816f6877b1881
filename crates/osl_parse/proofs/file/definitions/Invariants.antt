use Rattle.std.proofs.Common.{◌≡◌, ◌-◌, [], length}
use Rattle.osl_tree.specs.FileReading.{definitions_from}
use Rattle.osl_parse.proofs.file.definitions.Given as goal

abbrev pub invariant-loop-turn : goal.invariant-loop-turn
invariant-loop-turn l = definitions_from l.room (length l.fn.tokens) ([], 1) l.fn.tokens ≡ definitions_from l.room (l._turn-end - l._turn) (l.found, l.height) l.tokens
