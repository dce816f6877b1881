use Rattle.std.proofs.Common.{◌≡◌, ◌-◌, [], length}
use Rattle.osl_tree.specs.FileReading.{fields_from}
use Rattle.osl_parse.proofs.file.fields.Given as goal

abbrev pub invariant-loop-turn : goal.invariant-loop-turn
invariant-loop-turn l = fields_from (length l.fn.tokens) [] 1 l.fn.tokens ≡ fields_from (l._turn-end - l._turn) l.fields l.height l.tokens
