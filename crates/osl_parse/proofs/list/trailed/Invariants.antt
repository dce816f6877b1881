use Rattle.std.proofs.Common.{◌≡◌, ◌-◌}
use Rattle.osl_tree.specs.Parser.{trailed, trailed_from}
use Rattle.osl_parse.proofs.list.trailed.Given as goal

abbrev pub invariant-loop-turn : goal.invariant-loop-turn
invariant-loop-turn g l = trailed l.close (g.T.Listed.reading l.room) l.fn.tokens ≡ trailed_from l.close (g.T.Listed.reading l.room) (l._turn-end - l._turn) l.items l.height l.tokens
