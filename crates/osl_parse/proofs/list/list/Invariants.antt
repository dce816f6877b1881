use Rattle.std.proofs.Common.{◌≡◌, ◌-◌}
use Rattle.osl_tree.specs.Parser.{listed, listed_from}
use Rattle.osl_parse.proofs.list.list.Given as goal

abbrev pub invariant-loop-turn : goal.invariant-loop-turn
invariant-loop-turn g l = listed (g.T.Listed.reading l.room) l.fn.tokens ≡ listed_from (g.T.Listed.reading l.room) (l._turn-end - l._turn) l.items l.height l.tokens
