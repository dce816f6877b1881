use Rattle.std.proofs.Common.{◌≡◌, ◌-◌}
use Rattle.osl_tree.specs.Parser.{listed, listed_from}
use Rattle.osl_tree.specs.Reading.{expr}
use Rattle.osl_parse.proofs.expr.Grammar.list.Given as goal

abbrev pub invariant-loop-turn : goal.invariant-loop-turn
invariant-loop-turn g l = listed (expr l.self.room 0) l.fn.tokens ≡ listed_from (expr l.self.room 0) (l._turn-end - l._turn) l.items l.height l.tokens
