use Rattle.std.proofs.Common.{◌≡◌, ◌-◌, ◌+◌}
use Rattle.osl_tree.specs.Reading.{expr, climb}
use Rattle.osl_parse.proofs.expr.Grammar.climb.Given as goal

abbrev pub invariant-loop-turn : goal.invariant-loop-turn
invariant-loop-turn g l = climb (expr l.self.room) l.self.room (l.self.room + 1) l.least l.fn.first l.fn.tokens ≡ climb (expr l.self.room) l.self.room (l._turn-end - l._turn) l.least l.found l.tokens
