use Rattle.std.proofs.Common.{◌≡◌, ◌-◌}
use Rattle.osl_tree.specs.Reading.{expr, postfix, postfix_from}
use Rattle.osl_parse.proofs.expr.Grammar.postfix.Given as goal

abbrev pub invariant-loop-turn : goal.invariant-loop-turn
invariant-loop-turn g l = postfix (expr l.self.room) l.self.room l.fn.tokens ≡ postfix_from (expr l.self.room) l.self.room (l._turn-end - l._turn) l.found l.tokens
