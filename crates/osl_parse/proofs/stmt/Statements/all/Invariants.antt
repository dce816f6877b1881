use Rattle.std.proofs.Common.{◌≡◌, ◌-◌, [], length}
use Rattle.osl_tree.specs.StatementReading.{stmt, stmts_from}
use Rattle.osl_parse.proofs.stmt.Statements.all.Given as goal

abbrev pub invariant-loop-turn : goal.invariant-loop-turn
invariant-loop-turn g l =
    stmts_from (stmt l.self.room) l.self.room (length l.fn.tokens) [] 1 l.fn.tokens ≡ stmts_from (stmt l.self.room) l.self.room (l._turn-end - l._turn) l.all l.height l.tokens
