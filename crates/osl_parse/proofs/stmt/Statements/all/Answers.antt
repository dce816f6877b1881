use Rattle.std.proofs.Common.{rules, arith}
use Rattle.std.proofs.lemmas.Grind.{common_steps}
use Rattle.osl_tree.specs.StatementReading.{stmt, stmts_from}
use Rattle.osl_parse.proofs.Turns.{one_more, no_more}
use Rattle.osl_parse.proofs.stmt.Statements.all.Goals as goal

pub loop-turn-preserved : goal.loop-turn-preserved
unfolding stmts_from
loop-turn-preserved g c =
    let e = one_more (λ n. stmts_from (stmt c.args.self.now.room) c.args.self.now.room n c.loop-turn.all c.loop-turn.height c.loop-turn.tokens) _ c.loop-turn._turn c.loop-turn-test.true c.loop-turn.invariant in
    first_of (search rules, grind (arith, common_steps))

pub returns-then-eat : goal.returns-then-eat
unfolding stmts_from
returns-then-eat g c =
    let e = one_more (λ n. stmts_from (stmt c.args.self.now.room) c.args.self.now.room n c.loop-turn.all c.loop-turn.height c.loop-turn.tokens) _ c.loop-turn._turn c.loop-turn-test.true c.loop-turn.invariant in
    first_of (search rules, grind (arith, common_steps))

pub returns-in_err-item : goal.returns-in_err-item
unfolding stmts_from
returns-in_err-item g c =
    let e = one_more (λ n. stmts_from (stmt c.args.self.now.room) c.args.self.now.room n c.loop-turn.all c.loop-turn.height c.loop-turn.tokens) _ c.loop-turn._turn c.loop-turn-test.true c.loop-turn.invariant in
    first_of (search rules, grind (arith, common_steps))

pub returns : goal.returns
unfolding stmts_from
returns g c =
    let e = no_more (λ n. stmts_from (stmt c.args.self.now.room) c.args.self.now.room n c.loop-turn.all c.loop-turn.height c.loop-turn.tokens) _ c.loop-turn._turn c.loop-turn-test.false c.loop-turn.invariant in
    first_of (search rules, grind (arith, common_steps))
