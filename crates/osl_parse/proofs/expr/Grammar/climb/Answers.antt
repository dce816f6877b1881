use Rattle.std.proofs.Common.{rules, arith}
use Rattle.std.proofs.lemmas.Grind.{common_steps}
use Rattle.osl_tree.specs.Reading.{expr, climb}
use Rattle.osl_parse.proofs.Turns.{one_more}
use Rattle.osl_parse.proofs.expr.Grammar.climb.Goals as goal

pub loop-turn-preserved : goal.loop-turn-preserved
unfolding climb
loop-turn-preserved g c =
    let e = one_more (λ n. climb (expr c.args.self.now.room) c.args.self.now.room n c.args.least c.loop-turn.found c.loop-turn.tokens) _ c.loop-turn._turn c.loop-turn-test.true c.loop-turn.invariant in
    first_of (search rules, grind (arith, common_steps))
