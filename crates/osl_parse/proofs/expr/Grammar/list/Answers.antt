use Rattle.std.proofs.Common.{rules, arith}
use Rattle.std.proofs.lemmas.Grind.{common_steps}
use Rattle.osl_tree.specs.Parser.{listed_from}
use Rattle.osl_tree.specs.Reading.{expr}
use Rattle.osl_parse.proofs.Turns.{one_more}
use Rattle.osl_parse.proofs.expr.Grammar.list.Goals as goal

pub returns-then-not-eat : goal.returns-then-not-eat
unfolding listed_from
returns-then-not-eat g c =
    let e = one_more (λ n. listed_from (expr c.args.self.now.room 0) n c.loop-turn.items c.loop-turn.height c.loop-turn.tokens) _ c.loop-turn._turn c.loop-turn-test.true c.loop-turn.invariant in
    first_of (search rules, grind (arith, common_steps))

pub loop-turn-preserved : goal.loop-turn-preserved
unfolding listed_from
loop-turn-preserved g c =
    let e = one_more (λ n. listed_from (expr c.args.self.now.room 0) n c.loop-turn.items c.loop-turn.height c.loop-turn.tokens) _ c.loop-turn._turn c.loop-turn-test.true c.loop-turn.invariant in
    first_of (search rules, grind (arith, common_steps))
