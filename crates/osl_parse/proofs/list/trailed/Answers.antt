use Rattle.std.proofs.Common.{rules, arith}
use Rattle.std.proofs.lemmas.Grind.{common_steps}
use Rattle.osl_tree.specs.Parser.{trailed_from}
use Rattle.osl_parse.proofs.Turns.{one_more}
use Rattle.osl_parse.proofs.list.trailed.Goals as goal

pub loop-turn-preserved : goal.loop-turn-preserved
unfolding trailed_from
loop-turn-preserved g c =
    let e = one_more (λ n. trailed_from c.args.close (g.T.Listed.reading c.args.room) n c.loop-turn.items c.loop-turn.height c.loop-turn.tokens) _ c.loop-turn._turn c.loop-turn-test.true c.loop-turn.invariant in
    first_of (search rules, grind (arith, common_steps))

pub returns-in_err-item : goal.returns-in_err-item
unfolding trailed_from
returns-in_err-item g c =
    let e = one_more (λ n. trailed_from c.args.close (g.T.Listed.reading c.args.room) n c.loop-turn.items c.loop-turn.height c.loop-turn.tokens) _ c.loop-turn._turn c.loop-turn-test.true c.loop-turn.invariant in
    first_of (search rules, grind (arith, common_steps))

pub returns-then-not-eat : goal.returns-then-not-eat
unfolding trailed_from
returns-then-not-eat g c =
    let e = one_more (λ n. trailed_from c.args.close (g.T.Listed.reading c.args.room) n c.loop-turn.items c.loop-turn.height c.loop-turn.tokens) _ c.loop-turn._turn c.loop-turn-test.true c.loop-turn.invariant in
    first_of (search rules, grind (arith, common_steps))

pub returns-then-sees : goal.returns-then-sees
unfolding trailed_from
returns-then-sees g c =
    let e = one_more (λ n. trailed_from c.args.close (g.T.Listed.reading c.args.room) n c.loop-turn.items c.loop-turn.height c.loop-turn.tokens) _ c.loop-turn._turn c.loop-turn-test.true c.loop-turn.invariant in
    first_of (search rules, grind (arith, common_steps))
