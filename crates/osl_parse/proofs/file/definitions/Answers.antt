use Rattle.std.proofs.Common.{rules, arith}
use Rattle.std.proofs.lemmas.Grind.{common_steps}
use Rattle.osl_tree.specs.FileReading.{definitions_from}
use Rattle.osl_parse.proofs.Turns.{one_more, no_more}
use Rattle.osl_parse.proofs.file.definitions.Goals as goal

pub loop-turn-preserved : goal.loop-turn-preserved
unfolding definitions_from
loop-turn-preserved c =
    let e = one_more (λ n. definitions_from c.args.room n (c.loop-turn.found, c.loop-turn.height) c.loop-turn.tokens) _ c.loop-turn._turn c.loop-turn-test.true c.loop-turn.invariant in
    first_of (search rules, grind (arith, common_steps))

pub returns : goal.returns
unfolding definitions_from
returns c =
    let e = no_more (λ n. definitions_from c.args.room n (c.loop-turn.found, c.loop-turn.height) c.loop-turn.tokens) _ c.loop-turn._turn c.loop-turn-test.false c.loop-turn.invariant in
    first_of (search rules, grind (arith, common_steps))
