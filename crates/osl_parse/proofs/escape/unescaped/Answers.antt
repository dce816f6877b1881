use Rattle.std.proofs.Common.{rules, arith, ◌++◌, append_assoc}
use Rattle.std.proofs.lemmas.Grind.{common_steps}
use Rattle.osl_tree.specs.Lexemes.{unescaped_from}
use Rattle.osl_parse.proofs.Turns.{one_more}
use Rattle.osl_parse.proofs.escape.unescaped.Goals as goal

pub loop-turn-preserved : goal.loop-turn-preserved
unfolding unescaped_from
loop-turn-preserved c =
    let e = one_more (λ n. c.loop-turn.bytes ++ unescaped_from n c.loop-turn.rest.now) _ c.loop-turn._turn c.loop-turn-test.true c.loop-turn.invariant in
    first_of (search rules, grind (arith, common_steps, append_assoc))
