use Rattle.std.proofs.Common.{◌≡◌, ap, arith}
use Rattle.osl_tree.specs.Reading.{expr}
use Rattle.osl_parse.proofs.Turns.{deeper}
use Rattle.osl_parse.proofs.expr.+expr.Goals as goal

pub returns-then-height-eq0 : goal.returns-then-height-eq0
unfolding expr
returns-then-height-eq0 t c = let none : c.args.height ≡ 0 = omega arith in ap (λ n. expr n c.args.level c.args.tokens.now) none

pub returns : goal.returns
unfolding expr
returns t c = rw (deeper (λ n. expr n c.args.level c.args.tokens.now) c.args.height (omega arith)) c.whole.ensures
