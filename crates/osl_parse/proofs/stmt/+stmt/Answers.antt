use Rattle.std.proofs.Common.{◌≡◌, ap, arith}
use Rattle.osl_tree.specs.StatementReading.{stmt}
use Rattle.osl_parse.proofs.Turns.{deeper}
use Rattle.osl_parse.proofs.stmt.+stmt.Goals as goal

pub returns-then-height-eq0 : goal.returns-then-height-eq0
unfolding stmt
returns-then-height-eq0 t c = let none : c.args.height ≡ 0 = omega arith in ap (λ n. stmt n c.args.tokens.now) none

pub returns : goal.returns
unfolding stmt
returns t c = rw (deeper (λ n. stmt n c.args.tokens.now) c.args.height (omega arith)) c.form.ensures
