use Rattle.std.proofs.Common.{rules}
use Rattle.osl_valuetext.proofs.Spellings.{fx_spelled, no_fx_spelled}
use Rattle.osl_valuetext.proofs.number.fx_at.Goals as goal

pub returns-in-Some : goal.returns-in-Some
returns-in-Some c = fx_spelled c.args.word.now c.in-Some.x (search rules) c.in-Some.ensures.some

pub returns-in-None : goal.returns-in-None
returns-in-None c = no_fx_spelled c.args.word.now c.in-None.ensures.none
