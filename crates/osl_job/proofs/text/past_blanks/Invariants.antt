use Rattle.std.proofs.Common.{◌≡◌, drop}
use Rattle.osl_job.specs.Text.{lexemes, cut}
use Rattle.osl_job.proofs.text.past_blanks.Given as goal

abbrev pub invariant-loop-at : goal.invariant-loop-at
invariant-loop-at l = lexemes l.form l.text ≡ cut l.form l.in_comment (drop l.at l.text)
