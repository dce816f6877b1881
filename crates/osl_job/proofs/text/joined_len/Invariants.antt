use Rattle.std.proofs.Common.{◌≡◌, ◌+◌, drop}
use Rattle.osl_job.specs.Text.{joined_len}
use Rattle.osl_job.proofs.text.joined_len.Given as goal

abbrev pub invariant-loop-at : goal.invariant-loop-at
invariant-loop-at l = joined_len l.form l.text ≡ l.at + joined_len l.form (drop l.at l.text)
