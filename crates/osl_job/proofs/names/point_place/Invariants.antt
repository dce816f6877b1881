use Rattle.std.proofs.Common.{◌≡◌, ◌+◌, drop}
use Rattle.std.specs.List.{position_or_len}
use Rattle.osl_job.specs.Text.{is_point}
use Rattle.osl_job.proofs.names.point_place.Given as goal

abbrev pub invariant-loop-at : goal.invariant-loop-at
invariant-loop-at l = position_or_len is_point l.text ≡ l.at + position_or_len is_point (drop l.at l.text)
