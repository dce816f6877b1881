use Rattle.std.proofs.Common.{◌≤◌, length}
use Rattle.oso_code.specs.Ops.{op_in_fits}
use Rattle.oso_code.specs.Sections.{EndBefore}
use Rattle.oso_code.proofs.Firsts.{FitTo}
use Rattle.oso_code.proofs.flaws.first_wrong_op.Given as goal

abbrev pub invariant-loop-at : goal.invariant-loop-at
invariant-loop-at l =
    (l.section ≤ length l.sections) × EndBefore l.sections l.section l.at × FitTo (op_in_fits l.kind l.symbols l.sections) l.ops l.at
