-- What a walk over sections has found.
use Rattle.std.proofs.Common.{ℕ, List, ◌++◌, Option}
use Rattle.oso_code.specs.declared.op.Section.{Section}
use Rattle.oso_code.specs.declared.raw.Raw.{Raw}
use Rattle.oso_code.specs.Faults.{least, sooner}
use Rattle.oso_code.specs.Sections.{later_faults, end_faults}

-- what is found so far, with what is after a section
abbrev pub with_behind : Raw → Option ℕ → Section → List Section → Option ℕ
with_behind raw found before behind = sooner found (least (later_faults raw before behind ++ end_faults raw before behind))
