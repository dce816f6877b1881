-- What a walk over ranges finds.
use Rattle.std.specs.Prelude.{◌≡◌, List, unwrap_or, length}
use Rattle.oso_code.specs.declared.checks.opened.RangeFaults.{RangeFaults}
use Rattle.oso_code.specs.declared.op.Op.{Op}
use Rattle.oso_code.specs.declared.op.Section.{Section}
use Rattle.oso_code.specs.declared.symbol.Symbol.{Symbol}
use Rattle.oso_code.specs.Faults.{misfits, least}
use Rattle.oso_code.specs.Ranges.{jumps_in_fit}
use Rattle.oso_code.specs.Steps.{steps_from}
use Rattle.oso_code.specs.Valid.{nests_within}
use Rattle.oso_code.specs.Walk.{if_before}

-- the first op whose jumps do not fit, and the first before it whose ranges nest too deep, whatever the symbols are
pub record AreRangeFaults (symbols : List Symbol) (sections : List Section) (ops : List Op) (faults : RangeFaults) : Type 0 where
  pub jump : faults.jump ≡ least (misfits (jumps_in_fit symbols sections (steps_from symbols 0 ops)) 0 ops)
  pub deep : faults.deep ≡ if_before (unwrap_or faults.jump (length ops)) (least (misfits (nests_within (steps_from symbols 0 ops)) 0 (steps_from symbols 0 ops)))
