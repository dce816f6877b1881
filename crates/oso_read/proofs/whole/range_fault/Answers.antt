use Rattle.std.proofs.Common.{◌∙◌}
use Rattle.oso_read.specs.Reading.{raw_of}
use Rattle.oso_read.proofs.RangeFault.{range_fault_found}
use Rattle.oso_read.proofs.whole.range_fault.Goals as goal

pub returns : goal.returns
returns c head symbols =
    c.first_of.ensures ∙ range_fault_found (raw_of head symbols c.args.sections.now c.args.ops.now) c.in_ok-faults.faults (c.in_ok-faults.ensures symbols)
