use Rattle.std.proofs.Common.{length}
use Rattle.osl_flow.proofs.Bits.{filled}
use Rattle.osl_flow.proofs.uses.writes.Goals as goal

pub returns : goal.returns
returns c = rw c.written_by.ensures at (filled c.clear.new.row c.set_all.new.row (length c.args.into.now) c.written_by.result.now c.clear.ensures c.set_all.ensures.len c.set_all.ensures.bits)
