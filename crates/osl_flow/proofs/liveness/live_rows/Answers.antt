use Rattle.std.proofs.Common.{sym, subst}
use Rattle.osl_flow.specs.Flow.{AreSettled}
use Rattle.osl_flow.specs.Rows.{live_bit}
use Rattle.osl_flow.specs.Table.{table_of}
use Rattle.osl_flow.proofs.liveness.live_rows.Goals as goal

pub returns : goal.returns
returns c =
    let raw = c.args.code.now in
    let table = table_of c.args.around.now in
    let rows = c.deref.result.now in
    let settled = subst (AreSettled raw table c.args.asked.now) (sym c.deref.ensures.value) c.in_ok-rows.ensures in
    record {
      row = live_bit raw table rows;
      settled = settled.settled;
      earned = settled.earned;
      long = c.in_ok-live.ensures.long;
      wide = c.in_ok-live.ensures.wide;
      after = c.in_ok-live.ensures.bits;
    }
