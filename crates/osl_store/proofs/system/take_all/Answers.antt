use Rattle.std.proofs.Common.{arith}
use Rattle.osl_store.proofs.Reading.{takes-all}
use Rattle.osl_store.proofs.system.take_all.Goals as goal

pub returns-in-Ok-2-clause-ok : goal.returns-in-Ok-2-clause-ok
returns-in-Ok-2-clause-ok g c =
    let read = c.in-Ok.ensures in
    rw (← c.take.ensures.inner)
    (takes-all (g.R.Read.remaining c.take.result.inner) c.args.limit c.take.result.limit c.in-Ok.count c.args.into.now.items c.read_to_end.new.buf.items
    (omega (arith, c.take.ensures.limit, c.from.ensures)) c.if-count-limit.false (omega (arith, read.ok)) read.appends read.bytes)
