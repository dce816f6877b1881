use Rattle.std.proofs.Common.{take, drop, ◌+◌}
use Rattle.osl_store.specs.Views.{SinkView}
use Rattle.osl_job.specs.Run.{text_of}
use Rattle.osl_job.proofs.Reports.{front_of_err, text_of-split}
use Rattle.osl_job.proofs.report.print.Goals as goal

pub returns-in-Err-clause-front : goal.returns-in-Err-clause-front
returns-in-Err-clause-front g c =
    let first : SinkView = g.K.Sink.seen c.args.out.now in
    let before : SinkView = g.K.Sink.seen c.loop-line.out in
    let now : SinkView = g.K.Sink.seen c.put.new.self in
    let done = text_of (take c.loop-line.line-index c.args.lines.now) in
    let line = c.as_slice.result.now in
    let rest = text_of (drop (c.loop-line.line-index + 1) c.args.lines.now) in
    rw (text_of-split c.args.lines.now c.loop-line.line-index c.line-item.result c.loop-line-test.true c.line-item.is, ← c.as_slice.ensures.value)
    (front_of_err first before now done line rest c.in-Err.error
    (c.puts_add_up.ensures.front first before now done line rest c.loop-line.invariant.written)
    (c.puts_add_up.ensures.unwritten first before now done _ c.loop-line.invariant.written)
    c.in-Err.ensures.bytes)
