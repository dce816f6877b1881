use Rattle.std.proofs.Common.{◌≤◌, take}
use Rattle.osl_store.specs.Views.{SinkStaysFaultless}
use Rattle.osl_store.specs.Written.{Wrote}
use Rattle.osl_job.specs.Run.{text_of}
use Rattle.osl_job.proofs.report.print.Given as goal

abbrev pub invariant-loop-line : goal.invariant-loop-line
invariant-loop-line g l = record {
  written : Wrote (g.K.Sink.seen l.fn.out) (g.K.Sink.seen l.out) (text_of (take l.line-index l.lines));
  faults : (g.K.Sink.seen l.fn.out).faults ≤ (g.K.Sink.seen l.out).faults;
  faultless : SinkStaysFaultless (g.K.Sink.seen l.fn.out) (g.K.Sink.seen l.out);
}
