use Rattle.std.proofs.Common.{ℕ, ◌∙◌, sym, subst, inl, inr}
use Rattle.osl_job.specs.Status.{code_of, whole}
use Rattle.osl_job.specs.Plan.{plan_for}
use Rattle.osl_job.specs.Run.{text_of, IsStatus}
use Rattle.osl_job.proofs.Reports.{nothing_written, complete_from_report, done_from_report, refusal_from_report, fault_from_report}
use Rattle.osl_job.proofs.run_plain.Goals as goal

pub returns-in_default-clause-cut_short : goal.returns-in_default-clause-cut_short
returns-in_default-clause-cut_short g c cut =
    nothing_written (plan_for c.args.words.now) _ _ (g.K.Sink.seen c.args.out.now) (c.puts_add_up.ensures.nothing (g.K.Sink.seen c.args.out.now)) c.one_verdict.ensures.some

pub returns-in-Ok-print-clause-done : goal.returns-in-Ok-print-clause-done
returns-in-Ok-print-clause-done g c e files tells = (
  text_of c.in-Ok.report.lines.items,
  done_from_report _ files _ _ (c.in-Ok.ensures.report files tells) (sym c.code.ensures ∙ e),
  rw (← c.as_slice.ensures.value) c.in-Ok-print.ensures.all,
)

pub returns-in-Ok-print-clause-refused : goal.returns-in-Ok-print-clause-refused
returns-in-Ok-print-clause-refused g c why e files tells = (
  text_of c.in-Ok.report.lines.items,
  refusal_from_report _ files _ _ why (c.in-Ok.ensures.report files tells) (sym c.code.ensures ∙ e),
  rw (← c.as_slice.ensures.value) c.in-Ok-print.ensures.all,
)

pub returns-in-Ok-print-clause-read_fault : goal.returns-in-Ok-print-clause-read_fault
returns-in-Ok-print-clause-read_fault g c e files tells = (
  text_of c.in-Ok.report.lines.items,
  fault_from_report _ files _ _ (c.in-Ok.ensures.report files tells) (sym c.code.ensures ∙ e),
  rw (← c.as_slice.ensures.value) c.in-Ok-print.ensures.all,
)

pub returns-in-Ok-print-clause-usage : goal.returns-in-Ok-print-clause-usage
returns-in-Ok-print-clause-usage g c = record {
  only = λ two. c.in-Ok.ensures.usage.0 (sym c.code.ensures ∙ two);
  always = λ none. inl (c.code.ensures ∙ c.in-Ok.ensures.usage.1 none);
}

pub returns-in-Ok-print-clause-complete : goal.returns-in-Ok-print-clause-complete
returns-in-Ok-print-clause-complete g c clean files tells =
    inr (subst (λ (s : ℕ). IsStatus (plan_for c.args.words.now) files s) (sym c.code.ensures)
    (complete_from_report _ files _ _ (c.in-Ok.ensures.report files tells) (λ seven. clean.reads (c.in-Ok.ensures.cause.read_fault seven))))

pub returns-in-Err-Fault-clause-cut_short : goal.returns-in-Err-Fault-clause-cut_short
returns-in-Err-Fault-clause-cut_short g c cut files tells =
    (text_of c.in-Ok.report.lines.items, record { status = code_of c.in-Ok.report.status; report = c.in-Ok.ensures.report files tells; read_fault = c.in-Ok.ensures.cause.read_fault }, rw (← c.as_slice.ensures.value) c.in-Err-Fault.ensures.front)

pub returns-clause-cut_short : goal.returns-clause-cut_short
returns-clause-cut_short g c cut files tells =
    (text_of c.in-Ok.report.lines.items, record { status = code_of c.in-Ok.report.status; report = c.in-Ok.ensures.report files tells; read_fault = c.in-Ok.ensures.cause.read_fault }, rw (← c.as_slice.ensures.value) c.in-Err-Memory.ensures.front)

pub returns-in-Ok-print-clause-known : goal.returns-in-Ok-print-clause-known
returns-in-Ok-print-clause-known g c = whole c.in-Ok.report.status c.code.ensures
