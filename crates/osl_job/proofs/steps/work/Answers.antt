use Rattle.std.proofs.Common.{◌∙◌, sym, Some, None}
use Rattle.osl_job.specs.declared.report.Refusal.TheVariants as why
use Rattle.osl_job.proofs.Reports.{job_report, built_report, is_built, none_built, settled_refused}
use Rattle.osl_job.proofs.steps.work.Goals as goal

pub returns-in_default-clause-report : goal.returns-in_default-clause-report
returns-in_default-clause-report g c files tells =
    job_report None _ files c.in_ok-refused.field-0 (sym c.in_default.is ∙ c.in_ok-job.ensures)
    (settled_refused why.Usage _ files c.in_ok-refused.field-0 c.in_ok-refused.ensures)

pub returns-in-Some-built-clause-report : goal.returns-in-Some-built-clause-report
returns-in-Some-built-clause-report g c files tells =
    built_report c.in-Some.job _ (Some c.in-Some-built.job.now) files c.in_ok-shade-in-Some-built.field-0
    (sym c.in-Some.is ∙ c.in_ok-job.ensures) (is_built c.built.result c.in-Some-built.job _ c.in-Some-built.is c.built.ensures)
    (c.in_ok-shade-in-Some-built.ensures.report.report files tells)

pub returns-clause-report : goal.returns-clause-report
returns-clause-report g c files tells =
    built_report c.in-Some.job _ None files c.in_ok-refused-in-None.field-0
    (sym c.in-Some.is ∙ c.in_ok-job.ensures) (none_built c.built.result _ c.in-None.is c.built.ensures)
    (settled_refused why.NotBuilt _ files c.in_ok-refused-in-None.field-0 c.in_ok-refused-in-None.ensures)
