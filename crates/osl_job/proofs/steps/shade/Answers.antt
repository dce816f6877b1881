use Rattle.std.proofs.Common.{◌∙◌, ap, sym, Some}
use Rattle.std.specs.Prelude.{codes}
use Rattle.osl_job.specs.declared.report.Refusal.TheVariants as why
use Rattle.osl_job.specs.GroupText.{small_group}
use Rattle.osl_job.specs.Plan.{after_group, file_not_built, source_limit}
use Rattle.osl_job.proofs.Reports.{stops_at, goes_on_at, of_form, content_reports, refused_at, none_read}
use Rattle.osl_job.proofs.steps.shade.Goals as goal

pub returns-in-Stops-clause-report : goal.returns-in-Stops-clause-report
returns-in-Stops-clause-report g c =
    stops_at c.as_str.result.now c.args.group_file.now source_limit _ _ _ c.in_ok-report.field-0 c.in-Stops.report
    c.as_str.ensures c.in-Stops.is c.in_ok-report.ensures.fetched c.in_ok-report.ensures.cause

pub returns-in-Ok-clause-report : goal.returns-in-Ok-clause-report
returns-in-Ok-clause-report g c =
    goes_on_at c.as_str.result.now c.args.group_file.now source_limit _
    (after_group c.args.group_file.now c.args.point_file.now (Some c.in-Ok.group)) _ _ _ c.in_ok-report.field-0 c.in-Bytes.text c.in_ok-with_group-in-Ok.field-0
    c.as_str.ensures c.in-Bytes.is c.in_ok-report.ensures.fetched c.in_ok-report.ensures.within c.in_ok-report.ensures.store
    (ap (λ t. after_group c.args.group_file.now c.args.point_file.now (small_group t)) (sym c.as_slice.ensures.value)
    ∙ ap (after_group c.args.group_file.now c.args.point_file.now) c.in-Ok.ensures)
    c.in_ok-with_group-in-Ok.ensures.report

pub returns-in-Err-NotBuilt-clause-report : goal.returns-in-Err-NotBuilt-clause-report
returns-in-Err-NotBuilt-clause-report g c =
    goes_on_at c.as_str.result.now c.args.group_file.now source_limit _
    (file_not_built c.args.group_file.now) _ _ _ c.in_ok-report.field-0 c.in-Bytes.text c.in_ok-not_built-in-Err-NotBuilt.field-0
    c.as_str.ensures c.in-Bytes.is c.in_ok-report.ensures.fetched c.in_ok-report.ensures.within c.in_ok-report.ensures.store
    (ap (λ t. after_group c.args.group_file.now c.args.point_file.now (small_group t)) (sym c.as_slice.ensures.value)
    ∙ ap (after_group c.args.group_file.now c.args.point_file.now) (none_read _ _ c.in-Err-NotBuilt.field-0-is c.in-Err-NotBuilt.ensures))
    (content_reports why.NotBuilt _ _ _ c.in_ok-not_built-in-Err-NotBuilt.field-0 of_form
    (refused_at why.NotBuilt _ c.args.group_file.now (codes ": not built") _ c.as_str-in-Err-NotBuilt.ensures c.in_ok-not_built-in-Err-NotBuilt.ensures))
