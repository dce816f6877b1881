use Rattle.std.proofs.Common.{◌∙◌, ap, sym, Some, None}
use Rattle.std.specs.Prelude.{codes}
use Rattle.osl_job.specs.declared.report.Refusal.TheVariants as why
use Rattle.osl_job.specs.GroupText.{is_one_point}
use Rattle.osl_job.specs.Verdict.{AcceptedJob, Accepted}
use Rattle.osl_job.specs.Plan.{Settled, after_points, file_not_built, point_limit}
use Rattle.osl_job.proofs.Reports.{stops_at, goes_on_at, of_form, content_reports, shown_reports, refused_at, found_is, with_output}
use Rattle.osl_job.proofs.steps.with_shader.Goals as goal

pub returns-in_default-clause-report : goal.returns-in_default-clause-report
returns-in_default-clause-report g c =
    with_output c.args.group_file.now c.args.point_file.now c.args.group.now c.args.shader.now _ None _ _ _
    (found_is _ _ _ _ c.find_output.result None c.as_slice.ensures c.as_slice-2.ensures c.find_output.ensures.number c.in_default.is)
    (content_reports why.NotBuilt _ _ _ c.in_ok-not_built.field-0 of_form
    (refused_at why.NotBuilt _ c.args.group_file.now (codes ": not built") _ c.as_str.ensures c.in_ok-not_built.ensures))

pub returns-in-Stops-clause-report : goal.returns-in-Stops-clause-report
returns-in-Stops-clause-report g c =
    with_output c.args.group_file.now c.args.point_file.now c.args.group.now c.args.shader.now _ (Some c.in-Some.output) _ _ _
    (found_is _ _ _ _ c.find_output.result (Some c.in-Some.output) c.as_slice.ensures c.as_slice-2.ensures c.find_output.ensures.number c.in-Some.is)
    (stops_at c.as_str-2.result.now c.args.point_file.now point_limit _ _ _ c.in_ok-report.field-0 c.in-Stops.report
    c.as_str-2.ensures c.in-Stops.is c.in_ok-report.ensures.fetched c.in_ok-report.ensures.cause)

pub returns-clause-report : goal.returns-clause-report
returns-clause-report g c =
    let job : AcceptedJob = record { shader = c.args.shader.now; layer = c.args.group.now.layer; param = c.args.group.now.param; output = c.in-Some.output } in
    with_output c.args.group_file.now c.args.point_file.now c.args.group.now c.args.shader.now _ (Some c.in-Some.output) _ _ _
    (found_is _ _ _ _ c.find_output.result (Some c.in-Some.output) c.as_slice.ensures c.as_slice-2.ensures c.find_output.ensures.number c.in-Some.is)
    (goes_on_at c.as_str-2.result.now c.args.point_file.now point_limit _ (file_not_built c.args.point_file.now) _ _ _ c.in_ok-report.field-0 c.in-Bytes.text c.in_ok-not_built-in-Bytes.field-0
    c.as_str-2.ensures c.in-Bytes.is c.in_ok-report.ensures.fetched c.in_ok-report.ensures.within c.in_ok-report.ensures.store
    (ap (λ t. after_points c.args.point_file.now job (is_one_point t)) (sym c.as_slice-in-Bytes.ensures.value)
    ∙ ap (after_points c.args.point_file.now job) (sym c.is_one_point.ensures ∙ c.if-is_one_point.false))
    (content_reports why.NotBuilt _ _ _ c.in_ok-not_built-in-Bytes.field-0 of_form
    (refused_at why.NotBuilt _ c.args.point_file.now (codes ": not built") _ c.as_str-else-is_one_point.ensures c.in_ok-not_built-in-Bytes.ensures)))

pub returns-then-is_one_point-clause-report : goal.returns-then-is_one_point-clause-report
returns-then-is_one_point-clause-report g c =
    let job : AcceptedJob = record { shader = c.args.shader.now; layer = c.args.group.now.layer; param = c.args.group.now.param; output = c.in-Some.output } in
    with_output c.args.group_file.now c.args.point_file.now c.args.group.now c.args.shader.now _ (Some c.in-Some.output) _ _ _
    (found_is _ _ _ _ c.find_output.result (Some c.in-Some.output) c.as_slice.ensures c.as_slice-2.ensures c.find_output.ensures.number c.in-Some.is)
    (goes_on_at c.as_str-2.result.now c.args.point_file.now point_limit _ (Settled (Accepted job)) _ _ _ c.in_ok-report.field-0 c.in-Bytes.text c.in_ok-shown-in-Bytes.field-0
    c.as_str-2.ensures c.in-Bytes.is c.in_ok-report.ensures.fetched c.in_ok-report.ensures.within c.in_ok-report.ensures.store
    (ap (λ t. after_points c.args.point_file.now job (is_one_point t)) (sym c.as_slice-in-Bytes.ensures.value)
    ∙ ap (after_points c.args.point_file.now job) (sym c.is_one_point.ensures ∙ c.if-is_one_point.true))
    (shown_reports job _ _ c.in_ok-shown-in-Bytes.field-0 c.in_ok-shown-in-Bytes.ensures))
