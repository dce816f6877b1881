use Rattle.std.proofs.Common.{◌∙◌, ap}
use Rattle.std.specs.Prelude.{codes}
use Rattle.osl_job.specs.declared.report.Refusal.TheVariants as why
use Rattle.osl_job.specs.declared.shader_text.ShaderText.TheVariants.{NoTokens, NoTree, NoTyping, NotBuilt, Shader}
use Rattle.osl_job.specs.Plan.{after_source, source_name, source_limit}
use Rattle.osl_job.proofs.Reports.{stops_at, source_at, of_source, of_form, content_reports, refused_at}
use Rattle.osl_job.proofs.steps.with_group.Goals as goal

pub returns-in-Stops-clause-report : goal.returns-in-Stops-clause-report
returns-in-Stops-clause-report g c =
    stops_at c.as_str.result.now (source_name c.args.group.now.shader) source_limit _ _ _ c.in_ok-report.field-0 c.in-Stops.report
    (c.as_str.ensures.value ∙ c.in_ok-name.ensures ∙ ap source_name c.as_slice.ensures) c.in-Stops.is c.in_ok-report.ensures.fetched c.in_ok-report.ensures.cause

pub returns-in-NoTokens-clause-report : goal.returns-in-NoTokens-clause-report
returns-in-NoTokens-clause-report g c =
    let name = c.in_ok-name.ensures ∙ ap source_name c.as_slice.ensures in
    source_at _ (source_name c.args.group.now.shader) source_limit (after_source c.args.group_file.now c.args.point_file.now c.args.group.now) _ _ _
    c.in_ok-report.field-0 c.in-Bytes.text _ c.in_ok-read_shader_text-in-Bytes.field-0 NoTokens c.in_ok-refused_source-in-NoTokens.field-0
    (c.as_str.ensures.value ∙ name) c.in-Bytes.is c.in_ok-report.ensures.fetched c.in_ok-report.ensures.within c.in_ok-report.ensures.store
    c.as_slice-in-Bytes.ensures.value c.in-NoTokens.is c.in_ok-read_shader_text-in-Bytes.ensures.is
    (content_reports why.Shader _ _ _ c.in_ok-refused_source-in-NoTokens.field-0 of_source
    (refused_at why.Shader _ (source_name c.args.group.now.shader) (codes ": lex") _ (c.as_str-in-NoTokens.ensures.value ∙ name) c.in_ok-refused_source-in-NoTokens.ensures))

pub returns-in-NoTree-clause-report : goal.returns-in-NoTree-clause-report
returns-in-NoTree-clause-report g c =
    let name = c.in_ok-name.ensures ∙ ap source_name c.as_slice.ensures in
    source_at _ (source_name c.args.group.now.shader) source_limit (after_source c.args.group_file.now c.args.point_file.now c.args.group.now) _ _ _
    c.in_ok-report.field-0 c.in-Bytes.text _ c.in_ok-read_shader_text-in-Bytes.field-0 NoTree c.in_ok-refused_source-in-NoTree.field-0
    (c.as_str.ensures.value ∙ name) c.in-Bytes.is c.in_ok-report.ensures.fetched c.in_ok-report.ensures.within c.in_ok-report.ensures.store
    c.as_slice-in-Bytes.ensures.value c.in-NoTree.is c.in_ok-read_shader_text-in-Bytes.ensures.is
    (content_reports why.Shader _ _ _ c.in_ok-refused_source-in-NoTree.field-0 of_source
    (refused_at why.Shader _ (source_name c.args.group.now.shader) (codes ": syntax") _ (c.as_str-in-NoTree.ensures.value ∙ name) c.in_ok-refused_source-in-NoTree.ensures))

pub returns-in-NoTyping-clause-report : goal.returns-in-NoTyping-clause-report
returns-in-NoTyping-clause-report g c =
    let name = c.in_ok-name.ensures ∙ ap source_name c.as_slice.ensures in
    source_at _ (source_name c.args.group.now.shader) source_limit (after_source c.args.group_file.now c.args.point_file.now c.args.group.now) _ _ _
    c.in_ok-report.field-0 c.in-Bytes.text _ c.in_ok-read_shader_text-in-Bytes.field-0 NoTyping c.in_ok-refused_source-in-NoTyping.field-0
    (c.as_str.ensures.value ∙ name) c.in-Bytes.is c.in_ok-report.ensures.fetched c.in_ok-report.ensures.within c.in_ok-report.ensures.store
    c.as_slice-in-Bytes.ensures.value c.in-NoTyping.is c.in_ok-read_shader_text-in-Bytes.ensures.is
    (content_reports why.Shader _ _ _ c.in_ok-refused_source-in-NoTyping.field-0 of_source
    (refused_at why.Shader _ (source_name c.args.group.now.shader) (codes ": types") _ (c.as_str-in-NoTyping.ensures.value ∙ name) c.in_ok-refused_source-in-NoTyping.ensures))

pub returns-in-NotBuilt-clause-report : goal.returns-in-NotBuilt-clause-report
returns-in-NotBuilt-clause-report g c =
    let name = c.in_ok-name.ensures ∙ ap source_name c.as_slice.ensures in
    source_at _ (source_name c.args.group.now.shader) source_limit (after_source c.args.group_file.now c.args.point_file.now c.args.group.now) _ _ _
    c.in_ok-report.field-0 c.in-Bytes.text _ c.in_ok-read_shader_text-in-Bytes.field-0 NotBuilt c.in_ok-not_built-in-NotBuilt.field-0
    (c.as_str.ensures.value ∙ name) c.in-Bytes.is c.in_ok-report.ensures.fetched c.in_ok-report.ensures.within c.in_ok-report.ensures.store
    c.as_slice-in-Bytes.ensures.value c.in-NotBuilt.is c.in_ok-read_shader_text-in-Bytes.ensures.is
    (content_reports why.NotBuilt _ _ _ c.in_ok-not_built-in-NotBuilt.field-0 of_form
    (refused_at why.NotBuilt _ (source_name c.args.group.now.shader) (codes ": not built") _ (c.as_str-in-NotBuilt.ensures.value ∙ name) c.in_ok-not_built-in-NotBuilt.ensures))

pub returns-clause-report : goal.returns-clause-report
returns-clause-report g c =
    let name = c.in_ok-name.ensures ∙ ap source_name c.as_slice.ensures in
    source_at _ (source_name c.args.group.now.shader) source_limit (after_source c.args.group_file.now c.args.point_file.now c.args.group.now) _ _ _
    c.in_ok-report.field-0 c.in-Bytes.text _ c.in_ok-read_shader_text-in-Bytes.field-0 (Shader c.in-Shader.shader) c.in_ok-with_shader-in-Shader.field-0
    (c.as_str.ensures.value ∙ name) c.in-Bytes.is c.in_ok-report.ensures.fetched c.in_ok-report.ensures.within c.in_ok-report.ensures.store
    c.as_slice-in-Bytes.ensures.value c.in-Shader.is c.in_ok-read_shader_text-in-Bytes.ensures.is
    c.in_ok-with_shader-in-Shader.ensures.report
