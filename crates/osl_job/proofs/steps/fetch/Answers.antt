use Rattle.std.proofs.Common.{◌∙◌, ◌++◌, ap, Err}
use Rattle.std.specs.Prelude.{codes}
use Rattle.osl_job.specs.Verdict.{line}
use Rattle.osl_job.specs.declared.report.Refusal.TheVariants as why
use Rattle.osl_job.proofs.Reports.{read_absent, read_large, read_failed, refused_at, missing_file, longer_file}
use Rattle.osl_job.proofs.steps.fetch.Goals as goal

pub returns-in-Err-Absent-clause-fetched : goal.returns-in-Err-Absent-clause-fetched
returns-in-Err-Absent-clause-fetched g c files tells =
    read_absent c.args.name.now c.args.limit files c.in_ok-refused-in-Err-Absent.field-0
    (missing_file _ (files c.args.name.now) (tells c.args.name.now) (c.in-Err-Absent.ensures.absent (ap Err c.in-Err-Absent.field-0-is)))
    (refused_at why.Absent _ c.args.name.now (codes ": absent") c.in_ok-refused-in-Err-Absent.field-0 c.as_bytes.ensures.value c.in_ok-refused-in-Err-Absent.ensures)

pub returns-in-Err-Failed-clause-fetched : goal.returns-in-Err-Failed-clause-fetched
returns-in-Err-Failed-clause-fetched g c files tells =
    read_failed c.args.name.now c.args.limit files c.in_ok-of_line-in-Err-Failed.field-0
    c.in_ok-of_line-in-Err-Failed.ensures.status
    (c.in_ok-of_line-in-Err-Failed.ensures.lines ∙ ap (λ n. line (n ++ codes ": read fault")) c.as_bytes-in-Err-Failed.ensures.value)

pub returns-in-Err-TooLarge-clause-fetched : goal.returns-in-Err-TooLarge-clause-fetched
returns-in-Err-TooLarge-clause-fetched g c files tells =
    read_large c.args.name.now c.args.limit files c.in_ok-refused-in-Err-TooLarge.field-0
    (longer_file _ (files c.args.name.now) c.args.limit (tells c.args.name.now) (c.in-Err-TooLarge.ensures.large (ap Err c.in-Err-TooLarge.field-0-is)))
    (refused_at why.TooLarge _ c.args.name.now (codes ": too large") c.in_ok-refused-in-Err-TooLarge.field-0 c.as_bytes-in-Err-TooLarge.ensures.value c.in_ok-refused-in-Err-TooLarge.ensures)
