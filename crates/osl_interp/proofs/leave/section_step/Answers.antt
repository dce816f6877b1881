use Rattle.std.proofs.Common.{refl, sym, ap, ◌∙◌}
use Rattle.std.specs.Prelude.{slice_get}
use Rattle.osl_interp.specs.Known.{is_default_at}
use Rattle.osl_interp.specs.Meaning.{configuration}
use Rattle.osl_interp.proofs.Sections.{section_runs, section_passed, sections_over}
use Rattle.osl_interp.proofs.leave.section_step.Goals as goal

pub returns-in_default : goal.returns-in_default
returns-in_default c =
    let m = configuration c.args.m.now in
    (refl, sections_over m (record { ready = c.requires.ready; runs = c.requires.runs; past = c.requires.past; last = c.requires.last }) (ap (λ l. slice_get l m.section) (sym c.as_slice.ensures) ∙ sym c.section_at.ensures ∙ c.in_default.is))

pub returns-then-is_run : goal.returns-then-is_run
returns-then-is_run c =
    let m = configuration c.args.m.now in
    section_runs m c.in-Some.section (record { ready = c.requires.ready; runs = c.requires.runs; past = c.requires.past; last = c.requires.last }) (ap (λ l. slice_get l m.section) (sym c.as_slice.ensures) ∙ sym c.section_at.ensures ∙ c.in-Some.is)
    (ap (λ l. is_default_at l c.in-Some.section.param) (sym c.deref.ensures.value) ∙ sym c.is_run.ensures ∙ c.if-is_run.true)

pub returns-else-is_run : goal.returns-else-is_run
returns-else-is_run c =
    let m = configuration c.args.m.now in
    section_passed m c.in-Some.section (record { ready = c.requires.ready; runs = c.requires.runs; past = c.requires.past; last = c.requires.last }) (ap (λ l. slice_get l m.section) (sym c.as_slice.ensures) ∙ sym c.section_at.ensures ∙ c.in-Some.is)
    (ap (λ l. is_default_at l c.in-Some.section.param) (sym c.deref.ensures.value) ∙ sym c.is_run.ensures ∙ c.if-is_run.false)
