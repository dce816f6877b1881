use Rattle.std.proofs.Common.{◌∙◌, sym}
use Rattle.osl_job.proofs.Cutting.{mark_some, mark_none}
use Rattle.osl_job.proofs.text.Text.first_mark.Goals as goal

pub returns-then-joined_len-eq0 : goal.returns-then-joined_len-eq0
returns-then-joined_len-eq0 c =
    rw (← c.self.view_is) (c.copied.ensures ∙ c.first.ensures.value
    ∙ sym (mark_some c.self.inside.form c.self.inside.rest.now c.self.invariant (sym c.joined_len.ensures.count ∙ c.if-joined_len-eq0.true)))

pub returns-else-joined_len-eq0 : goal.returns-else-joined_len-eq0
returns-else-joined_len-eq0 c =
    rw (← c.self.view_is) (sym (mark_none c.self.inside.form c.self.inside.rest.now c.self.invariant (λ e. c.if-joined_len-eq0.false (c.joined_len.ensures.count ∙ e))))
