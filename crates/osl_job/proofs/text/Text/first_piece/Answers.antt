use Rattle.std.proofs.Common.{◌∙◌, ap, sym, take, Some}
use Rattle.osl_job.proofs.Cutting.{piece_some, piece_none}
use Rattle.osl_job.proofs.text.Text.first_piece.Goals as goal

pub returns-then-count-eq0 : goal.returns-then-count-eq0
returns-then-count-eq0 c =
    rw (← c.self.view_is) (sym (piece_none c.self.inside.form c.self.inside.rest.now c.self.invariant (sym c.joined_len-count.ensures.count ∙ c.if-count-eq0.true)))

pub returns-else-count-eq0 : goal.returns-else-count-eq0
returns-else-count-eq0 c =
    rw (← c.self.view_is) (ap (λ n. Some (take n c.self.inside.rest.now)) c.joined_len-count.ensures.count
    ∙ sym (piece_some c.self.inside.form c.self.inside.rest.now c.self.invariant (λ e. c.if-count-eq0.false (c.joined_len-count.ensures.count ∙ e))))
