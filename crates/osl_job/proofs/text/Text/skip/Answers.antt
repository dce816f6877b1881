use Rattle.std.proofs.Common.{◌≤◌, ◌∙◌, ap, sym, max, min, length, subst, ℕ}
use Rattle.osl_job.specs.Text.{lexemes, joined_len}
use Rattle.osl_job.specs.Reader.{rest}
use Rattle.osl_job.proofs.Cutting.{rest_some, behind_is}
use Rattle.osl_job.proofs.text.Text.skip.Goals as goal

pub returns : goal.returns
returns c =
    let text = c.self.inside.rest.now in
    let form = c.self.inside.form in
    let within : joined_len form text ≤ length text = subst (λ (n : ℕ). n ≤ length text) c.joined_len.ensures.count c.joined_len.ensures.within in
    let count = c.min-count.ensures ∙ ap (λ n. min n (length text)) (c.max-count.ensures ∙ ap (λ n. max n 1) c.joined_len.ensures.count) in
    c.past_blanks-self-inside.ensures.same ∙ ap (lexemes form) (behind_is text c.min-count.result)
    ∙ sym (rest_some form text c.min-count.result c.self.invariant within count) ∙ ap rest c.self.view_is
