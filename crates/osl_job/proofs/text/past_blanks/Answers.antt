use Rattle.std.proofs.Common.{◌∙◌, ◌+◌, ap, sym, drop, refl}
use Rattle.osl_job.specs.Text.{cut}
use Rattle.osl_job.proofs.Cutting.{past_inside, past_blank, past_comment, none_left}
use Rattle.osl_job.proofs.text.past_blanks.Goals as goal
use Rattle.osl_job.proofs.text.past_blanks.Goals.{then-in_comment, else-in_comment+in-Blank, else-in_comment+in-Comment}

pub loop-at-preserved : goal.loop-at-preserved
loop-at-preserved c = elim c.if-in_comment.branch [
  | then-in_comment w ↦
      c.loop-at.invariant ∙ ap (λ b. cut c.args.form b (drop c.loop-at.at c.args.text.now)) w.if-in_comment.true
      ∙ past_inside c.args.form c.args.text.now c.loop-at.at _ c.loop-at-test.true refl
      ∙ ap (λ b. cut c.args.form b (drop (c.loop-at.at + 1) c.args.text.now)) (sym w.in_comment-is)
  | else-in_comment+in-Blank w ↦
      c.loop-at.invariant ∙ ap (λ b. cut c.args.form b (drop c.loop-at.at c.args.text.now)) w.if-in_comment.false
      ∙ past_blank c.args.form c.args.text.now c.loop-at.at _ c.loop-at-test.true refl (sym w.class_of.ensures ∙ w.in-Blank.is)
      ∙ ap (λ b. cut c.args.form b (drop (c.loop-at.at + 1) c.args.text.now)) (sym (w.in_comment-is ∙ w.if-in_comment.false))
  | else-in_comment+in-Comment w ↦
      c.loop-at.invariant ∙ ap (λ b. cut c.args.form b (drop c.loop-at.at c.args.text.now)) w.if-in_comment.false
      ∙ past_comment c.args.form c.args.text.now c.loop-at.at _ c.loop-at-test.true refl (sym w.class_of.ensures ∙ w.in-Comment.is)
      ∙ ap (λ b. cut c.args.form b (drop (c.loop-at.at + 1) c.args.text.now)) (sym w.in_comment-is)
]

pub returns-clause-same : goal.returns-clause-same
returns-clause-same c = sym (c.loop-at.invariant ∙ none_left c.args.form c.loop-at.in_comment c.args.text.now c.loop-at.at c.loop-at-test.false)
