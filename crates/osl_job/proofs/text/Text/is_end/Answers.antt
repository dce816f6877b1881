use Rattle.std.proofs.Common.{◌∙◌, sym}
use Rattle.osl_job.proofs.Cutting.{end_of}
use Rattle.osl_job.proofs.text.Text.is_end.Goals as goal

pub returns : goal.returns
returns c = rw (← c.self.view_is) (c.is_empty.ensures ∙ sym (end_of c.self.inside.form c.self.inside.rest.now c.self.invariant))
