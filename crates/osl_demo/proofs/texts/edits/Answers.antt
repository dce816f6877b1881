use Rattle.std.proofs.Common.{◌*◌, ap}
use Rattle.osl_demo.specs.Draws.{after}
use Rattle.osl_demo.specs.Texts.{edit_line}
use Rattle.osl_demo.proofs.Appends.{added, two_more}
use Rattle.osl_demo.proofs.texts.edits.Goals as goal

pub loop-edit-preserved : goal.loop-edit-preserved
loop-edit-preserved c = (
  added c.loop-edit._edit (λ i. edit_line c.args.layers (after (2 * i) c.args.draws.now.state)) _ _ _ c.in_ok-write_edit.ensures.text c.loop-edit.invariant.0 (ap (edit_line c.args.layers) c.loop-edit.invariant.1),
  two_more c.loop-edit._edit c.args.draws.now.state _ _ c.loop-edit.invariant.1 c.in_ok-write_edit.ensures.state,
)
