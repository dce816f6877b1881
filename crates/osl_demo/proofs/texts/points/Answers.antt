use Rattle.std.proofs.Common.{◌*◌, ap}
use Rattle.osl_demo.specs.Draws.{after}
use Rattle.osl_demo.specs.Texts.{point_line}
use Rattle.osl_demo.proofs.Appends.{added, two_more}
use Rattle.osl_demo.proofs.texts.points.Goals as goal

pub loop-point-preserved : goal.loop-point-preserved
loop-point-preserved c = (
  added c.loop-point._point (λ i. point_line (after (2 * i) c.args.draws.now.state)) _ _ _ c.in_ok-write_point.ensures.text c.loop-point.invariant.0 (ap point_line c.loop-point.invariant.1),
  two_more c.loop-point._point c.args.draws.now.state _ _ c.loop-point.invariant.1 c.in_ok-write_point.ensures.state,
)
