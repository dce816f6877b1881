use Rattle.std.proofs.Common.{◌≡◌, ◌*◌}
use Rattle.osl_demo.specs.Draws.{after}
use Rattle.osl_demo.specs.Texts.{joined, point_line}
use Rattle.osl_demo.proofs.texts.points.Given as goal

abbrev pub invariant-loop-point : goal.invariant-loop-point
invariant-loop-point l =
    (l.out.items ≡ joined l._point (λ i. point_line (after (2 * i) l.initial.draws.state))) ×
    (l.draws.state ≡ after (2 * l._point) l.initial.draws.state)
