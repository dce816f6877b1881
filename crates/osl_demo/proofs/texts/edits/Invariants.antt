use Rattle.std.proofs.Common.{◌≡◌, ◌*◌}
use Rattle.osl_demo.specs.Draws.{after}
use Rattle.osl_demo.specs.Texts.{joined, edit_line}
use Rattle.osl_demo.proofs.texts.edits.Given as goal

abbrev pub invariant-loop-edit : goal.invariant-loop-edit
invariant-loop-edit l =
    (l.out.items ≡ joined l._edit (λ i. edit_line l.layers (after (2 * i) l.initial.draws.state))) ×
    (l.draws.state ≡ after (2 * l._edit) l.initial.draws.state)
