use Rattle.std.proofs.Common.{◌≡◌, ◌++◌}
use Rattle.osl_demo.specs.Draws.{after}
use Rattle.osl_demo.specs.Texts.{joined, next_layer}
use Rattle.osl_demo.proofs.texts.group.Given as goal

abbrev pub invariant-loop-source : goal.invariant-loop-source
invariant-loop-source l =
    (l.out.items ≡ l.initial.out.items ++ joined l.source (λ i. next_layer (after i l.initial.draws.state) i)) ×
    (l.draws.state ≡ after l.source l.initial.draws.state)
