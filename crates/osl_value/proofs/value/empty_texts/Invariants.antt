-- There is an empty text for each turn so far.
use Rattle.std.proofs.Common.{◌≡◌, replicate, []}
use Rattle.osl_value.proofs.value.empty_texts.Given as goal

abbrev pub invariant-loop-i : goal.invariant-loop-i
invariant-loop-i l = l.texts.items ≡ replicate l._i []
