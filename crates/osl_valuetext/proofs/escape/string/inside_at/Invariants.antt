use Rattle.std.proofs.Common.{◌≡◌, drop}
use Rattle.osl_valuetext.specs.declared.escape.Pending.TheVariants.{Nothing}
use Rattle.osl_valuetext.specs.Literals.{inside_at}
use Rattle.osl_valuetext.proofs.Inside.{with_front}
use Rattle.osl_valuetext.proofs.escape.string.inside_at.Given as goal

-- the bytes so far, and those of what is left, are all
abbrev pub invariant-loop-byte : goal.invariant-loop-byte
invariant-loop-byte l = with_front l.bytes.items (inside_at l.pending (drop l.byte-index l.inside)) ≡ inside_at Nothing l.inside
