-- One bit of a word, as it is set or cleared.
use Rattle.std.proofs.Common.{sym}
use Rattle.std.specs.Int.{w64}
use Rattle.std.proofs.lemmas.Nat.Bits.{bit_at_set_same, bit_at_set_other, bit_at_clear_same, bit_at_clear_other}
use Rattle.osl_bits.proofs.words.with_bit.Goals as goal

pub returns-then-on-clause-same : goal.returns-then-on-clause-same
returns-then-on-clause-same c = rw (bit_at_set_same w64 c.args.word c.args.k c.requires) (sym c.if-on.true)

pub returns-then-on-clause-others : goal.returns-then-on-clause-others
returns-then-on-clause-others c = λ j b n. bit_at_set_other w64 c.args.word c.args.k c.requires j n

pub returns-else-on-clause-same : goal.returns-else-on-clause-same
returns-else-on-clause-same c = rw (bit_at_clear_same w64 c.args.word c.args.k c.requires) (sym c.if-on.false)

pub returns-else-on-clause-others : goal.returns-else-on-clause-others
returns-else-on-clause-others c = λ j b n. bit_at_clear_other w64 c.args.word c.args.k c.requires j b n
