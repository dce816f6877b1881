use Rattle.std.proofs.Common.{ap, ◌∙◌}
use Rattle.osl_bits.specs.Bits.{bits_of}
use Rattle.osl_bits.proofs.Rows.{bits_of-zeros}
use Rattle.osl_bits.proofs.row.BitRow.make.Goals as goal

pub returns : goal.returns
returns c = ap (λ words. bits_of words c.args.len) (c.in_ok-words.ensures.items_if_clones_equal (λ y e. e)) ∙ bits_of-zeros c.div_ceil.result c.args.len
