use Rattle.std.proofs.Common.{arith}
use Rattle.std.specs.Prelude.{length}
use Rattle.osl_bits.specs.Words.{word_minus}
use Rattle.osl_bits.proofs.Lanes.{Combined-next}
use Rattle.osl_bits.proofs.Rows.{bit_of-minus}
use Rattle.osl_bits.proofs.words.minus_words.Goals as goal

pub returns : goal.returns
returns c =
    let whole = Combined-next word_minus c.args.words.now c.args.others.now c.minus_vectors-done.new.words c.minus_rest.new.words 0 c.minus_vectors-done.result (length c.minus_rest.new.words) (omega arith) (omega arith) c.minus_vectors-done.ensures.words c.minus_rest.ensures in
    bit_of-minus c.minus_rest.new.words c.args.words.now c.args.others.now (omega arith) (λ k b. whole.done k (omega arith) b) c.requires (λ k. omega (arith, c.type_inv.others k))
