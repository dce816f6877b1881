use Rattle.std.proofs.Common.{arith}
use Rattle.std.specs.Prelude.{bit_or, length}
use Rattle.osl_bits.proofs.Lanes.{Combined-next}
use Rattle.osl_bits.proofs.Rows.{bit_of-union}
use Rattle.osl_bits.proofs.words.union_words.Goals as goal

pub returns : goal.returns
returns c =
    let whole = Combined-next bit_or c.args.words.now c.args.others.now c.union_vectors-done.new.words c.union_rest.new.words 0 c.union_vectors-done.result (length c.union_rest.new.words) (omega arith) (omega arith) c.union_vectors-done.ensures.words c.union_rest.ensures in
    bit_of-union c.union_rest.new.words c.args.words.now c.args.others.now (omega arith) (λ k b. whole.done k (omega arith) b) c.requires
