use Rattle.std.proofs.Common.{arith}
use Rattle.std.specs.Prelude.{length}
use Rattle.osl_bits.proofs.Lanes.{SameWords-next, same_words}
use Rattle.osl_bits.proofs.words.equal_words.Goals as goal

pub returns : goal.returns
returns c =
    let words = c.args.words.now in
    let others = c.args.others.now in
    let rows = same_words words others c.requires (λ k. omega (arith, c.type_inv.words k)) (λ k. omega (arith, c.type_inv.others k)) in (
      λ t. rows.0 (SameWords-next words others 0 c.same_vectors-same.result (length words) c.same_vectors-same.ensures.same (c.equal_rest.ensures.0 t)),
      λ bits. c.equal_rest.ensures.1 (λ k a b. rows.1 bits k (omega arith) b),
    )
