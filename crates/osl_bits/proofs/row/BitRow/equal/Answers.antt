use Rattle.std.proofs.Common.{arith}
use Rattle.osl_bits.proofs.Rows.{as_many_words, rows_same}
use Rattle.osl_bits.proofs.row.BitRow.equal.Goals as goal

pub equal_words-requires : goal.equal_words-requires
equal_words-requires c = omega (arith, as_many_words c.self.inside.words.items c.other.inside.words.items c.self.inside.len c.other.inside.len c.args.self.now c.args.other.now c.self.invariant c.other.invariant c.self.view_is c.other.view_is c.requires)

pub returns : goal.returns
returns c =
    let bits = rw (c.deref.ensures.value, c.deref-2.ensures.value) at c.equal_words.ensures in
    let same = rows_same c.self.inside.words.items c.other.inside.words.items c.self.inside.len c.other.inside.len c.args.self.now c.args.other.now c.self.invariant c.other.invariant c.self.view_is c.other.view_is c.requires in
    (λ t. same.0 (bits.0 t), λ e. bits.1 (same.1 e))
