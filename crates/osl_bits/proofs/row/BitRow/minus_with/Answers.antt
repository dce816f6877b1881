use Rattle.std.proofs.Common.{◌∙◌, ap, length, refl, arith}
use Rattle.std.specs.Prelude.{◌&&◌, not}
use Rattle.std.proofs.lemmas.List.{with_items_is}
use Rattle.osl_bits.specs.Bits.{bits_of}
use Rattle.osl_bits.proofs.Rows.{as_many_words, view_combined, kept_length, IsRow-combined}
use Rattle.osl_bits.proofs.row.BitRow.minus_with.Goals as goal

pub minus_words-requires : goal.minus_words-requires
minus_words-requires c = omega (arith, as_many_words c.self.inside.words.items c.other.inside.words.items c.self.inside.len c.other.inside.len c.args.self.now c.args.other.now c.self.invariant c.other.invariant c.self.view_is c.other.view_is c.requires)

pub invariant_of-self : goal.invariant_of-self
invariant_of-self c =
    let bits = rw (c.deref_mut.ensures.value, c.deref.ensures.value) at c.minus_words.ensures in
    rw (with_items_is c.self.inside.words c.minus_words.new.words (omega arith))
    (IsRow-combined (λ x y. x && not y) refl c.minus_words.new.words c.self.inside.words.items c.other.inside.words.items c.self.inside.len c.other.inside.len c.args.self.now c.args.other.now c.self.invariant c.other.invariant c.self.view_is c.other.view_is c.requires (c.minus_words.auto.words ∙ ap length c.deref_mut.ensures.value) bits)

pub returns-clause-bits : goal.returns-clause-bits
returns-clause-bits c =
    let bits = rw (c.deref_mut.ensures.value, c.deref.ensures.value) at c.minus_words.ensures in
    ap (λ words. bits_of words c.self.inside.len) (with_items_is c.self.inside.words c.minus_words.new.words (omega arith))
    ∙ view_combined (λ x y. x && not y) c.minus_words.new.words c.self.inside.words.items c.other.inside.words.items c.self.inside.len c.other.inside.len c.args.self.now c.args.other.now c.self.view_is c.other.view_is c.requires bits

pub returns-clause-len : goal.returns-clause-len
returns-clause-len c =
    ap (λ words. length (bits_of words c.self.inside.len)) (with_items_is c.self.inside.words c.minus_words.new.words (omega arith))
    ∙ kept_length c.self.inside.words.items c.minus_words.new.words c.self.inside.len c.args.self.now (bits_of c.minus_words.new.words c.self.inside.len) c.self.view_is refl
