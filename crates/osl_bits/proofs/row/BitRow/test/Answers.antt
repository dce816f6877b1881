use Rattle.std.proofs.Common.{◌≡◌, ◌==◌, ◌%◌, ◌/◌, get_or, ap, ◌∙◌, arith}
use Rattle.std.specs.Int.{bit_at}
use Rattle.std.proofs.lemmas.List.{get_or_read}
use Rattle.osl_bits.specs.Bits.{bit_of}
use Rattle.osl_bits.proofs.Rows.{place_of, test_of}
use Rattle.osl_bits.proofs.row.BitRow.test.Goals as goal

pub index-requires : goal.index-requires
index-requires c = omega (arith, place_of c.self.inside.words.items c.self.inside.len c.args.i c.args.self.now c.self.invariant c.self.view_is c.requires)

pub returns : goal.returns
returns c =
    let words = c.self.inside.words.items in
    let here : c.index.result.now ≡ get_or words (c.args.i / 64) 0 = get_or_read words (c.args.i / 64) c.index.result.now (place_of words c.self.inside.len c.args.i c.args.self.now c.self.invariant c.self.view_is c.requires) c.index.ensures 0 in
    let bit : c.has_bit.result ≡ bit_of words c.args.i = c.has_bit.ensures ∙ ap (λ w. bit_at w (c.args.i % 64) == 1) here in
    rw bit (test_of words c.self.inside.len c.args.i c.args.self.now c.self.view_is c.requires)
