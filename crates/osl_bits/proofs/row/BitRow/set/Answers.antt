use Rattle.std.proofs.Common.{◌≡◌, ◌/◌, ap, ◌∙◌, get_or, set, arith}
use Rattle.std.proofs.lemmas.List.{get_or_read}
use Rattle.osl_bits.proofs.Rows.{place_of, length_of, bits_of-set, IsRow-set, Sets}
use Rattle.osl_bits.proofs.row.BitRow.set.Goals as goal

pub index-requires : goal.index-requires
index-requires c = omega (arith, place_of c.self.inside.words.items c.self.inside.len c.args.i c.args.self.now c.self.invariant c.self.view_is c.requires)

pub index_mut-requires : goal.index_mut-requires
index_mut-requires c = omega (arith, place_of c.self.inside.words.items c.self.inside.len c.args.i c.args.self.now c.self.invariant c.self.view_is c.requires)

pub invariant_of-self : goal.invariant_of-self
invariant_of-self c =
    let words = c.self.inside.words.items in
    let within = place_of words c.self.inside.len c.args.i c.args.self.now c.self.invariant c.self.view_is c.requires in
    let here : c.index.result.now ≡ get_or words (c.args.i / 64) 0 = get_or_read words (c.args.i / 64) c.index.result.now within c.index.ensures 0 in
    let sets : Sets words c.args.i c.args.on c.with_bit.result = record { within = within; same = c.with_bit.ensures.same; others = rw here at c.with_bit.ensures.others } in
    IsRow-set words c.self.inside.len c.args.i c.with_bit.result c.args.on (omega (arith, length_of words c.self.inside.len c.args.self.now c.self.view_is)) c.self.invariant sets

pub returns : goal.returns
returns c =
    let words = c.self.inside.words.items in
    let within = place_of words c.self.inside.len c.args.i c.args.self.now c.self.invariant c.self.view_is c.requires in
    let here : c.index.result.now ≡ get_or words (c.args.i / 64) 0 = get_or_read words (c.args.i / 64) c.index.result.now within c.index.ensures 0 in
    let sets : Sets words c.args.i c.args.on c.with_bit.result = record { within = within; same = c.with_bit.ensures.same; others = rw here at c.with_bit.ensures.others } in
    bits_of-set words c.self.inside.len c.args.i c.with_bit.result c.args.on (omega (arith, length_of words c.self.inside.len c.args.self.now c.self.view_is)) sets
    ∙ ap (λ row. set row c.args.i c.args.on) c.self.view_is
