use Rattle.std.proofs.Common.{true, ◌≡◌, ◌<◌, sym, ap, subst, ◌∙◌, arith, get_or, below_more, get_or-set_other, get_or-set_same, length-set, ◌≢◌, length}
use Rattle.osl_value.specs.AnyValue.{type_of}
use Rattle.osl_value.specs.Forms.{ANumber, fits, seen_of}
use Rattle.osl_apply.specs.Slots.{seen}
use Rattle.osl_apply.specs.Operands.{numbers_held}
use Rattle.osl_apply.proofs.Forms.{number_seen}
use Rattle.osl_apply.proofs.Holding.{held_is, below_at, number_at_place, number_held_at, length_numbers}
use Rattle.osl_apply.proofs.Values.{same_items}
use Rattle.osl_apply.proofs.matrices.by_rows.Goals as goal

pub bounds-slots-sources : goal.bounds-slots-sources
bounds-slots-sources c = let n = c.requires.count in below_at _ c.args.sources.now c.loop-k.k c.requires.places (omega (arith, n))

pub number-requires : goal.number-requires
number-requires c =
    let n = c.requires.count in
    let below : c.loop-k.k < length c.args.sources.now = omega (arith, n) in
    subst (λ v. fits ANumber (type_of v) ≡ true)
    (held_is c.args.slots.now (get_or c.args.sources.now c.loop-k.k 0) c.index-slots-sources.result (below_at _ c.args.sources.now c.loop-k.k c.requires.places below) ∙ ap seen (sym c.index-slots-sources.is))
    (number_at_place c.args.slots.now c.args.sources.now c.loop-k.k c.requires.numbers below)

pub loop-k-preserved : goal.loop-k-preserved
loop-k-preserved c =
    let n = c.requires.count in
    let m = c.loop-k.invariant.count in
    let slots = c.args.slots.now in
    let sources = c.args.sources.now in
    let below : c.loop-k.k < length sources = omega (arith, n) in
    let value = number_seen (seen c.index-slots-sources.result) c.number.result c.number.ensures.floats
    ∙ ap (λ s. seen_of ANumber (seen s)) c.index-slots-sources.is
    ∙ ap (seen_of ANumber) (sym (held_is slots (get_or sources c.loop-k.k 0) c.index-slots-sources.result (below_at _ sources c.loop-k.k c.requires.places below)))
    ∙ sym (number_held_at slots sources c.loop-k.k below) in
    record {
      count = length-set c.loop-k.matrix c.loop-k.k c.number.result ∙ m;
      filled = below_more _ _
          (λ j h. let other : j ≢ c.loop-k.k = omega arith in rw get_or-set_other (c.loop-k.invariant.filled j h))
          (let lt : c.loop-k.k < length c.loop-k.matrix = omega (arith, m) in rw get_or-set_same value);
    }

pub returns : goal.returns
returns c =
    let n = c.requires.count in
    same_items 16 c.loop-k.matrix (numbers_held c.args.slots.now c.args.sources.now) c.loop-k.invariant.count (length_numbers c.args.slots.now c.args.sources.now ∙ n)
    (λ j below. c.loop-k.invariant.filled j (omega arith))
