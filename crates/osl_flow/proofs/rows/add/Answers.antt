use Rattle.std.proofs.Common.{◌≡◌, ◌<◌, ap, sym, ◌∙◌, subst}
use Rattle.osl_bits.specs.Row.{union, minus}
use Rattle.osl_flow.specs.Rows.{lacks}
use Rattle.osl_flow.specs.Uses.{bit}
use Rattle.osl_flow.proofs.Bits.{added_bits, kept_bits, emptied, less}
use Rattle.std.proofs.lemmas.Bool.{both_ways}
use Rattle.osl_flow.proofs.rows.add.Goals as goal

pub returns-then-equal-clause-bits : goal.returns-then-equal-clause-bits
returns-then-equal-clause-bits c = kept_bits c.args.row.now c.args.more.now c.requires.size (sym c.minus_with.ensures.bits ∙ c.equal.ensures.0 c.if-equal.true ∙ c.requires.none)

pub returns-clause-bits : goal.returns-clause-bits
returns-clause-bits c = λ k.
    ap (λ row. bit row k) (c.union_with.ensures.bits ∙ ap (union c.args.row.now) c.minus_with.ensures.bits) ∙ added_bits c.args.row.now c.args.more.now c.requires.size k

pub returns-clause-emptied : goal.returns-clause-emptied
returns-clause-emptied c =
    let row = c.args.row.now in
    let more = c.args.more.now in
    let joined : c.union_with.new.self ≡ union row (minus more row) = c.union_with.ensures.bits ∙ ap (union row) c.minus_with.ensures.bits in
    c.minus_with-2.ensures.bits ∙ ap (λ r. minus r c.union_with.new.self) c.minus_with.ensures.bits ∙ ap (minus (minus more row)) joined ∙ emptied row more c.requires.size

pub returns-clause-rises : goal.returns-clause-rises
returns-clause-rises c = λ t.
    let row = c.args.row.now in
    let more = c.args.more.now in
    let joined : c.union_with.new.self ≡ union row (minus more row) = c.union_with.ensures.bits ∙ ap (union row) c.minus_with.ensures.bits in
    subst (λ r. lacks r < lacks row) (sym joined)
    (less row more c.requires.size (λ none. both_ways c.equal.result c.if-equal.false (c.equal.ensures.1 (c.minus_with.ensures.bits ∙ none ∙ sym c.requires.none))))
