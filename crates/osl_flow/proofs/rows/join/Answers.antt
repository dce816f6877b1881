use Rattle.std.proofs.Common.{◌≡◌, ◌||◌, ◌<◌, [], length, ap, sym, ◌∙◌, get_or}
use Rattle.std.proofs.lemmas.Bool.{ltb-true}
use Rattle.std.proofs.lemmas.List.{get_or_read}
use Rattle.osl_flow.specs.Uses.{bit}
use Rattle.osl_flow.proofs.Bits.{bit_union}
use Rattle.osl_flow.proofs.rows.join.Goals as goal

pub returns-in-Some-clause-bits : goal.returns-in-Some-clause-bits
returns-in-Some-clause-bits c = λ k.
    let found = c.in-Some.ensures.lookup in
    let lt : c.args.at < length c.args.rows.now = ltb-true c.args.at (length c.args.rows.now) (sym found.0) in
    let e : c.in-Some.row.now ≡ get_or c.args.rows.now c.args.at [] = get_or_read c.args.rows.now c.args.at c.in-Some.row.now lt found.1 [] in
    ap (λ row. bit row k) c.union_with.ensures.bits ∙ bit_union c.args.more.now c.in-Some.row.now k (sym (ap length e ∙ c.requires.each c.args.at [] lt))
    ∙ ap (λ row. bit c.args.more.now k || bit row k) e
