use Rattle.std.proofs.Common.{◌||◌, ◌<◌, [], length, ap, sym, ◌∙◌, subst}
use Rattle.std.proofs.lemmas.List.Elements.{All-head}
use Rattle.oso_code.specs.Uses.{reads_in_test}
use Rattle.oso_step.specs.Decoded.{seen_step}
use Rattle.osl_flow.specs.Rows.{UsesBelow}
use Rattle.osl_flow.specs.Uses.{bit, has}
use Rattle.osl_flow.proofs.Bits.{set_one}
use Rattle.osl_flow.proofs.rows.pass_test.Goals as goal

pub set-requires : goal.set-requires
set-requires c =
    let u = subst (λ s. UsesBelow (length c.args.more.now) (seen_step [] s)) c.in-Loop.is (c.requires []) in
    All-head (λ k. k < length c.args.more.now) c.in-Loop.l.condition [] u.test

pub returns-in-Loop-clause-bits : goal.returns-in-Loop-clause-bits
returns-in-Loop-clause-bits c = λ symbols k.
    let u = subst (λ s. UsesBelow (length c.args.more.now) (seen_step [] s)) c.in-Loop.is (c.requires []) in
    let lt = All-head (λ k. k < length c.args.more.now) c.in-Loop.l.condition [] u.test in
    ap (λ row. bit row k) c.set.ensures ∙ set_one c.args.more.now c.in-Loop.l.condition k lt
    ∙ sym (ap (λ s. bit c.args.more.now k || has (reads_in_test (seen_step symbols s)) k) c.in-Loop.is)
