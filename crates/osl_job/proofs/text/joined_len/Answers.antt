use Rattle.std.proofs.Common.{◌≡◌, arith, drop, refl, ap, sym, ◌∙◌}
use Rattle.std.proofs.lemmas.List.{drop_all}
use Rattle.osl_job.specs.Text.{is_joined, joined_len}
use Rattle.osl_job.proofs.Cutting.{apart_at, goes_on_at, joined_len_none}
use Rattle.osl_job.proofs.text.joined_len.Goals as goal

pub returns-then-not-is_joined-clause-count : goal.returns-then-not-is_joined-clause-count
returns-then-not-is_joined-clause-count c =
    omega (
      arith,
      c.loop-at.invariant,
      apart_at c.args.form c.args.text.now c.loop-at.at _ c.loop-at-test.true refl
          (ap is_joined (sym c.class_of.ensures) ∙ sym c.is_joined.ensures ∙ c.if-not-is_joined.true),
    )

pub loop-at-preserved : goal.loop-at-preserved
loop-at-preserved c =
    omega (
      arith,
      c.loop-at.invariant,
      goes_on_at c.args.form c.args.text.now c.loop-at.at _ c.loop-at-test.true refl
          (ap is_joined (sym c.class_of.ensures) ∙ sym c.is_joined.ensures ∙ c.if-not-is_joined.false),
    )

pub returns-clause-count : goal.returns-clause-count
returns-clause-count c =
    let none : joined_len c.args.form (drop c.loop-at.at c.args.text.now) ≡ 0 = ap (joined_len c.args.form) (drop_all c.loop-at.at c.args.text.now c.loop-at-test.false) ∙ joined_len_none c.args.form in
    omega (arith, c.loop-at.invariant, none)
