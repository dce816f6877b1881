use Rattle.std.proofs.Common.{◌≡◌, ℕ, length, get_or, refl, ap, ◌∙◌, subst, sym}
use Rattle.osl_flow.specs.Rows.{IsReal, wanted, number}
use Rattle.osl_flow.specs.Table.{table_of}
use Rattle.osl_flow.specs.Uses.{bit}
use Rattle.osl_flow.proofs.Live.{grown}
use Rattle.osl_flow.proofs.refresh.refresh.Goals as goal
use Rattle.osl_flow.proofs.refresh.refresh.Goals.{in-At, in-Test, in-Gate, in-Done}

pub returns-clause-passed : goal.returns-clause-passed
returns-clause-passed c =
    let raw = c.args.code.now in
    let table = table_of c.args.around.now in
    let rows = c.args.rows.now in
    let bits : (k : ℕ) → bit c.match-spot.more k ≡ wanted raw table rows c.args.spot k = λ k.
    elim c.match-spot.branch [
      | in-At w ↦ ap (λ r. bit r k) w.more-is ∙ w.before_op.ensures.bits k ∙ sym (ap (λ p. wanted raw table rows p k) w.in-At.is)
      | in-Test w ↦ ap (λ r. bit r k) w.more-is ∙ w.before_test.ensures.bits k ∙ sym (ap (λ p. wanted raw table rows p k) w.in-Test.is)
      | in-Gate w ↦ ap (λ r. bit r k) w.more-is ∙ w.before_gate.ensures.bits k ∙ sym (ap (λ p. wanted raw table rows p k) w.in-Gate.is)
      | in-Done w ↦ absurd (subst (IsReal raw) w.in-Done.is c.requires.real)
    ] in
    let place : c.number-at.result ≡ number (length raw.ops) (length raw.sections) c.args.spot =
    c.number-at.ensures ∙ ap (λ n. number n c.section_count.result c.match-spot.spot) c.op_count.ensures ∙ ap (λ m. number (length raw.ops) m c.match-spot.spot) c.section_count.ensures
    ∙ ap (number (length raw.ops) (length raw.sections)) (elim c.match-spot.branch [ in-At w ↦ w.spot-is ∙ sym w.in-At.is | in-Test w ↦ w.spot-is ∙ sym w.in-Test.is | in-Gate w ↦ w.spot-is ∙ sym w.in-Gate.is | in-Done w ↦ absurd (subst (IsReal raw) w.in-Done.is c.requires.real) ]) in
    let row = get_or rows c.number-at.result c.index-rows-at.result in
    grown raw table rows c.args.spot c.number-at.result row c.match-spot.more c.add.new.row c.index-rows-at.result c.add.result c.requires.real c.requires.rows place refl bits c.add.ensures.len c.add.ensures.bits c.add.ensures.still c.add.ensures.rises
