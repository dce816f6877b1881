use Rattle.std.proofs.Common.{◌≡◌, ◌-◌, ◌<◌, ◌||◌, length, get_or, ap, sym, ◌∙◌, subst, arith, ⊎_elim}
use Rattle.std.specs.Prelude.{slice_get, None, Some}
use Rattle.std.proofs.lemmas.Bool.{cases_eq, or_parts}
use Rattle.oso_code.specs.declared.op.Section.{Section}
use Rattle.oso_code.proofs.Chained.{section_within}
use Rattle.oso_code.proofs.Decoding.{length_steps}
use Rattle.oso_code.proofs.Fitting.{some_same}
use Rattle.osl_flow.specs.Rows.{Passed, SettledSection}
use Rattle.osl_flow.specs.Table.{table_of}
use Rattle.osl_flow.proofs.Loops.{copied_at}
use Rattle.osl_flow.proofs.Rounds.{passed_two, op_settled_on, sections_settled}
use Rattle.osl_flow.proofs.passes.pass.Goals as goal

pub pass_ops-ops-requires-clause-within : goal.pass_ops-ops-requires-clause-within
pass_ops-ops-requires-clause-within c =
    let raw = c.args.code.now in
    let none : Section = record { param = None; start = 0; end = 0 } in
    let j = c.loop-j.j - 1 in
    let lt : j < length c.as_slice.result.now = let e = ap length c.as_slice.ensures in let w = c.loop-j.invariant.within in omega (arith, e, w) in
    let h = section_within raw c.requires.valid j (get_or c.as_slice.result.now j none) (copied_at c.as_slice.result.now raw.sections j none c.as_slice.ensures lt) in
    let n = length_steps raw.symbols 0 raw.ops in
    omega (arith, h, n)

pub loop-j-preserved : goal.loop-j-preserved
loop-j-preserved c =
    let raw = c.args.code.now in
    let table = table_of c.args.around.now in
    let none : Section = record { param = None; start = 0; end = 0 } in
    let j = c.loop-j.j - 1 in
    let lt : j < length c.as_slice.result.now = let e = ap length c.as_slice.ensures in let w = c.loop-j.invariant.within in omega (arith, e, w) in
    let mine = get_or c.as_slice.result.now j none in
    let here : slice_get raw.sections j ≡ Some mine = copied_at c.as_slice.result.now raw.sections j none c.as_slice.ensures lt in
    let old = c.loop-j.rows in
    let ops = c.pass_ops-ops in
    let gate = c.refresh-gate in
    let two = c.loop-j.changed || ops.result in
    record {
      within = let w = c.loop-j.invariant.within in omega (arith, w);
      passed = subst (Passed raw table c.args.rows.now gate.new.rows) (sym c.one_of-changed.ensures)
          (passed_two raw table c.args.rows.now ops.new.rows gate.new.rows two gate.result
          (passed_two raw table c.args.rows.now old ops.new.rows c.loop-j.changed ops.result c.loop-j.invariant.passed ops.ensures.passed)
          gate.ensures.passed);
      settled = λ e k section lo is.
          let parts = or_parts two gate.result (sym c.one_of-changed.ensures ∙ e) in
          let stays = or_parts c.loop-j.changed ops.result parts.0 in
          ⊎_elim
          (λ (same : k ≡ j).
          let equal : mine ≡ section = some_same mine section (sym here ∙ ap (slice_get raw.sections) (sym same) ∙ is) in
          subst (λ z. SettledSection raw table gate.new.rows z section) (sym same)
          (subst (λ z. SettledSection raw table gate.new.rows j z) equal
          (λ i a b. op_settled_on raw table ops.new.rows gate.new.rows gate.result i gate.ensures.passed parts.1 (ops.ensures.settled stays.1 i a b), gate.ensures.settled parts.1)))
          (λ (other : k ≡ j → ⊥).
          subst (λ rows. SettledSection raw table rows k section) (sym (gate.ensures.passed.still parts.1 ∙ ops.ensures.passed.still stays.1))
          (c.loop-j.invariant.settled stays.0 k section (omega arith) is))
          (cases_eq k j);
      emptied = gate.ensures.emptied;
    }

pub returns-clause-settled : goal.returns-clause-settled
returns-clause-settled c = λ e p real. sections_settled c.args.code.now (table_of c.args.around.now) c.requires.valid c.loop-j.rows (λ j section is. c.loop-j.invariant.settled e j section (omega arith) is) p real
