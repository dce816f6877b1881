use Rattle.std.proofs.Common.{◌≡◌, ◌-◌, ◌||◌, false, sym, ◌∙◌, subst, arith, ⊎_elim}
use Rattle.std.proofs.lemmas.Bool.{cases_eq, or_parts}
use Rattle.osl_flow.specs.Rows.{Passed, SettledOp}
use Rattle.osl_flow.specs.Table.{table_of}
use Rattle.osl_flow.proofs.Rounds.{passed_none, passed_two, op_settled_on}
use Rattle.osl_flow.proofs.passes.pass_ops.Goals as goal

pub loop-i-preserved : goal.loop-i-preserved
loop-i-preserved c =
    let raw = c.args.code.now in
    let table = table_of c.args.around.now in
    let old = c.loop-i.rows in
    let now = c.refresh_op-now in
    let two = c.loop-i.changed || now.result in
    record {
      within = omega arith;
      passed = subst (Passed raw table c.args.rows.now now.new.rows) (sym c.one_of-changed.ensures)
          (passed_two raw table c.args.rows.now now.new.rows now.new.rows two false
          (passed_two raw table c.args.rows.now old now.new.rows c.loop-i.changed now.result c.loop-i.invariant.passed now.ensures.passed)
          (passed_none raw table now.new.rows now.ensures.passed.sized));
      settled = λ e k lo hi.
          let none = or_parts c.loop-i.changed now.result (or_parts two false (sym c.one_of-changed.ensures ∙ e)).0 in
          ⊎_elim
          (λ (here : k ≡ c.loop-i.i - 1). subst (SettledOp raw table now.new.rows) (sym here) (now.ensures.settled none.1))
          (λ (other : k ≡ c.loop-i.i - 1 → ⊥). op_settled_on raw table old now.new.rows now.result k now.ensures.passed none.1 (c.loop-i.invariant.settled none.0 k (omega arith) hi))
          (cases_eq k (c.loop-i.i - 1));
      emptied = now.ensures.emptied;
    }

pub returns-clause-settled : goal.returns-clause-settled
returns-clause-settled c = λ e i lo hi. c.loop-i.invariant.settled e i (omega arith) hi
