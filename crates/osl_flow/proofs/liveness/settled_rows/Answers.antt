use Rattle.std.proofs.Common.{arith, sym, ◌∙◌, subst}
use Rattle.std.proofs.lemmas.List.{with_items_is}
use Rattle.osl_flow.specs.Flow.{AreSettled}
use Rattle.osl_flow.specs.Rows.{Reached, Sized}
use Rattle.osl_flow.specs.Table.{table_of}
use Rattle.osl_flow.proofs.Begin.{first_sized, rows_settled}
use Rattle.osl_flow.proofs.liveness.settled_rows.Goals as goal

pub settle-requires-clause-rows : goal.settle-requires-clause-rows
settle-requires-clause-rows c =
    let raw = c.args.code.now in
    let table = table_of c.args.around.now in
    subst (Sized raw table) (sym (c.deref_mut.ensures.value ∙ c.in_ok-rows.ensures)) (first_sized raw table c.args.asked.now c.requires.asked)

pub returns : goal.returns
returns c =
    let raw = c.args.code.now in
    let table = table_of c.args.around.now in
    let new = c.settle.new.rows in
    let reached = subst (λ rows. Reached raw table rows new) (c.deref_mut.ensures.value ∙ c.in_ok-rows.ensures) c.settle.ensures.reached in
    subst (AreSettled raw table c.args.asked.now) (sym (with_items_is c.in_ok-rows.rows new (omega arith)))
    (rows_settled raw table c.args.asked.now c.requires.asked new reached c.settle.ensures.settled)
