use Rattle.std.proofs.Common.{length, arith, ap, ◌∙◌, subst, sym, ◌≡◌, ◌+◌}
use Rattle.std.specs.Prelude.{slice_get, Some}
use Rattle.oso_code.specs.Ranges.{steps_of}
use Rattle.oso_code.specs.Steps.{step_of}
use Rattle.oso_code.proofs.Decoding.{length_steps, step_at}
use Rattle.osl_flow.specs.Table.{table_of, Walked, marked}
use Rattle.osl_flow.proofs.Loops.{item_at}
use Rattle.osl_flow.proofs.Walk.{valid_laid, step_marked, walked_all}
use Rattle.osl_flow.proofs.table.note_ops.Goals as goal

pub loop-op-preserved : goal.loop-op-preserved
loop-op-preserved c =
    let raw = c.args.code.now in
    let n = length_steps raw.symbols 0 raw.ops in
    let here : slice_get raw.ops c.loop-op.op-index ≡ Some c.op-item.result = item_at c.as_slice-op-items.result.now raw.ops c.loop-op.op-index c.op-item.result c.as_slice-op-items.ensures (omega arith) c.op-item.is in
    let is = step_at raw c.loop-op.op-index c.op-item.result here in
    let m = step_marked (steps_of raw) raw.sections (valid_laid raw c.requires.valid) c.loop-op.op-index (step_of raw.symbols c.loop-op.op-index c.op-item.result) c.loop-op.table is (c.loop-op.invariant.size ∙ sym n) c.loop-op.invariant.walked in
    let e : c.mark.new.table ≡ marked c.loop-op.op-index (step_of raw.symbols c.loop-op.op-index c.op-item.result) (table_of c.loop-op.table c.loop-op.op-index) c.loop-op.table =
    c.mark.ensures raw.symbols ∙ ap (λ s. marked c.loop-op.i s (table_of c.loop-op.table c.loop-op.i) c.loop-op.table) (c.decode-step.ensures raw.symbols)
    ∙ ap (λ i. marked i (step_of raw.symbols i c.op-item.result) (table_of c.loop-op.table i) c.loop-op.table) c.loop-op.invariant.place in
    let size = m.size in
    record { place = omega arith; size = ap length e ∙ size ∙ n; walked = subst (λ t. Walked (steps_of raw) raw.sections (c.loop-op.op-index + 1) (table_of t)) (sym e) m.walked }

pub returns : goal.returns
returns c =
    let raw = c.args.code.now in
    let n = length_steps raw.symbols 0 raw.ops in
    let e : c.loop-op.op-index ≡ length (steps_of raw) = let m = ap length c.as_slice-op-items.ensures in omega (arith, n, m) in
    walked_all (steps_of raw) raw.sections (table_of c.loop-op.table) (subst (λ i. Walked (steps_of raw) raw.sections i (table_of c.loop-op.table)) e c.loop-op.invariant.walked)
