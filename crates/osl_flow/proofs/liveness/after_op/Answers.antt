use Rattle.std.proofs.Common.{◌≡◌, length, get_or, arith, ap, ◌∙◌}
use Rattle.std.specs.Prelude.{slice_get, Some}
use Rattle.std.proofs.lemmas.List.{get_or_default}
use Rattle.oso_code.specs.Steps.{step_of}
use Rattle.oso_code.proofs.Decoding.{step_at}
use Rattle.oso_step.specs.Decoded.{seen_step}
use Rattle.osl_rewrites.specs.declared.point.Around.{Around}
use Rattle.osl_rewrites.specs.declared.point.Spot.TheVariants as Spots
use Rattle.osl_flow.specs.Table.{nowhere, table_of}
use Rattle.osl_flow.specs.Uses.{bit}
use Rattle.osl_flow.specs.Ways.{spots_of}
use Rattle.osl_flow.proofs.Bits.{no_bit}
use Rattle.osl_flow.proofs.Live.{joined_any, after_any}
use Rattle.osl_flow.proofs.Loops.{item_at}
use Rattle.osl_flow.proofs.liveness.after_op.Goals as goal

pub returns-clause-bits : goal.returns-clause-bits
returns-clause-bits c = λ k.
    let raw = c.args.code.now in
    let table = table_of c.args.around.now in
    let i = c.args.i in
    let blank : Around = record { end = 0; next = Spots.At 0; breaks = Spots.At 0; continues = Spots.At 0; returns = Spots.At 0 } in
    let a = get_or c.args.around.now i blank in
    let op = c.index-as_slice-i.result in
    let here : slice_get raw.ops i ≡ Some op = item_at c.as_slice.result.now raw.ops i op c.as_slice.ensures (let e = ap length c.as_slice.ensures in let w = c.requires.within in omega (arith, e, w)) c.index-as_slice-i.is in
    let spots = spots_of c.op_nexts-nexts.result in
    let joined = joined_any raw table c.args.rows.now k c.op_count.result c.section_count.result spots c.in_ok-row.row c.join_nexts.new.more c.op_count.ensures c.section_count.ensures (ap (λ r. bit r k) c.in_ok-row.ensures ∙ no_bit c.symbol_count.result k) (c.join_nexts.ensures.bits k) in
    after_any raw table c.args.rows.now k i a (seen_step raw.symbols c.decode-step.result) (step_of raw.symbols i op) spots c.join_nexts.new.more (step_at raw i op here)
    (get_or_default c.args.around.now i blank nowhere (let t = c.requires.table in let w = c.requires.within in omega (arith, t, w))) (c.decode-step.ensures raw.symbols) (c.op_nexts-nexts.ensures raw.symbols) joined
