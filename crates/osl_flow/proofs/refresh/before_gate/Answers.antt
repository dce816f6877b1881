use Rattle.std.proofs.Common.{◌≡◌, length, get_or, arith, ap, ◌∙◌}
use Rattle.std.specs.Prelude.{slice_get, None, Some}
use Rattle.oso_code.specs.declared.op.Section.{Section}
use Rattle.osl_flow.specs.Table.{table_of}
use Rattle.osl_flow.specs.Uses.{bit}
use Rattle.osl_flow.specs.Ways.{spots_of}
use Rattle.osl_flow.proofs.Bits.{no_bit}
use Rattle.osl_flow.proofs.Live.{joined_any, gathered_gate}
use Rattle.osl_flow.proofs.Loops.{copied_at}
use Rattle.osl_flow.proofs.Sections.{valid_at_most}
use Rattle.osl_flow.proofs.refresh.before_gate.Goals as goal

pub section_nexts-nexts-requires : goal.section_nexts-nexts-requires
section_nexts-nexts-requires c = let h = (valid_at_most c.args.code.now c.requires.valid).sections in let w = c.requires.within in omega (arith, h, w)

pub returns-clause-bits : goal.returns-clause-bits
returns-clause-bits c = λ k.
    let raw = c.args.code.now in
    let table = table_of c.args.around.now in
    let none : Section = record { param = None; start = 0; end = 0 } in
    let section = get_or c.as_slice.result.now c.args.j none in
    let is : slice_get raw.sections c.args.j ≡ Some section = copied_at c.as_slice.result.now raw.sections c.args.j none c.as_slice.ensures (let e = ap length c.as_slice.ensures in let w = c.requires.within in omega (arith, e, w)) in
    let joined = joined_any raw table c.args.rows.now k c.op_count.result c.section_count.result (spots_of c.section_nexts-nexts.result) c.args.more.now c.join_nexts.new.more c.op_count.ensures c.section_count.ensures (ap (λ r. bit r k) c.requires.empty ∙ no_bit (length raw.symbols) k) (c.join_nexts.ensures.bits k) in
    gathered_gate raw table c.args.rows.now k c.args.j section (spots_of c.section_nexts-nexts.result) c.join_nexts.new.more is c.section_nexts-nexts.ensures joined
