use Rattle.std.proofs.Common.{◌≡◌, ◌+◌, length, get_or, arith, ap, ◌∙◌, subst, sym}
use Rattle.std.specs.Prelude.{slice_get, None, Some}
use Rattle.oso_code.specs.declared.op.Section.{Section}
use Rattle.oso_code.specs.Ranges.{steps_of}
use Rattle.oso_code.proofs.Decoding.{length_steps}
use Rattle.osl_rewrites.specs.Flow.{within_section}
use Rattle.osl_flow.specs.Table.{table_of, noted}
use Rattle.osl_flow.proofs.Loops.{copied_at}
use Rattle.osl_flow.proofs.Sections.{valid_at_most}
use Rattle.osl_flow.proofs.Walk.{Begun, valid_laid, section_begun, section_size, begun_all}
use Rattle.osl_flow.proofs.table.note_sections.Goals as goal

pub within_section-requires : goal.within_section-requires
within_section-requires c =
    let h = (valid_at_most c.args.code.now c.requires.valid).sections in
    let e = ap length c.as_slice-section-items.ensures in
    let p = c.loop-section.invariant.place in
    omega (arith, h, e, p)

pub loop-section-preserved : goal.loop-section-preserved
loop-section-preserved c =
    let raw = c.args.code.now in
    let none : Section = record { param = None; start = 0; end = 0 } in
    let section = get_or c.as_slice-section-items.result.now c.loop-section.section-index none in
    let is : slice_get raw.sections c.loop-section.section-index ≡ Some section = copied_at c.as_slice-section-items.result.now raw.sections c.loop-section.section-index none c.as_slice-section-items.ensures (omega arith) in
    let n = length_steps raw.symbols 0 raw.ops in
    let i = c.loop-section.section-index in
    let e : c.note.new.table ≡ noted section.start (within_section i section) c.loop-section.table =
    c.note.ensures ∙ ap (λ a. noted section.start a c.loop-section.table) (c.within_section.ensures ∙ ap (λ j. within_section j section) c.loop-section.invariant.place) in
    record {
      place = omega arith;
      size = ap length e ∙ section_size (steps_of raw) raw.sections (valid_laid raw c.requires.valid) i section c.loop-section.table ∙ c.loop-section.invariant.size;
      begun = λ laid. subst (λ t. Begun (steps_of raw) raw.sections laid (i + 1) (table_of t)) (sym e)
          (section_begun (steps_of raw) raw.sections laid i section c.loop-section.table is (c.loop-section.invariant.size ∙ sym n) (c.loop-section.invariant.begun laid));
    }

pub returns-clause-walked : goal.returns-clause-walked
returns-clause-walked c =
    let raw = c.args.code.now in
    let laid = valid_laid raw c.requires.valid in
    let n = ap length c.as_slice-section-items.ensures in
    let e : c.loop-section.section-index ≡ length raw.sections = omega (arith, n) in
    begun_all (steps_of raw) raw.sections laid (table_of c.loop-section.table) (subst (λ j. Begun (steps_of raw) raw.sections laid j (table_of c.loop-section.table)) e (c.loop-section.invariant.begun laid))
