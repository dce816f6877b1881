use Rattle.osl_demo.specs.Texts.{line_end}
use Rattle.osl_demo.proofs.Appends.{edit_written}
use Rattle.osl_demo.proofs.lines.write_edit.Goals as goal

pub returns-clause-text : goal.returns-clause-text
unfolding line_end
returns-clause-text c =
    edit_written _ _ _ _ _ _ _ _ _ c.draw.ensures.number c.draw.ensures.state c.draw-2.ensures.number
    c.in_ok-write_numbered.ensures c.in_ok-write_fraction.ensures c.in_ok-extend_from_slice.ensures.items
