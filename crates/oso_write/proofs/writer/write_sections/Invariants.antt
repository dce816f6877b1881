use Rattle.std.proofs.Common.{◌≡◌, ◌++◌, take}
use Rattle.std.specs.List.{flat_map}
use Rattle.oso_write.specs.Lines.{section_lines}
use Rattle.oso_write.specs.Canon.{line_text}
use Rattle.oso_write.proofs.writer.write_sections.Given as goal

abbrev pub invariant-loop-section : goal.invariant-loop-section
invariant-loop-section l = l.out.items ≡ l.fn.out.items ++ flat_map line_text (flat_map (section_lines l.raw) (take l.section-index l.raw.sections))
