use Rattle.std.proofs.Common.{List, ◌++◌, map, ap, ◌∙◌}
use Rattle.std.specs.List.{flat_map}
use Rattle.std.proofs.lemmas.Result.{IfOk-equal}
use Rattle.oso_code.specs.declared.symbol.Symbol.{Symbol}
use Rattle.oso_write.specs.Lines.{symbol_line}
use Rattle.oso_write.specs.Canon.{line_text}
use Rattle.oso_write.proofs.Texts.{canon_appended}
use Rattle.oso_write.proofs.writer.write_raw.Goals as goal

pub returns : goal.returns
returns c =
    let symbols = c.in_ok-write_symbols.ensures ∙ ap (λ (ss : List Symbol). c.write_shader.new.out.items ++ flat_map line_text (map symbol_line ss)) c.as_slice.ensures in
    IfOk-equal _ _ _ _ c.write_end.ensures
    (canon_appended c.args.raw.now c.args.out.now.items _ _ _ _ c.in_ok-write_header.ensures c.in_ok-write_shader.ensures symbols c.in_ok-write_sections.ensures)
