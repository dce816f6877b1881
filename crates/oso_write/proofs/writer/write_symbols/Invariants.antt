use Rattle.std.proofs.Common.{◌≡◌, ◌++◌, map, take}
use Rattle.std.specs.List.{flat_map}
use Rattle.oso_write.specs.Lines.{symbol_line}
use Rattle.oso_write.specs.Canon.{line_text}
use Rattle.oso_write.proofs.writer.write_symbols.Given as goal

abbrev pub invariant-loop-symbol : goal.invariant-loop-symbol
invariant-loop-symbol l = l.out.items ≡ l.fn.out.items ++ flat_map line_text (map symbol_line (take l.symbol-index l.symbols))
