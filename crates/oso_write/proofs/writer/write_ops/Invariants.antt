use Rattle.std.proofs.Common.{◌≡◌, ◌++◌, map, take}
use Rattle.std.specs.List.{flat_map}
use Rattle.oso_write.specs.Lines.{op_line}
use Rattle.oso_write.specs.Canon.{line_text}
use Rattle.oso_write.proofs.writer.write_ops.Given as goal

abbrev pub invariant-loop-op : goal.invariant-loop-op
invariant-loop-op l = l.out.items ≡ l.fn.out.items ++ flat_map line_text (map (op_line l.symbols) (take l.op-index l.ops))
